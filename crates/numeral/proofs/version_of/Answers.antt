use Rattle.numeral.proofs.Runs.{passed-within}
use Rattle.numeral.specs.declared.Class.TheVariants.{Digit}
use Rattle.numeral.specs.Runs.{in_class}
use Rattle.numeral.specs.Numerals.{version_of}
use borrow.Author.Tests.{le-leb, lt-leb}
use lib.Seq.{length-take-le}
use native.Mathlib.Omega.{arith}
use mathlib.Core.Path.{sym}
use Rattle.numeral.proofs.version_of.Goals as goal

pub returns-then-digits-gt2 : goal.returns-then-digits-gt2
unfolding version_of
returns-then-digits-gt2 c = rw (← c.run_end-digits.ensures, lt-leb _ _ c.if-digits-gt2.true)

pub returns-then-end-field : goal.returns-then-end-field
unfolding version_of
returns-then-end-field c = rw (← c.run_end-digits.ensures, ← c.run_end-end.ensures, lt-leb _ _ c.if-end-field.true) (rw (le-leb _ _ c.if-digits-gt2.false))

pub returns-then-digits-end : goal.returns-then-digits-end
unfolding version_of
returns-then-digits-end c = rw (← c.run_end-digits.ensures, ← c.run_end-end.ensures, le-leb _ _ c.if-digits-gt2.false, le-leb _ _ c.if-end-field.false, lt-leb _ _ c.if-digits-end.true)

pub slice_bounds-number_of-end : goal.slice_bounds-number_of-end
slice_bounds-number_of-end c = sym (length-take-le c.run_end-digits.result c.args.field.now (omega (arith, c.run_end-digits.ensures, passed-within (in_class Digit) c.args.field.now 0 (omega arith))))

pub returns : goal.returns
unfolding version_of
returns c = rw (← c.run_end-digits.ensures, ← c.run_end-end.ensures, le-leb _ _ c.if-digits-gt2.false, le-leb _ _ c.if-end-field.false, le-leb _ _ c.if-digits-end.false) c.number_of.ensures
