use Rattle.lists.proofs.Tests.{and-false}
use Rattle.numeral.specs.Numerals.{number_of}
use borrow.Author.Tests.{le-leb, lt-leb}
use lib.ListN.{length}
use native.Mathlib.Omega.{arith}
use Rattle.numeral.proofs.number_of.Goals as goal

pub returns-then-field-eq0 : goal.returns-then-field-eq0
unfolding number_of
returns-then-field-eq0 c = rw c.if-field-eq0.true

pub returns-then-field-gt10 : goal.returns-then-field-gt10
unfolding number_of
returns-then-field-gt10 c = let n = length c.args.field.now in simp (lt-leb n 10 c.if-field-gt10.true, and-false)

pub returns : goal.returns
unfolding number_of
returns c = let n = length c.args.field.now in rw (le-leb 1 n (omega arith), le-leb n 10 c.if-field-gt10.false) c.gather.ensures
