use Prim.Native.Nat.{◌-◌}
use lib.ListN.{length, drop}
use Rattle.numeral.proofs.Runs.{passed-within}
use Rattle.numeral.specs.declared.Class.TheVariants.{Digit}
use Rattle.numeral.specs.Runs.{in_class}
use Rattle.numeral.specs.Numerals.{fraction_is_zero, decimal_is}
use lib.Seq.{length-take-le, take_all}
use lib.ListN.{length-drop}
use native.Mathlib.Omega.{arith}
use mathlib.Core.Path.{sym, ◌∙◌, ap}
use Rattle.numeral.proofs.decimal_is.Goals as goal

pub slice_bounds-is_whole-end : goal.slice_bounds-is_whole-end
slice_bounds-is_whole-end c = sym (length-take-le c.run_end-digits.result c.args.field.now (omega (arith, c.run_end-digits.ensures, passed-within (in_class Digit) c.args.field.now 0 (omega arith))))

pub slice_bounds-fraction_is_zero-count : goal.slice_bounds-fraction_is_zero-count
slice_bounds-fraction_is_zero-count c = omega (arith, c.run_end-digits.ensures, passed-within (in_class Digit) c.args.field.now 0 (omega arith))

pub slice_bounds-fraction_is_zero-start : goal.slice_bounds-fraction_is_zero-start
slice_bounds-fraction_is_zero-start c = omega (arith, c.run_end-digits.ensures, passed-within (in_class Digit) c.args.field.now 0 (omega arith))

pub returns-then-is_whole : goal.returns-then-is_whole
unfolding decimal_is
returns-then-is_whole c = let f = c.args.field.now in let d = c.run_end-digits.result in rw (← c.run_end-digits.ensures, ← c.is_whole.ensures, c.if-is_whole.true) (c.fraction_is_zero.ensures ∙ ap fraction_is_zero (take_all (length f - d) (drop d f) (omega (arith, length-drop d f))))

pub returns-else-is_whole : goal.returns-else-is_whole
unfolding decimal_is
returns-else-is_whole c = rw (← c.run_end-digits.ensures, ← c.is_whole.ensures, c.if-is_whole.false)
