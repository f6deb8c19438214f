use Rattle.std.proofs.Common.{◌∙◌}
use Rattle.expand.proofs.Loops.{byte-one}
use native.Mathlib.Omega.{arith}
use lib.ListN.{get_or}
use Rattle.lists.proofs.Only.{counting-start, counting_more, one_at_most}
use Rattle.tally.specs.Tally.{is_outside}
use Rattle.tally.proofs.Laws.{is_equal, counted_is}
use Rattle.tally.proofs.tally_block.Goals as goal

pub loop-v-init : goal.loop-v-init
loop-v-init c = (counting-start _ _, counting-start _ _, counting-start _ _)

pub overflow_add-zeros : goal.overflow_add-zeros
overflow_add-zeros c = omega (arith, one_at_most (is_equal 0) (get_or c.args.block.now c.loop-v.v-index 0) _ (c.from-zeros.ensures ∙ byte-one _), c.loop-v.invariant.0.low)

pub overflow_add-marks : goal.overflow_add-marks
overflow_add-marks c = omega (arith, one_at_most (is_equal c.args.mark) _ _ (c.from-marks.ensures ∙ byte-one _), c.loop-v.invariant.1.low)

pub overflow_add-outside : goal.overflow_add-outside
overflow_add-outside c = omega (arith, one_at_most (is_outside c.args.low c.args.high) _ _ (c.from-outside.ensures ∙ byte-one _), c.loop-v.invariant.2.low)

pub loop-v-preserved : goal.loop-v-preserved
loop-v-preserved c = let l = c.loop-v in
    let t = c.loop-v-test.true in
    (counting_more _ l.invariant.0 t (c.from-zeros.ensures ∙ byte-one _), counting_more _ l.invariant.1 t (c.from-marks.ensures ∙ byte-one _), counting_more _ l.invariant.2 t (c.from-outside.ensures ∙ byte-one _))

pub returns : goal.returns
returns c = counted_is c.args.mark c.args.low c.args.high c.loop-v.invariant.0 c.loop-v.invariant.1 c.loop-v.invariant.2 c.loop-v-test.false
