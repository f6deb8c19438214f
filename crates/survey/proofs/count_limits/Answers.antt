use Prim.Native.Nat.{◌+◌}
use mathlib.Core.Path.{◌∙◌}
use native.Mathlib.Omega.{arith}
use lib.ListN.{get_or}
use lib.Dec.{ltb}
use Rattle.lists.proofs.Only.{counting-start, counting_more, one_at_most}
use Rattle.pixel_counts.proofs.Counting.{one_if}
use Rattle.survey.proofs.Surveying.{limits-are}
use Rattle.survey.proofs.count_limits.Goals as goal

pub loop-v-init : goal.loop-v-init
loop-v-init c = (counting-start _ _, counting-start _ _, counting-start _ _, counting-start _ _, counting-start _ _)

pub overflow_add-two : goal.overflow_add-two
overflow_add-two c = omega (arith, one_at_most (ltb 254) (get_or c.args.block.now c.loop-v.v-index 0) _ (c.from-two.ensures ∙ one_if _), c.loop-v.invariant.0.low)

pub overflow_add-four : goal.overflow_add-four
overflow_add-four c = omega (arith, one_at_most (ltb 65534) (get_or c.args.block.now c.loop-v.v-index 0) _ (c.from-four.ensures ∙ one_if _), c.loop-v.invariant.1.low)

pub overflow_add-over : goal.overflow_add-over
overflow_add-over c = omega (arith, one_at_most (ltb c.args.base) _ _ (c.from-over.ensures ∙ one_if _), c.loop-v.invariant.2.low)

pub overflow_add-low_two : goal.overflow_add-low_two
overflow_add-low_two c = omega (arith, one_at_most (ltb (c.args.base + 254)) _ _ (c.from-low_two.ensures ∙ one_if _), c.loop-v.invariant.3.low)

pub overflow_add-low_four : goal.overflow_add-low_four
overflow_add-low_four c = omega (arith, one_at_most (ltb (c.args.base + 65534)) _ _ (c.from-low_four.ensures ∙ one_if _), c.loop-v.invariant.4.low)

pub loop-v-preserved : goal.loop-v-preserved
loop-v-preserved c = let l = c.loop-v in
    let t = c.loop-v-test.true in
    (counting_more _ l.invariant.0 t (c.from-two.ensures ∙ one_if _), counting_more _ l.invariant.1 t (c.from-four.ensures ∙ one_if _), counting_more _ l.invariant.2 t (c.from-over.ensures ∙ one_if _), counting_more _ l.invariant.3 t (c.from-low_two.ensures ∙ one_if _), counting_more _ l.invariant.4 t (c.from-low_four.ensures ∙ one_if _))

pub returns : goal.returns
returns c = limits-are _ c.loop-v.invariant.0 c.loop-v.invariant.1 c.loop-v.invariant.2 c.loop-v.invariant.3 c.loop-v.invariant.4 c.loop-v-test.false
