use mathlib.Core.Path.{◌∙◌}
use native.Mathlib.Omega.{arith}
use lib.Dec.{ltb}
use Rattle.lists.proofs.Only.{counting-start, counting_more, one_at_most}
use Rattle.pixel_counts.proofs.Counting.{one_if}
use Rattle.survey.proofs.Surveying.{pair_is}
use Rattle.survey.proofs.count_pair.Goals as goal

pub loop-v-init : goal.loop-v-init
loop-v-init c = (counting-start _ _, counting-start _ _)

pub overflow_add-first : goal.overflow_add-first
overflow_add-first c = omega (arith, one_at_most (ltb c.args.a) _ _ (c.from-first.ensures ∙ one_if _), c.loop-v.invariant.0.low)

pub overflow_add-second : goal.overflow_add-second
overflow_add-second c = omega (arith, one_at_most (ltb c.args.b) _ _ (c.from-second.ensures ∙ one_if _), c.loop-v.invariant.1.low)

pub loop-v-preserved : goal.loop-v-preserved
loop-v-preserved c = (counting_more _ c.loop-v.invariant.0 c.loop-v-test.true (c.from-first.ensures ∙ one_if _), counting_more _ c.loop-v.invariant.1 c.loop-v-test.true (c.from-second.ensures ∙ one_if _))

pub returns : goal.returns
returns c = pair_is _ _ c.loop-v.invariant.0 c.loop-v.invariant.1 c.loop-v-test.false
