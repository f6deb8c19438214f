use Rattle.pixel_counts.proofs.Counting.{wrapping-start, wrapping-more, wrapping-done}
use Rattle.pixel_counts.proofs.count_passing.Goals as goal

pub loop-v-init : goal.loop-v-init
loop-v-init g c = λ p a. wrapping-start _ _

pub loop-v-preserved : goal.loop-v-preserved
loop-v-preserved g c = λ p a. wrapping-more c.passes.result (c.loop-v.invariant p a) c.loop-v-test.true (a _ _ c.passes.ensures) (rw c.from-one.ensures)

pub returns : goal.returns
returns g c = λ p a. wrapping-done (c.loop-v.invariant p a) c.loop-v-test.false
