use Rattle.expand.proofs.Loops.{watching-start, watching-more, watching-done}
use Rattle.expand.proofs.any_too_large.Goals as goal

pub loop-v-init : goal.loop-v-init
loop-v-init c = watching-start _ _

pub loop-v-preserved : goal.loop-v-preserved
loop-v-preserved c = watching-more c.loop-v.invariant c.loop-v-test.true c.past-over.ensures

pub returns : goal.returns
returns c = watching-done c.loop-v.invariant c.loop-v-test.false
