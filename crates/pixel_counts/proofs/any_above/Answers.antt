use Rattle.std.proofs.Common.{refl}
use Rattle.pixel_counts.proofs.Watching.{watching-start, watching-more, watching-done}
use Rattle.pixel_counts.proofs.any_above.Goals as goal

pub loop-v-init : goal.loop-v-init
loop-v-init c = watching-start _ _

pub loop-v-preserved : goal.loop-v-preserved
loop-v-preserved c = watching-more _ c.loop-v.invariant c.loop-v-test.true refl

pub returns : goal.returns
returns c = watching-done c.loop-v.invariant c.loop-v-test.false
