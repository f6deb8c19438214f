use Rattle.writer.proofs.Runs.{looking-start, looking-more, looking-done}
use Rattle.writer.proofs.any_outside.Goals as goal

pub loop-v-init : goal.loop-v-init
loop-v-init c = looking-start _ _

pub is_outside-found-requires : goal.is_outside-found-requires
is_outside-found-requires c = c.requires

pub loop-v-preserved : goal.loop-v-preserved
loop-v-preserved c = looking-more _ c.loop-v.invariant c.loop-v-test.true c.is_outside-found.ensures

pub returns : goal.returns
returns c = looking-done c.loop-v.invariant c.loop-v-test.false
