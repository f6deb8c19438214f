use Rattle.std.proofs.Common.{refl, arith}
use Rattle.expand.proofs.Loops.{mapping-start, mapping-more, mapping-done}
use Rattle.expand.proofs.lift.Goals as goal

pub loop-v-init : goal.loop-v-init
loop-v-init c = mapping-start _ _

pub loop-v-preserved : goal.loop-v-preserved
loop-v-preserved c = mapping-more c.loop-v.invariant (omega arith) refl

pub returns : goal.returns
returns c = mapping-done c.loop-v.invariant (omega arith)
