use Rattle.std.proofs.Common.{◌∙◌, arith}
use Rattle.writer.proofs.Gathering.{capped-is}
use Rattle.expand.proofs.Loops.{mapping-start, mapping-more, mapping-done}
use Rattle.writer.proofs.cap.Goals as goal

pub loop-v-init : goal.loop-v-init
loop-v-init c = mapping-start _ _

pub loop-v-preserved : goal.loop-v-preserved
loop-v-preserved c = mapping-more c.loop-v.invariant (omega (arith, c.loop-v.invariant.same)) (c.min.ensures ∙ capped-is _ _)

pub shape_of-s : goal.shape_of-s
shape_of-s c = c.loop-v.invariant.same

pub returns : goal.returns
returns c = mapping-done c.loop-v.invariant (omega (arith, c.loop-v.invariant.same))
