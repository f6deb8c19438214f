use Rattle.std.proofs.Common.{arith}
use Rattle.expand.proofs.Loops.{copying-start, copying-more, copying-done}
use Rattle.std.proofs.Common.{arith}
use Rattle.expand.proofs.lift_bytes.Goals as goal

pub loop-i-init : goal.loop-i-init
loop-i-init c = copying-start _ _ _

pub loop-i-preserved : goal.loop-i-preserved
loop-i-preserved c = copying-more c.loop-i.invariant (omega arith) (omega arith) (rw c.from.ensures)

pub returns : goal.returns
returns c = copying-done c.loop-i.invariant (omega arith) (omega arith)
