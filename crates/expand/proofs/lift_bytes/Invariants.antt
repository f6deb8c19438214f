use Rattle.expand.proofs.Loops.{Copying}
use Rattle.expand.specs.Blocks.{wrapped}
use Rattle.expand.proofs.lift_bytes.Given as goal

abbrev pub invariant-loop-i : goal.invariant-loop-i
invariant-loop-i l = Copying (wrapped l.base) l.image l.initial.pixels l.pixels l.i
