use Rattle.expand.proofs.Loops.{Mapping}
use Rattle.writer.specs.Blocks.{capped}
use Rattle.writer.proofs.cap.Given as goal

abbrev pub invariant-loop-v : goal.invariant-loop-v
invariant-loop-v l = Mapping (capped l.limit) l.initial.s l.s l.v-index
