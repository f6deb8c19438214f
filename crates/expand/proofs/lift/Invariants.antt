use Rattle.expand.specs.Blocks.{wrapped}
use Rattle.expand.proofs.Loops.{Mapping}
use Rattle.expand.proofs.lift.Given as goal

abbrev pub invariant-loop-v : goal.invariant-loop-v
invariant-loop-v l = Mapping (wrapped l.base) l.initial.pixels l.pixels l.v-index
