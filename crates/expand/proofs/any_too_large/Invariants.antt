use Rattle.expand.proofs.Loops.{Watching}
use Rattle.expand.proofs.any_too_large.Given as goal

abbrev pub invariant-loop-v : goal.invariant-loop-v
invariant-loop-v l = Watching l.base l.s l.over l.v-index
