use Rattle.overflow86.proofs.Loops.{Awaiting}
use Rattle.overflow86.proofs.await_entries.Given as goal

abbrev pub invariant-loop-v : goal.invariant-loop-v
invariant-loop-v l = Awaiting l.mark l.initial.pixels l.pixels l.marks l.v-index
