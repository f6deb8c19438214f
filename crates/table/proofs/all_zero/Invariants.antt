use Rattle.table.proofs.Laws.{Scanning}
use Rattle.table.proofs.all_zero.Given as goal

abbrev pub invariant-loop-b : goal.invariant-loop-b
invariant-loop-b l = Scanning l.t l.zero l.b-index
