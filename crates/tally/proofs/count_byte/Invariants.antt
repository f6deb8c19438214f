use Rattle.tally.proofs.Laws.{is_equal}
use Rattle.lists.proofs.Only.{Counting}
use Rattle.tally.proofs.count_byte.Given as goal

abbrev pub invariant-loop-b : goal.invariant-loop-b
invariant-loop-b l = Counting (is_equal l.m) l.s l.k l.b-index
