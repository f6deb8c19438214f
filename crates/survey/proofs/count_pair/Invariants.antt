use lib.Dec.{ltb}
use Rattle.lists.proofs.Only.{Counting}
use Rattle.survey.proofs.count_pair.Given as goal

abbrev pub invariant-loop-v : goal.invariant-loop-v
invariant-loop-v l = Counting (ltb l.a) l.block l.first l.v-index × Counting (ltb l.b) l.block l.second l.v-index
