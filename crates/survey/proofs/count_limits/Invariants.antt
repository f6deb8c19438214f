use Prim.Native.Nat.{◌+◌}
use lib.Dec.{ltb}
use Rattle.lists.proofs.Only.{Counting}
use Rattle.survey.proofs.count_limits.Given as goal

abbrev pub invariant-loop-v : goal.invariant-loop-v
invariant-loop-v l = Counting (ltb 254) l.block l.two l.v-index × Counting (ltb 65534) l.block l.four l.v-index × Counting (ltb l.base) l.block l.over l.v-index × Counting (ltb (l.base + 254)) l.block l.low_two l.v-index × Counting (ltb (l.base + 65534)) l.block l.low_four l.v-index
