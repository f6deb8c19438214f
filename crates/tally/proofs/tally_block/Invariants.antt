use Rattle.lists.proofs.Only.{Counting}
use Rattle.tally.specs.Tally.{is_outside}
use Rattle.tally.proofs.Laws.{is_equal}
use Rattle.tally.proofs.tally_block.Given as goal

abbrev pub invariant-loop-v : goal.invariant-loop-v
invariant-loop-v l = Counting (is_equal 0) l.block l.zeros l.v-index × Counting (is_equal l.mark) l.block l.marks l.v-index × Counting (is_outside l.low l.high) l.block l.outside l.v-index
