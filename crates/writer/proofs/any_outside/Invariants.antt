use Rattle.writer.specs.Blocks.{is_outside}
use Rattle.writer.proofs.Runs.{Looking}
use Rattle.writer.proofs.any_outside.Given as goal

abbrev pub invariant-loop-v : goal.invariant-loop-v
invariant-loop-v l = Looking (is_outside l.k) l.s l.found l.v-index
