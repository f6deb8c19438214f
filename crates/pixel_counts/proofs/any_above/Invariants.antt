use Rattle.pixel_counts.proofs.Watching.{Watching}
use Rattle.pixel_counts.proofs.any_above.Given as goal

abbrev pub invariant-loop-v : goal.invariant-loop-v
invariant-loop-v l = Watching l.base l.pixels l.found l.v-index
