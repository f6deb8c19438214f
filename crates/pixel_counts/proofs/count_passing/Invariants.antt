use Rattle.std.proofs.Common.{ℕ, Bool}
use Rattle.pixel_counts.specs.Counts.{Answers}
use Rattle.pixel_counts.proofs.Counting.{Wrapping}
use Rattle.pixel_counts.proofs.count_passing.Given as goal

abbrev pub invariant-loop-v : goal.invariant-loop-v
invariant-loop-v g l = (p : ℕ → Bool) → Answers p (goal.F-post g l.passes) → Wrapping p l.s l.k l.v-index
