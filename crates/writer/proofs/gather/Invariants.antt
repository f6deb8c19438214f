use Rattle.std.proofs.Common.{ℕ, Bool, ◌≤◌, ◌≡◌, length}
use Rattle.pixel_counts.specs.Counts.{Answers}
use Rattle.writer.proofs.Gathering.{Gathering}
use Rattle.writer.proofs.gather.Given as goal

abbrev pub invariant-loop-v : goal.invariant-loop-v
invariant-loop-v g l = (l.k ≤ l.v-index) × (length l.out ≡ length l.initial.out) × ((p : ℕ → Bool) → Answers p (goal.F-post g l.passes) → Gathering p l.s l.initial.out l.out l.k l.v-index)
