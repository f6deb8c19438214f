use Rattle.std.proofs.Common.{length, ◌-◌, ◌≤◌}
use Rattle.writer_trials.proofs.put_pixels.Given as goal

abbrev pub invariant-loop-at : goal.invariant-loop-at
invariant-loop-at l = l.n ≤ length l.pixels

abbrev pub decreases-loop-at : goal.decreases-loop-at
decreases-loop-at l = length l.text - l.at
