use Rattle.std.proofs.Common.{length, ◌-◌, ◌≤◌}
use Rattle.archive_trials.proofs.make_pixels.Given as goal

abbrev pub invariant-loop-i : goal.invariant-loop-i
invariant-loop-i l = l.i ≤ length l.initial.pixels

abbrev pub decreases-loop-i : goal.decreases-loop-i
decreases-loop-i l = length l.initial.pixels - l.i
