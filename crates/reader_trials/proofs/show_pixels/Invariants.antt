use Rattle.std.proofs.Common.{length, ◌-◌, ◌≤◌}
use Rattle.reader_trials.proofs.show_pixels.Given as goal

abbrev pub invariant-loop-i : goal.invariant-loop-i
invariant-loop-i l = l.i ≤ length l.pixels

abbrev pub decreases-loop-i : goal.decreases-loop-i
decreases-loop-i l = length l.pixels - l.i
