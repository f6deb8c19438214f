use Rattle.std.proofs.Common.{length, ◌-◌, ◌≤◌}
use Rattle.writer_trials.proofs.put_times.Given as goal

abbrev pub invariant-loop-i : goal.invariant-loop-i
invariant-loop-i l = l.n ≤ length l.pixels

abbrev pub decreases-loop-i : goal.decreases-loop-i
decreases-loop-i l = l.k - l.i
