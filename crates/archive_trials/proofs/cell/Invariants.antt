use Rattle.std.proofs.Common.{length, ◌-◌, ◌≤◌}
use Rattle.archive_trials.proofs.cell.Given as goal

abbrev pub invariant-loop-i : goal.invariant-loop-i
invariant-loop-i l = l.at ≤ length l.row

abbrev pub decreases-loop-i : goal.decreases-loop-i
decreases-loop-i l = l.k - l.i
