use Rattle.std.proofs.Common.{length, ◌-◌, ◌≤◌}
use Rattle.reader_trials.proofs.put_lines.Given as goal

abbrev pub invariant-loop-k : goal.invariant-loop-k
invariant-loop-k l = (l.at ≤ length l.row) × (l.k ≤ 7)

abbrev pub decreases-loop-k : goal.decreases-loop-k
decreases-loop-k l = 7 - l.k
