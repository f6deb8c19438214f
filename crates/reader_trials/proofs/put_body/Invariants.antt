use Rattle.std.proofs.Common.{length, ◌+◌, ◌-◌, ◌≤◌}
use Rattle.reader_trials.proofs.put_body.Given as goal

abbrev pub invariant-loop-s : goal.invariant-loop-s
invariant-loop-s l = (l.s.at ≤ 16384) × (l.s.next ≤ length l.cell + 1)

abbrev pub decreases-loop-s : goal.decreases-loop-s
decreases-loop-s l = length l.cell + 1 - l.s.next
