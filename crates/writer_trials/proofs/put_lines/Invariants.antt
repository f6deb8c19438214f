use Rattle.std.proofs.Common.{◌-◌}
use Rattle.writer_trials.proofs.put_lines.Given as goal

abbrev pub decreases-loop-k : goal.decreases-loop-k
decreases-loop-k l = 9 - l.k
