use Rattle.std.proofs.Common.{◌-◌}
use Rattle.archive_trials.proofs.show_counts.Given as goal

abbrev pub decreases-loop-k : goal.decreases-loop-k
decreases-loop-k l = 28 - l.k
