use Rattle.std.proofs.Common.{◌-◌}
use Rattle.archive_trials.proofs.play.Given as goal

abbrev pub decreases-loop-k : goal.decreases-loop-k
decreases-loop-k l = l.calls - l.k
