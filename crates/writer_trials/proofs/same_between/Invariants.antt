use Rattle.std.proofs.Common.{◌-◌}
use Rattle.writer_trials.proofs.same_between.Given as goal

abbrev pub decreases-loop-i : goal.decreases-loop-i
decreases-loop-i l = l.end - l.i
