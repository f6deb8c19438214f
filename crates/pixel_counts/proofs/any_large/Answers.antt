use Rattle.std.proofs.Common.{sym}
use Rattle.pixel_counts.proofs.Watching.{none_above}
use Rattle.pixel_counts.proofs.any_large.Goals as goal

pub returns-then-base-le255 : goal.returns-then-base-le255
returns-then-base-le255 c = sym (none_above _ _ c.if-base-le255.true)
