use Rattle.std.proofs.Common.{◌∙◌}
use Rattle.pixel_counts.proofs.Counting.{passing-whole}
use Rattle.pixel_counts.proofs.count_under.Goals as goal

pub returns-in-Subtracted : goal.returns-in-Subtracted
returns-in-Subtracted c = rw c.in-Subtracted.is (c.count_at_most.ensures ∙ passing-whole _ _ c.requires)
