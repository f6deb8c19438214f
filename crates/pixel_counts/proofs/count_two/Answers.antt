use Rattle.std.proofs.Common.{◌∙◌}
use Rattle.pixel_counts.proofs.Counting.{passing-whole}
use Rattle.pixel_counts.proofs.count_two.Goals as goal

pub returns-in-One : goal.returns-in-One
returns-in-One c = rw c.in-One.is (c.count_from.ensures ∙ passing-whole _ _ c.requires)
