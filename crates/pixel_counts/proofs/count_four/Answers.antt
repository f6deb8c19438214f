use Rattle.std.proofs.Common.{◌+◌, ◌∙◌, arith}
use Rattle.lists.proofs.Only.{none_from}
use Rattle.pixel_counts.proofs.Counting.{passing-whole, from-whole}
use Rattle.pixel_counts.proofs.count_four.Goals as goal

pub returns-in-One : goal.returns-in-One
returns-in-One c = rw c.in-One.is (c.count_above.ensures ∙ from-whole _ _ _ c.requires.0 (none_from (c.args.base + 255) (c.args.base + 65535) _ _ (omega arith) (rw c.in-One.is at c.requires.2)))

pub returns-in-Two : goal.returns-in-Two
returns-in-Two c = rw c.in-Two.is (c.count_from.ensures ∙ passing-whole _ _ c.requires.0)
