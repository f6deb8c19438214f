use Rattle.std.proofs.Common.{◌∙◌}
use Rattle.byte_order.specs.Numbers.{number}
use Rattle.byte_order.proofs.Laws.{little-two}
use Rattle.byte_order.proofs.Little2Stored.read.Goals as goal

pub returns : goal.returns
unfolding number
returns c = c.from.ensures ∙ c.from_le_bytes.ensures ∙ little-two c.args.at c.args.t.now
