use Rattle.std.proofs.Common.{◌∙◌}
use Rattle.byte_order.proofs.Laws.{little-four}
use Rattle.byte_order.proofs.little32.Goals as goal

pub returns : goal.returns
returns c = c.from_le_bytes.ensures ∙ little-four c.args.at c.args.t.now
