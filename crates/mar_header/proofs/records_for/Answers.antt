use Rattle.std.proofs.Common.{◌∙◌}
use Rattle.mar_header.proofs.Laws.{records-ceil}
use Rattle.mar_header.proofs.records_for.Goals as goal

pub returns : goal.returns
returns c = c.div_ceil.ensures ∙ rw c.side_pixels.ensures (records-ceil c.args.s c.args.n)
