use Rattle.header_text.proofs.Cells.{counts-data}
use Rattle.header_text.proofs.put_noverfl.Goals as goal

pub returns : goal.returns
returns c = counts-data _ _ c.args.out.now _ _ _ c.requires c.put_underflow_count.ensures c.put_number.ensures c.put_number-2.ensures
