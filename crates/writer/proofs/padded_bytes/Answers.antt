use Rattle.layout.proofs.Laws.{width-le, table-small}
use Rattle.std.proofs.Common.{arith}
use Rattle.writer.proofs.padded_bytes.Goals as goal

pub returns : goal.returns
returns c = record { value = c.table_bytes.ensures; upper_bound = rw c.table_bytes.ensures (omega (arith, table-small _ c.args.n (width-le c.args.w) (omega arith))) }
