use Rattle.std.proofs.Common.{◌*◌, ◌≤◌, arith}
use Rattle.layout.specs.Form.{width_bytes}
use Rattle.layout.proofs.Laws.{bytes_le}
use Rattle.expand.specs.Places.{extent_of}
use Rattle.expand.proofs.Extents.{table-le}
use Rattle.expand.proofs.extent_of.Goals as goal

pub overflow_mul-padding : goal.overflow_mul-padding
overflow_mul-padding c = let bound : c.args.count * c.width_bytes-each.result ≤ c.args.count * 4 = rw c.width_bytes-each.ensures (bytes_le c.args.count c.args.w) in
    omega (arith, bound)

pub overflow_add-padding : goal.overflow_add-padding
overflow_add-padding c = let bound : c.args.count * c.width_bytes-each.result ≤ c.args.count * 4 = rw c.width_bytes-each.ensures (bytes_le c.args.count c.args.w) in
    omega (arith, bound)

pub overflow_add-end : goal.overflow_add-end
overflow_add-end c = omega (arith, c.table_bytes.ensures, table-le (width_bytes c.args.w) c.args.count, bytes_le c.args.count c.args.w)

pub returns : goal.returns
unfolding extent_of
returns c = record { value = rw (c.width_bytes-each.ensures, c.table_bytes.ensures); end_bound = omega (arith, c.table_bytes.ensures, table-le (width_bytes c.args.w) c.args.count, bytes_le c.args.count c.args.w) }
