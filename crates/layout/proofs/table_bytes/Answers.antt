use Prim.Native.Nat.{◌*◌, ◌≤◌}
use native.Mathlib.Omega.{arith}
use Rattle.layout.specs.Layout.{table_bytes}
use Rattle.layout.proofs.Laws.{bytes_le}
use Rattle.layout.proofs.table_bytes.Goals as goal

bound : (c : goal.After-width_bytes-each) → c.args.count * c.width_bytes-each.result ≤ c.args.count * 4
bound c = rw c.width_bytes-each.ensures (bytes_le c.args.count c.args.w)

pub overflow_mul-result : goal.overflow_mul-result
overflow_mul-result c = omega (arith, bound c)

pub overflow_add-result : goal.overflow_add-result
overflow_add-result c = omega (arith, bound c)

pub overflow_mul-result-2 : goal.overflow_mul-result-2
overflow_mul-result-2 c = omega (arith, bound c)

pub returns : goal.returns
unfolding table_bytes
returns c = rw c.width_bytes-each.ensures
