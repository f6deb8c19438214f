use Rattle.std.proofs.Common.{arith}
use Rattle.table.proofs.Storing.{less_none}
use Rattle.table.proofs.store.Goals as goal

pub returns : goal.returns
returns c =
    let k = c.store_less.ensures in
    record { value = k.value; out_after = rw (less_none c.args.values.now (λ i. omega (arith, c.type_inv.values i))) at k.out_after }
