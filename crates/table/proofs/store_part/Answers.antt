use Rattle.std.proofs.Common.{◌≡◌, ℕ, ◌*◌, ◌≤◌, mul-le-mul_right, arith}
use Rattle.table.proofs.Storing.{part-stored}
use Rattle.table.proofs.store_part.Goals as goal

-- the part lies within out
inside : {p e n m r w : ℕ} → r ≡ w → p ≤ e → e ≤ n → m ≡ n * w → (p * r ≤ e * r) × (e * r ≤ m)
inside {p} {e} {n} {m} {r} {w} q h k l = (mul-le-mul_right r h, rw (l, ← q) (mul-le-mul_right r k))

pub overflow_mul-a : goal.overflow_mul-a
overflow_mul-a c = omega (arith, inside c.width_bytes-each.ensures c.requires.0 c.requires.1 c.requires.2)

pub overflow_mul-b : goal.overflow_mul-b
overflow_mul-b c = omega (arith, inside c.width_bytes-each.ensures c.requires.0 c.requires.1 c.requires.2)

pub slice_bounds-store-count-2 : goal.slice_bounds-store-count-2
slice_bounds-store-count-2 c = omega (arith, inside c.width_bytes-each.ensures c.requires.0 c.requires.1 c.requires.2)

pub slice_bounds-store-start-2 : goal.slice_bounds-store-start-2
slice_bounds-store-start-2 c = omega (arith, inside c.width_bytes-each.ensures c.requires.0 c.requires.1 c.requires.2)

pub slice_bounds-store-end-2 : goal.slice_bounds-store-end-2
slice_bounds-store-end-2 c = omega (arith, inside c.width_bytes-each.ensures c.requires.0 c.requires.1 c.requires.2)

pub returns : goal.returns
returns c =
    let w = c.width_bytes-each in
    rw (← w.ensures)
    (part-stored w.result c.args.values.now c.args.out.now _ c.args.p c.args.e c.requires.0 c.requires.1 (rw (← w.ensures) at c.requires.2) (rw (← w.ensures) at c.store.ensures.out_after))
