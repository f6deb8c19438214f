use Rattle.std.proofs.Common.{◌≡◌, ℕ, ◌*◌, ◌≤◌, le_trans, mul-le-mul_right, arith}
use Rattle.lists.proofs.Halves.{part-loaded}
use Rattle.layout.specs.Form.{width_bytes}
use Rattle.table.specs.Table.{entries}
use Rattle.table.proofs.Laws.{entries-part}
use Rattle.table.proofs.load_part.Goals as goal

-- the part starts within t
starts : {p e n m r w : ℕ} → r ≡ w → p ≤ e → e ≤ n → n * w ≤ m → p * r ≤ m
starts {p} {e} {n} {m} {r} {w} q h k l = rw q (le_trans (mul-le-mul_right w (le_trans h k)) l)

pub overflow_mul-at : goal.overflow_mul-at
overflow_mul-at c = omega (arith, starts c.width_bytes.ensures c.requires.0 c.requires.1 c.requires.2)

pub slice_bounds-load-count : goal.slice_bounds-load-count
slice_bounds-load-count c = omega (arith, starts c.width_bytes.ensures c.requires.0 c.requires.1 c.requires.2)

pub slice_bounds-load-start : goal.slice_bounds-load-start
slice_bounds-load-start c = omega (arith, starts c.width_bytes.ensures c.requires.0 c.requires.1 c.requires.2)

pub returns : goal.returns
returns c =
    let w = width_bytes c.args.w in
    part-loaded (entries w) w (entries-part w) c.args.t.now c.args.out.now _ c.args.p c.args.e c.requires.0 c.requires.1 c.requires.2 (rw c.width_bytes.ensures at c.load.ensures.out_after)
