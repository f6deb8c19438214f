use Prim.Native.Nat.{◌*◌, ◌≤◌}
use native.Mathlib.Nat.{mul-le-mul_right, le_trans}
use native.Mathlib.Omega.{arith}
use lib.ListN.{length}
use Rattle.lists.proofs.Halves.{part-loaded}
use Rattle.layout.specs.Form.{width_bytes}
use Rattle.byte_order.specs.Numbers.{numbers}
use Rattle.byte_order.proofs.Laws.{numbers-part}
use Rattle.byte_order.proofs.load_part.Goals as goal

pub overflow_mul-at : goal.overflow_mul-at
overflow_mul-at c = let starts : c.args.p * c.width_bytes.result ≤ length c.args.t.now = let s = c in
    rw c.width_bytes.ensures (le_trans (mul-le-mul_right (width_bytes s.args.width) (omega arith)) s.requires.2) in
    omega (arith, starts)

pub slice_bounds-load-count : goal.slice_bounds-load-count
slice_bounds-load-count c = let starts : c.args.p * c.width_bytes.result ≤ length c.args.t.now = let s = c in
    rw c.width_bytes.ensures (le_trans (mul-le-mul_right (width_bytes s.args.width) (omega arith)) s.requires.2) in
    omega (arith, starts)

pub slice_bounds-load-start : goal.slice_bounds-load-start
slice_bounds-load-start c = let starts : c.args.p * c.width_bytes.result ≤ length c.args.t.now = let s = c in
    rw c.width_bytes.ensures (le_trans (mul-le-mul_right (width_bytes s.args.width) (omega arith)) s.requires.2) in
    omega (arith, starts)

pub returns : goal.returns
returns c = let s = c in
    let w = width_bytes s.args.width in
    part-loaded (numbers s.args.order w) w (numbers-part s.args.order w) s.args.t.now s.args.out.now _ s.args.p s.args.e s.requires.0 s.requires.1 s.requires.2 (rw c.width_bytes.ensures at c.load.ensures.out_after)
