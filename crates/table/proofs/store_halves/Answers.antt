use Rattle.std.proofs.Common.{length, sym, ◌∙◌, mul-le-mul_left, arith, length-take-le, le-leb}
use borrow.Author.Tests.{lt-leb}
use Rattle.layout.proofs.Laws.{width-le}
use Rattle.table.proofs.store_halves.Goals as goal

pub overflow_mul-end : goal.overflow_mul-end
overflow_mul-end c = let s = c in
    rw c.width_bytes.ensures (omega (arith, mul-le-mul_left (length s.args.values.now) (width-le s.args.w)))

pub returns-then-out-end : goal.returns-then-out-end
returns-then-out-end c = let e = lt-leb _ _ c.if-out-end.true in
    let w = c.width_bytes.ensures in record { value = rw (← w, e); out_after = rw (← w, e) }

pub slice_bounds-store_both-end-2 : goal.slice_bounds-store_both-end-2
slice_bounds-store_both-end-2 c = sym (length-take-le _ _ c.if-out-end.false)

pub store_both-requires : goal.store_both-requires
store_both-requires c = length-take-le _ _ c.if-out-end.false ∙ rw c.width_bytes.ensures

pub returns : goal.returns
returns c = let w = c.width_bytes.ensures in
    let e = le-leb _ _ (rw w at c.if-out-end.false) in record { value = rw e; out_after = rw (e, w, c.store_both.ensures) }
