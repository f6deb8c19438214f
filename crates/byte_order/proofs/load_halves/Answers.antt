use native.Mathlib.Nat.{mul-le-mul_left}
use native.Mathlib.Omega.{arith}
use lib.ListN.{length}
use borrow.Author.Tests.{le-leb, lt-leb}
use Rattle.layout.proofs.Laws.{width-le}
use Rattle.byte_order.proofs.load_halves.Goals as goal

pub overflow_mul-end : goal.overflow_mul-end
overflow_mul-end c = let s = c in
    rw c.width_bytes.ensures (omega (arith, mul-le-mul_left (length s.args.out.now) (width-le s.args.width)))

pub returns-then-t-end : goal.returns-then-t-end
returns-then-t-end c = let e = lt-leb _ _ c.if-t-end.true in
    let w = c.width_bytes.ensures in record { value = rw (← w, e); out_after = rw (← w, e) }

pub load_both-requires : goal.load_both-requires
load_both-requires c = rw c.width_bytes.ensures at c.if-t-end.false

pub returns-then-out-le2097152 : goal.returns-then-out-le2097152
returns-then-out-le2097152 c = c.load.ensures

pub returns : goal.returns
returns c = let w = c.width_bytes.ensures in
    let e = le-leb _ _ (rw w at c.if-t-end.false) in record { value = rw e; out_after = rw e c.load_both.ensures }
