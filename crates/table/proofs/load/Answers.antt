use Rattle.std.proofs.Common.{◌∙◌, ◌+◌, ◌*◌, ◌≤◌, length, mul-le-mul_left, arith, le-leb}
use borrow.Author.Tests.{lt-leb}
use Rattle.lists.proofs.Writing.{writing-whole}
use Rattle.layout.proofs.Laws.{width-le}
use Rattle.table.proofs.Laws.{loading-start, loading-more, within, little-one}
use Rattle.table.proofs.load.Goals as goal

pub overflow_mul-out : goal.overflow_mul-out
overflow_mul-out c =
    let e : c.width_bytes-each.result ≤ 4 = rw c.width_bytes-each.ensures (width-le c.args.w) in
    omega (arith, mul-le-mul_left (length c.args.out.now) e)

pub returns-then-t-out : goal.returns-then-t-out
returns-then-t-out c =
    let e = lt-leb _ _ c.if-t-out.true in
    let w = c.width_bytes-each.ensures in record { value = rw (← w, e); out_after = rw (← w, e) }

pub loop-i-init : goal.loop-i-init
loop-i-init c = loading-start _ _ _

pub loop-i-preserved : goal.loop-i-preserved
loop-i-preserved c =
    let w = c.width_bytes-each.result in
    let h : c.loop-i.i * w + w ≤ length c.args.t.now = omega (arith, within c.loop-i.i (length c.args.out.now) w c.loop-i-test.true) in
    loading-more w c.args.t.now _ c.loop-i.invariant c.loop-i-test.true (c.read_le.ensures ∙ little-one w _ _ h)

pub returns : goal.returns
returns c =
    let e = le-leb _ _ c.if-t-out.false in
    let w = c.width_bytes-each.ensures in record { value = rw (← w, e); out_after = rw (← w, e) (writing-whole c.loop-i.invariant (omega arith)) }
