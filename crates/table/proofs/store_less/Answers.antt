use Rattle.std.proofs.Common.{◌+◌, ◌*◌, ◌≤◌, length, sym, mul-le-mul_left, arith, le-leb}
use lib.ListN.{length-map}
use borrow.Author.Tests.{lt-leb}
use Rattle.layout.proofs.Laws.{width-le}
use Rattle.table.proofs.Laws.{within}
use Rattle.lists.proofs.Parts.{map_at}
use Rattle.table.specs.Writing.{less_wrapped}
use Rattle.table.proofs.Storing.{storing-start, storing-more, storing-done, put-one}
use Rattle.table.proofs.store_less.Goals as goal

pub overflow_mul-values : goal.overflow_mul-values
overflow_mul-values c =
    let e : c.width_bytes-each.result ≤ 4 = rw c.width_bytes-each.ensures (width-le c.args.w) in
    omega (arith, mul-le-mul_left (length c.args.values.now) e)

pub returns-then-out-values : goal.returns-then-out-values
returns-then-out-values c =
    let e = lt-leb _ _ c.if-out-values.true in
    let w = c.width_bytes-each.ensures in record { value = rw (← w, e); out_after = rw (← w, e) }

pub loop-i-init : goal.loop-i-init
loop-i-init c = storing-start _ _ _

pub loop-i-preserved : goal.loop-i-preserved
loop-i-preserved c =
    let w = c.width_bytes-each.result in
    let more = c.loop-i-test.true in
    let h : c.loop-i.i * w + w ≤ length c.args.out.now = omega (arith, within c.loop-i.i (length c.args.values.now) w more) in
    storing-more _ c.loop-i.invariant (rw length-map more) h
    (sym (map_at (less_wrapped c.args.base) c.args.values.now c.loop-i.i more))
    (put-one w _ _ c.loop-i.out _ (omega arith) c.put_le.ensures)

pub returns : goal.returns
returns c =
    let e = le-leb _ _ c.if-out-values.false in
    let w = c.width_bytes-each.ensures in
    record { value = rw (← w, e); out_after = rw (← w, e) (rw length-map at (storing-done c.loop-i.invariant (rw length-map (omega arith)))) }
