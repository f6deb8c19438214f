use Rattle.std.proofs.Common.{◌∙◌, arith, length}
use native.Mathlib.Nat.{suc-mul}
use native.Mathlib.Numerals.{add-one}
use Rattle.lists.proofs.Writing.{writing_start, writing_more}
use Rattle.byte_order.proofs.Laws.{length-numbers, numbers-at}
use Rattle.byte_order.proofs.load_stored.Goals as goal

pub loop-place-init : goal.loop-place-init
loop-place-init g c = (writing_start _ _ (rw length-numbers (omega arith)), omega arith)

pub loop-place-preserved : goal.loop-place-preserved
loop-place-preserved g c =
    let l = c.loop-place in
    let a = c.args in
    (writing_more _ l.invariant.0 (rw length-numbers (omega arith)) (c.read.ensures ∙ rw (numbers-at g.S.Stored.order g.S.Stored.BYTES (length a.out.now) a.t.now l.place-index (omega arith), l.invariant.1)), rw (c.BYTES-at.ensures, l.invariant.1, add-one, suc-mul))
