use Rattle.std.proofs.Common.{arith, length, ◌<◌}
use Rattle.expand.proofs.Loops.{filling-start, filling-hit, filling-miss, filling-count, filling-done}
use Rattle.expand.proofs.fill_marked.Goals as goal
use Rattle.expand.proofs.fill_marked.Goals.{then-v-mark, else-v-mark}

pub loop-v-init : goal.loop-v-init
loop-v-init c = filling-start _ _ _ _ _

pub loop-v-preserved : goal.loop-v-preserved
loop-v-preserved c = let l = c.loop-v in
    let more : l.v-index < length l.pixels = omega arith in
    elim c.if-v-mark.branch [
      | then-v-mark w ↦ rw (w.pixels-is, w.k-is, w.entry.ensures) (filling-hit l.invariant more w.if-v-mark.true)
      | else-v-mark w ↦ rw (w.pixels-is, w.k-is) (filling-miss l.invariant more w.if-v-mark.false)
    ]

pub returns : goal.returns
returns c = record { value = filling-count c.loop-v.invariant (omega arith); pixels_after = filling-done c.loop-v.invariant (omega arith) }
