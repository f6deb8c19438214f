use Rattle.table.proofs.Laws.{scanning-start, scanning-other, scanning-zero, scanning-done}
use Rattle.table.proofs.all_zero.Goals as goal
use Rattle.table.proofs.all_zero.Goals.{then-b-ne0, else-b-ne0}

pub loop-b-init : goal.loop-b-init
loop-b-init c = scanning-start _

pub loop-b-preserved : goal.loop-b-preserved
loop-b-preserved c =
    elim c.if-b-ne0.branch [
      | then-b-ne0 w ↦ rw w.zero-is (scanning-other c.loop-b.invariant c.loop-b-test.true w.if-b-ne0.true)
      | else-b-ne0 w ↦ rw w.zero-is (scanning-zero c.loop-b.invariant c.loop-b-test.true w.if-b-ne0.false)
    ]

pub returns : goal.returns
returns c = scanning-done c.loop-b.invariant c.loop-b-test.false
