use borrow.Author.Tests.{eq-eqb, ne_eqb}
use Rattle.overflow86.proofs.waiting_if.Goals as goal

pub returns-then-v-mark : goal.returns-then-v-mark
returns-then-v-mark c = rw (eq-eqb _ _ c.if-v-mark.true)

pub returns-else-v-mark : goal.returns-else-v-mark
returns-else-v-mark c = rw (ne_eqb _ _ c.if-v-mark.false)
