use borrow.Author.Tests.{not-true, not-false}
use Rattle.expand.proofs.Runs.{lifted-zero, lifted-other}
use Rattle.expand.proofs.Whole.{lifted-not}
use Rattle.std.proofs.Common.{arith, refl}
use Rattle.expand.proofs.lift_pixel.Goals as goal

pub returns-then-not-c : goal.returns-then-not-c
returns-then-not-c c = rw (not-true _ c.if-not-c.true) (lifted-not _ _ _ _)

pub returns-then-v-eq0 : goal.returns-then-v-eq0
returns-then-v-eq0 c = rw (not-false _ c.if-not-c.false) (lifted-zero _ _ _ _ _ (omega arith) c.under_entry-value.ensures)

pub returns : goal.returns
returns c = rw (not-false _ c.if-not-c.false) (lifted-other _ _ _ _ _ _ c.if-v-eq0.false c.past-over.ensures refl)
