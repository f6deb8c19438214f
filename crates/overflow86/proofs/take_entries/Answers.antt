use Rattle.std.proofs.Common.{refl}
use Rattle.overflow86.proofs.Laws.{none-good, none-bad}
use Rattle.overflow86.proofs.take_entries.Goals as goal

pub returns-in-Four : goal.returns-in-Four
returns-in-Four c = record { value = rw c.in-Four.is (none-good _ _ c.if-n-eq0.true); pixels_after = rw c.in-Four.is refl }

pub returns-in-Four-2-clause-value : goal.returns-in-Four-2-clause-value
returns-in-Four-2-clause-value c = rw c.in-Four-2.is (none-bad _ _ c.if-n-eq0.false)
