use mathlib.Core.Path.{◌∙◌}
use Rattle.ledger.proofs.LineLaws.{correction-number, withdrawal-number}
use Rattle.ledger.proofs.line_of_number.Goals as goal

pub returns-then-n-lt-DAY : goal.returns-then-n-lt-DAY
returns-then-n-lt-DAY c = c.then_some.ensures ∙ correction-number _ _ c.fields_of.ensures c.if-n-lt-DAY.true

pub returns-then-n-eq-WITHDRAWAL : goal.returns-then-n-eq-WITHDRAWAL
returns-then-n-eq-WITHDRAWAL c = withdrawal-number _ _ c.fields_of-then-n-eq-WITHDRAWAL.ensures c.if-n-eq-WITHDRAWAL.true
