use borrow.Author.Tests.{eqb-false}
use Rattle.expand.proofs.Steps.{no}
use Rattle.expand.proofs.Runs.{unmarked-one}
use Rattle.std.proofs.Common.{sym, ◌∙◌}
use Rattle.expand.proofs.is_mark.Goals as goal

pub returns-then-applies : goal.returns-then-applies
returns-then-applies c = λ e. unmarked-one _ _ c.if-b-eq255.false (λ t. eqb-false _ _ e)

pub returns-else-applies : goal.returns-else-applies
returns-else-applies c = λ e. unmarked-one _ _ c.if-b-eq255.false (λ t. absurd (no (sym t ∙ e)))
