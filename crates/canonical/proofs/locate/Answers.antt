use mathlib.Core.Path.{◌∙◌}
use native.Mathlib.Omega.{arith}
use Rattle.canonical.proofs.Decides.{decides}
use Rattle.canonical.proofs.locate.Goals as goal

pub returns : goal.returns
returns c = c.check.ensures ∙ decides _ _ (λ i. omega (arith, c.type_inv.held i))
