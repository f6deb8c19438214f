use mathlib.Core.Path.{sym, ◌∙◌}
use native.Mathlib.Omega.{arith}
use Rattle.splice.proofs.Tables.{front-law, front-stays}
use Rattle.splice.proofs.drop_front.Goals as goal

pub returns-then-k-a : goal.returns-then-k-a
returns-then-k-a c = c.close_gap.ensures ∙ front-law _ _ c.if-k-a.true

pub returns-else-k-a : goal.returns-else-k-a
returns-else-k-a c = sym (front-stays _ _ (omega arith))
