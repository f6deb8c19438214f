use Rattle.std.proofs.Common.{◌∙◌}
use Rattle.dtrek_text.proofs.Compare.{same-pointwise}
use Rattle.dtrek_text.proofs.same.Goals as goal

pub returns : goal.returns
returns c = c.eq.ensures ∙ same-pointwise _ _
