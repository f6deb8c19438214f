use Rattle.numeral.specs.Numerals.{number_of}
use mathlib.Core.Path.{ap, ◌∙◌}
use Rattle.dtrek_header.proofs.number_at.Goals as goal

pub returns : goal.returns
returns c = c.number_of.ensures ∙ ap number_of c.value.ensures
