use mathlib.Core.Path.{ap, ◌∙◌}
use Rattle.tally.specs.Tally.{tally_of}
use Rattle.tally.proofs.tally_part.Goals as goal

pub returns : goal.returns
returns c = c.tally_block.ensures ∙ ap (tally_of _ _ _) c.load_block.ensures
