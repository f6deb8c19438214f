use mathlib.Core.Path.{refl}
use Rattle.tally.specs.Tally.{tally_more}
use Rattle.tally.proofs.add_tallies.Goals as goal

pub returns : goal.returns
unfolding tally_more
returns c = refl
