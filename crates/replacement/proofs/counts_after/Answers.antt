use mathlib.Core.Path.{refl}
use Rattle.replacement.specs.Replaced.{counts_after}
use Rattle.replacement.proofs.counts_after.Goals as goal

pub returns : goal.returns
unfolding counts_after
returns c = refl
