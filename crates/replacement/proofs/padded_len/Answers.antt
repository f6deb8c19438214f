use mathlib.Core.Path.{refl}
use Rattle.lists.specs.Bytes.{padded_to}
use Rattle.replacement.proofs.padded_len.Goals as goal

pub returns : goal.returns
unfolding padded_to
returns c = refl
