use Rattle.replacement.specs.Replaced.{cut_len}
use Rattle.replacement.proofs.len_now.Goals as goal

pub returns : goal.returns
unfolding cut_len
returns c = c.padded_len.ensures
