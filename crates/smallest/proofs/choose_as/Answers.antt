use mathlib.Core.Path.{sym}
use Rattle.smallest.proofs.Lengths.{all-refused}
use Rattle.smallest.proofs.choose_as.Goals as goal

pub returns-in_default : goal.returns-in_default
returns-in_default c = rw c.in_default.is (sym (all-refused _))

pub choose_with-requires : goal.choose_with-requires
choose_with-requires c = rw c.in-Format100.is at c.requires

pub returns : goal.returns
returns c = rw c.in-Format100.is c.choose_with.ensures
