use Rattle.byte_order.specs.Numbers.{number}
use Rattle.byte_order.proofs.Little4Stored.read.Goals as goal

pub returns : goal.returns
unfolding number
returns c = c.little32.ensures
