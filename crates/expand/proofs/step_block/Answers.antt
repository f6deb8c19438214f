use Rattle.expand.proofs.Whole.{stepped-of}
use Rattle.expand.proofs.step_block.Goals as goal

pub returns : goal.returns
returns c = stepped-of c.replace_block-k.ensures c.lift_block-u.ensures
