use Rattle.expand.proofs.Whole.{stepped-of}
use Rattle.expand.proofs.step_pixel.Goals as goal

pub returns : goal.returns
returns c = stepped-of c.replace_pixel-r.ensures c.lift_pixel-l.ensures
