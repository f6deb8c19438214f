use Rattle.std.proofs.Common.{◌∙◌}
use Rattle.writer.proofs.put_capped.Goals as goal

pub returns : goal.returns
returns c = c.put.ensures ∙ rw c.cap.ensures
