use Rattle.std.proofs.Common.{◌∙◌}
use Rattle.dtrek_text.proofs.Runs.{position-leading}
use Rattle.dtrek_text.specs.Bytes.{in_class}
use Rattle.dtrek_text.proofs.run.Goals as goal

pub returns : goal.returns
returns c = c.unwrap_or.ensures ∙ rw c.first_other.ensures (position-leading (in_class c.args.class) c.args.v.now)
