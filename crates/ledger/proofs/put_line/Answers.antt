use mathlib.Core.Path.{ap, ◌∙◌}
use Rattle.lists.specs.Bytes.{big_bytes}
use Rattle.ledger.specs.Lines.{line_bytes}
use Rattle.ledger.proofs.LineLaws.{line-put, number-bytes}
use Rattle.ledger.proofs.put_line.Goals as goal

pub returns : goal.returns
unfolding line_bytes
returns c = line-put _ _ _ _ (c.copy_from_slice.ensures.after ∙ c.to_be_bytes.ensures ∙ number-bytes _ ∙ ap (big_bytes 16) c.line_number.ensures)
