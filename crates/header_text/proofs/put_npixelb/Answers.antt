use Rattle.std.proofs.Common.{ℕ, replicate, ap, ◌∙◌}
use Rattle.header_text.proofs.Cells.{widths-data}
use Rattle.header_text.proofs.put_npixelb.Goals as goal

pub returns : goal.returns
returns c = widths-data _ _ _ _ (c.fill.ensures ∙ ap (λ (n : ℕ). replicate n 32) c.requires) (rw (← c.width_bytes.ensures) c.put_number.ensures) (rw (← c.underflow_bytes.ensures) c.put_number-2.ensures)
