use Rattle.std.proofs.Common.{◌∙◌}
use Rattle.overflow86.proofs.Texts.{entry-parts}
use Rattle.overflow86.proofs.entry_at.Goals as goal

pub returns-in_err-intensity : goal.returns-in_err-intensity
returns-in_err-intensity c = c.from_residual.ensures ∙ rw (entry-parts, ← c.in_err-intensity.ensures)

pub returns-in_err-pixel : goal.returns-in_err-pixel
returns-in_err-pixel c = c.from_residual-in_err-pixel.ensures ∙ rw (entry-parts, ← c.in_ok-intensity.ensures, ← c.in_err-pixel.ensures)

pub returns : goal.returns
returns c = rw (entry-parts, ← c.in_ok-intensity.ensures, ← c.in_ok-pixel.ensures)
