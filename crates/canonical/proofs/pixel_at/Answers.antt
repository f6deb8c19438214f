use mathlib.Core.Path.{◌∙◌}
use Rattle.canonical.specs.Check.{pixel_at}
use Rattle.canonical.proofs.Laws.{pixel-fits}
use Rattle.canonical.proofs.pixel_at.Goals as goal

pub after_under-requires : goal.after_under-requires
after_under-requires c = pixel-fits c.args.form.width c.args.base _ c.requires.0 c.requires.1 _ _ _ c.entry-x.ensures c.entry.ensures c.entry-2.ensures c.after_two-a.ensures c.after_four-b.ensures

pub returns : goal.returns
unfolding pixel_at
returns c = c.after_under.ensures ∙ rw (c.entry-e.ensures, c.under_width.ensures, c.after_four-b.ensures, c.entry-2.ensures, c.after_two-a.ensures, c.entry.ensures, c.entry-x.ensures)
