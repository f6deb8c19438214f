use mathlib.Core.Path.{◌∙◌}
use Rattle.mar_image.proofs.Laws.{pair_parts}
use Rattle.mar_image.proofs.pair_at.Goals as goal

pub returns : goal.returns
returns c = let a = c.args in
    c.pair_entry.ensures ∙ pair_parts a.order a.table.now a.at _ _ c.number_at-address.ensures c.number_at-count.ensures
