use Rattle.field.proofs.Bounds.{found_within}
use native.Mathlib.Omega.{arith}
use mathlib.Core.Path.{sym, ◌∙◌}
use Rattle.field.proofs.Cursor.number.Goals as goal

pub slice_bounds-number_of-count : goal.slice_bounds-number_of-count
slice_bounds-number_of-count c = let w = found_within _ _ _ _ _ (sym c.in_ok-start.was ∙ c.field.ensures) in omega arith

pub slice_bounds-number_of-start : goal.slice_bounds-number_of-start
slice_bounds-number_of-start c = let w = found_within _ _ _ _ _ (sym c.in_ok-start.was ∙ c.field.ensures) in omega arith

pub slice_bounds-number_of-end : goal.slice_bounds-number_of-end
slice_bounds-number_of-end c = let w = found_within _ _ _ _ _ (sym c.in_ok-start.was ∙ c.field.ensures) in omega arith
