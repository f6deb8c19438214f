use Rattle.field.proofs.Bounds.{found_within}
use native.Mathlib.Omega.{arith}
use mathlib.Core.Path.{sym, ◌∙◌}
use Rattle.field.proofs.Cursor.count.Goals as goal

pub slice_bounds-text-count : goal.slice_bounds-text-count
slice_bounds-text-count c = let w = found_within _ _ _ _ _ (sym c.in_ok-start.was ∙ c.field.ensures) in omega arith

pub slice_bounds-text-start : goal.slice_bounds-text-start
slice_bounds-text-start c = let w = found_within _ _ _ _ _ (sym c.in_ok-start.was ∙ c.field.ensures) in omega arith

pub slice_bounds-text-end : goal.slice_bounds-text-end
slice_bounds-text-end c = let w = found_within _ _ _ _ _ (sym c.in_ok-start.was ∙ c.field.ensures) in omega arith
