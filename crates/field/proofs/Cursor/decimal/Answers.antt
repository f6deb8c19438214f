use Rattle.field.proofs.Bounds.{found_within}
use native.Mathlib.Omega.{arith}
use mathlib.Core.Path.{sym, ◌∙◌}
use Rattle.field.proofs.Cursor.decimal.Goals as goal

pub slice_bounds-decimal_is-count : goal.slice_bounds-decimal_is-count
slice_bounds-decimal_is-count c = let w = found_within _ _ _ _ _ (sym c.in_ok-start.was ∙ c.field.ensures) in omega arith

pub slice_bounds-decimal_is-start : goal.slice_bounds-decimal_is-start
slice_bounds-decimal_is-start c = let w = found_within _ _ _ _ _ (sym c.in_ok-start.was ∙ c.field.ensures) in omega arith

pub slice_bounds-decimal_is-end : goal.slice_bounds-decimal_is-end
slice_bounds-decimal_is-end c = let w = found_within _ _ _ _ _ (sym c.in_ok-start.was ∙ c.field.ensures) in omega arith
