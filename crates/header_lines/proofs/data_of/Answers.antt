use Rattle.header_lines.proofs.Lines.{place-within}
use native.Mathlib.Omega.{arith}
use mathlib.Core.Path.{sym, ◌∙◌}
use Rattle.header_lines.proofs.data_of.Goals as goal

pub overflow_add-result : goal.overflow_add-result
overflow_add-result c = let w = place-within _ _ _ (sym c.in_ok-start.was ∙ c.place_of.ensures) in omega arith

pub slice_bounds-result-end : goal.slice_bounds-result-end
slice_bounds-result-end c = let w = place-within _ _ _ (sym c.in_ok-start.was ∙ c.place_of.ensures) in omega arith
