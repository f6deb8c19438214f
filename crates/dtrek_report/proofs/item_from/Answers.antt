use native.Mathlib.Numerals.{add-one}
use lib.ListN.{length}
use Rattle.dtrek_report.proofs.Laws.{value-fits}
use mathlib.Core.Path.{sym, ap, ◌∙◌}
use native.Mathlib.Omega.{arith}
use Rattle.dtrek_text.proofs.Scans.{found-stands}
use Rattle.dtrek_report.proofs.item_from.Goals as goal

pub overflow_add-from : goal.overflow_add-from
overflow_add-from c = let s = found-stands (sym c.in-Found.is ∙ c.item.ensures) in
    omega (arith, s.before)

pub slice_bounds-white_run-count : goal.slice_bounds-white_run-count
slice_bounds-white_run-count c = let s = found-stands (sym c.in-Found.is ∙ c.item.ensures) in
    omega (arith, s.before)

pub slice_bounds-white_run-start : goal.slice_bounds-white_run-start
slice_bounds-white_run-start c = let s = found-stands (sym c.in-Found.is ∙ c.item.ensures) in
    omega (arith, s.before)

pub slice_bounds-white_run-end : goal.slice_bounds-white_run-end
slice_bounds-white_run-end c = let s = found-stands (sym c.in-Found.is ∙ c.item.ensures) in
    omega (arith, s.before)

pub overflow_add-value : goal.overflow_add-value
overflow_add-value c = let s = found-stands (sym c.in-Found.is ∙ c.item.ensures) in
    omega (arith, s.inside, value-fits s, rw add-one at c.white_run.ensures)

pub slice_bounds-trim-count : goal.slice_bounds-trim-count
slice_bounds-trim-count c = let s = found-stands (sym c.in-Found.is ∙ c.item.ensures) in
    omega (arith, s.before)

pub slice_bounds-trim-start : goal.slice_bounds-trim-start
slice_bounds-trim-start c = let s = found-stands (sym c.in-Found.is ∙ c.item.ensures) in
    omega (arith, s.before)

pub slice_bounds-trim-end : goal.slice_bounds-trim-end
slice_bounds-trim-end c = let s = found-stands (sym c.in-Found.is ∙ c.item.ensures) in
    omega (arith, s.before)

pub overflow_add-result : goal.overflow_add-result
overflow_add-result c = let s = found-stands (sym c.in-Found.is ∙ c.item.ensures) in
    omega (arith, s.inside, value-fits s, rw add-one at c.white_run.ensures, ap length (rw add-one at c.trim.ensures))

pub returns-in-Found : goal.returns-in-Found
returns-in-Found c = rw (c.white_run.ensures, c.trim.ensures, ← c.item.ensures, c.in-Found.is, add-one)

pub returns-in-Bad : goal.returns-in-Bad
returns-in-Bad c = rw (← c.item.ensures, c.in-Bad.is) c.item_refused.ensures
