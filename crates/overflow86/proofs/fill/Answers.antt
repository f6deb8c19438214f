use mathlib.Core.Path.{◌∙◌}
use borrow.Author.Rules.{rules}
use native.Mathlib.Omega.{arith}
use Rattle.overflow86.proofs.Laws.{filled-bad, filled-wanting, filled-good}
use Rattle.overflow86.proofs.fill.Goals as goal

pub returns-in_default : goal.returns-in_default
returns-in_default c =
    let a = c.args in
    let f = filled-bad a.w a.image.now a.table.now a.pixels.now _ _ a.n _ _ (λ i. omega (arith, c.type_inv.image i)) (c.load_waiting-marks.ensures.value, c.load_waiting-marks.ensures.pixels_after) (c.take_entries-checked.ensures.value, c.take_entries-checked.ensures.pixels_after) (search rules) c.in_default.is in
    record { value = f.0; pixels_after = c.clear.ensures ∙ f.1 }

pub returns-then-marks-n : goal.returns-then-marks-n
returns-then-marks-n c =
    let a = c.args in
    let f = filled-good a.w a.image.now a.table.now a.pixels.now _ _ a.n _ _ (λ i. omega (arith, c.type_inv.image i)) (c.load_waiting-marks.ensures.value, c.load_waiting-marks.ensures.pixels_after) (c.take_entries-checked.ensures.value, c.take_entries-checked.ensures.pixels_after) c.in-Ok.is c.if-marks-n.true in
    record { value = f.0; pixels_after = f.1 }

pub returns : goal.returns
returns c =
    let a = c.args in
    let f = filled-wanting a.w a.image.now a.table.now a.pixels.now _ _ a.n _ _ (λ i. omega (arith, c.type_inv.image i)) (c.load_waiting-marks.ensures.value, c.load_waiting-marks.ensures.pixels_after) (c.take_entries-checked.ensures.value, c.take_entries-checked.ensures.pixels_after) (search rules) c.in-Ok.is c.if-marks-n.false in
    record { value = f.0; pixels_after = c.clear-2.ensures ∙ f.1 }
