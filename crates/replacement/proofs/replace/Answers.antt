use Rattle.std.specs.Prelude.{Err}
use Rattle.std.proofs.lemmas.Result.{err_from_is_err_and}
use mathlib.Core.Path.{sym, ap, ◌∙◌}
use Rattle.replacement.proofs.Located.{refused-same, at_place}
use Rattle.replacement.proofs.replace.Goals as goal

pub returns-in_err-place : goal.returns-in_err-place
returns-in_err-place c =
    let a = c.args in
    let s = refused-same a.held.now a.pixel a.expected a.count _ (sym c.locate.ensures ∙ c.in_err-place.was) in
    let p = err_from_is_err_and c.from_residual.result c.from_residual.ensures.1 in
    record { value = p.1 ∙ ap Err p.2 ∙ s.0; held_after = s.1 }

pub replace_at-requires : goal.replace_at-requires
replace_at-requires c = let a = c.args in (at_place a.held.now a.pixel a.expected a.count _ (sym c.locate.ensures ∙ c.in_ok-place.was)).0

pub returns : goal.returns
returns c =
    let a = c.args in
    let l = at_place a.held.now a.pixel a.expected a.count _ (sym c.locate.ensures ∙ c.in_ok-place.was) in
    record { value = c.replace_at.ensures.value ∙ l.1; held_after = c.replace_at.ensures.held_after ∙ l.2 }
