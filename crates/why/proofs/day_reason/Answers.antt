use Rattle.std.proofs.lemmas.Result.{err_from_is_err_and}
use Rattle.ledger.proofs.Scanning.{survey-malformed, survey-sound, sought-is, refusal-is}
use Rattle.why.specs.Why.{day_reason}
use Rattle.why.proofs.Deciding.{number_small}
use native.Mathlib.Omega.{arith}
use mathlib.Core.Path.{sym, ◌∙◌}
use Rattle.why.proofs.day_reason.Goals as goal

pub returns-in_err-summary : goal.returns-in_err-summary
unfolding day_reason
returns-in_err-summary c =
    let e = c.in_err-summary.ensures in
    let p = err_from_is_err_and c.from_residual.result c.from_residual.ensures.1 in
    rw (p.1, p.2, refusal-is _ _ _ e.ok_part e.value, survey-malformed _ _ (sym c.survey.ensures ∙ e.ok_part))

pub returns-then-not-is_date : goal.returns-then-not-is_date
unfolding day_reason
returns-then-not-is_date c =
    let s = survey-sound _ _ _ (sym c.survey.ensures ∙ c.in_ok-summary.ensures.ok_part) in
    rw (s.well, ← c.if-not-is_date.ensures)

pub returns-in_err-keep : goal.returns-in_err-keep
unfolding day_reason
returns-in_err-keep c =
    let s = survey-sound _ _ _ (sym c.survey.ensures ∙ c.in_ok-summary.ensures.ok_part) in
    let e = c.in_err-keep.ensures in
    let p = err_from_is_err_and c.from_residual-in_err-keep.result c.from_residual-in_err-keep.ensures.1 in
    rw (p.1, p.2, refusal-is _ _ _ e.ok_part e.value, s.well, ← c.if-not-is_date.ensures, ← sought-is s, e.ok_part)

pub of-decides-requires : goal.of-decides-requires
of-decides-requires c =
    let s = survey-sound _ _ _ (sym c.survey.ensures ∙ c.in_ok-summary.ensures.ok_part) in
    omega (arith, number_small _ _ _ _ _ (sym (sought-is s) ∙ c.in_ok-keep.ensures.ok_part))

pub returns-then-is_before : goal.returns-then-is_before
unfolding day_reason
returns-then-is_before c =
    let s = survey-sound _ _ _ (sym c.survey.ensures ∙ c.in_ok-summary.ensures.ok_part) in
    rw (s.well, ← c.if-not-is_date.ensures, ← sought-is s, c.in_ok-keep.ensures.ok_part, ← c.if-is_before.ensures, c.of-decides.ensures)

pub returns : goal.returns
unfolding day_reason
returns c =
    let s = survey-sound _ _ _ (sym c.survey.ensures ∙ c.in_ok-summary.ensures.ok_part) in
    rw (s.well, ← c.if-not-is_date.ensures, ← sought-is s, c.in_ok-keep.ensures.ok_part, ← c.if-is_before.ensures, c.of-decides.ensures)
