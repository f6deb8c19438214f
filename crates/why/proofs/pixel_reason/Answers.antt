use Rattle.std.proofs.lemmas.Result.{err_from_is_err_and}
use Rattle.ledger.proofs.Scanning.{malformed-for, sound-for, sought-is, refusal-is}
use Rattle.why.specs.Why.{pixel_reason}
use Rattle.why.proofs.Deciding.{number_small}
use native.Mathlib.Omega.{arith}
use mathlib.Core.Path.{sym, ◌∙◌}
use Rattle.why.proofs.pixel_reason.Goals as goal

pub returns-in_err-summary : goal.returns-in_err-summary
unfolding pixel_reason
returns-in_err-summary c =
    let e = c.in_err-summary.ensures in
    let p = err_from_is_err_and c.from_residual.result c.from_residual.ensures.1 in
    rw (p.1, p.2, refusal-is _ _ _ e.ok_part e.value, malformed-for _ _ _ (sym c.survey_for.ensures ∙ e.ok_part))

pub returns-in_default : goal.returns-in_default
unfolding pixel_reason
returns-in_default c =
    let s = sound-for _ _ _ _ (sym c.survey_for.ensures ∙ c.in_ok-summary.ensures.ok_part) in
    rw (s.well, ← sought-is s, c.in_default.is)

pub of-requires : goal.of-requires
of-requires c =
    let s = sound-for _ _ _ _ (sym c.survey_for.ensures ∙ c.in_ok-summary.ensures.ok_part) in
    omega (arith, number_small _ _ _ _ _ (sym (sought-is s) ∙ c.in-Some.is))

pub returns : goal.returns
unfolding pixel_reason
returns c =
    let s = sound-for _ _ _ _ (sym c.survey_for.ensures ∙ c.in_ok-summary.ensures.ok_part) in
    rw (s.well, ← sought-is s, c.in-Some.is, c.of.ensures)
