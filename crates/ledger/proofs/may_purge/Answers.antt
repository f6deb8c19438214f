use Rattle.std.proofs.lemmas.Result.{err_from_is_err_and}
use Rattle.ledger.proofs.Scanning.{survey-malformed, survey-sound, sought-is, refusal-is}
use Rattle.ledger.specs.Ledger.{purge_answer, purge_by}
use mathlib.Core.Path.{sym, ap, ◌∙◌}
use Rattle.ledger.proofs.may_purge.Goals as goal

pub returns-in_err-summary : goal.returns-in_err-summary
unfolding purge_answer
returns-in_err-summary c =
    let e = c.in_err-summary.ensures in
    let m = survey-malformed _ _ (sym c.survey.ensures ∙ e.ok_part) in
    let p = err_from_is_err_and c.from_residual.result c.from_residual.ensures.1 in
    rw (p.1, p.2, refusal-is _ _ _ e.ok_part e.value, m)

pub returns-then-not-is_date : goal.returns-then-not-is_date
unfolding purge_answer
returns-then-not-is_date c =
    let s = survey-sound _ _ _ (sym c.survey.ensures ∙ c.in_ok-summary.ensures.ok_part) in
    rw (s.well, ← c.if-not-is_date.ensures)

pub returns : goal.returns
unfolding purge_answer
returns c =
    let s = survey-sound _ _ _ (sym c.survey.ensures ∙ c.in_ok-summary.ensures.ok_part) in
    rw (s.well, ← c.if-not-is_date.ensures) (c.purge_by.ensures ∙ ap (purge_by c.args.day) (sought-is s))
