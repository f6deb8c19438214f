use Rattle.std.proofs.lemmas.Result.{err_from_is_err_and}
use Rattle.ledger.proofs.Scanning.{survey-malformed, survey-sound, refusal-is}
use Rattle.ledger.specs.Ledger.{keep_answer, keep_bytes}
use mathlib.Core.Path.{sym, ◌∙◌}
use Rattle.ledger.proofs.keep.Goals as goal

pub returns-in_err-ok_or : goal.returns-in_err-ok_or
unfolding keep_answer keep_bytes
returns-in_err-ok_or c =
    let e = c.in_err-ok_or.ensures in
    let m = survey-malformed _ _ (sym c.survey.ensures ∙ e.ok_part) in
    let p = err_from_is_err_and c.from_residual.result c.from_residual.ensures.1 in
    record { value = rw (p.1, p.2, refusal-is _ _ _ e.ok_part e.value, m); ledger_after = rw m }

pub returns-then-not-is_date : goal.returns-then-not-is_date
unfolding keep_answer keep_bytes
returns-then-not-is_date c =
    let s = survey-sound _ _ _ (sym c.survey.ensures ∙ c.in_ok-ok_or.ensures.ok_part) in
    record { value = rw (s.well, ← c.if-not-is_date.ensures); ledger_after = rw (s.well, ← c.if-not-is_date.ensures) }

pub returns : goal.returns
unfolding keep_answer keep_bytes
returns c =
    let s = survey-sound _ _ _ (sym c.survey.ensures ∙ c.in_ok-ok_or.ensures.ok_part) in
    record { value = rw (s.well, ← c.if-not-is_date.ensures) c.append.ensures.value; ledger_after = rw (s.well, ← c.if-not-is_date.ensures) c.append.ensures.ledger_after }
