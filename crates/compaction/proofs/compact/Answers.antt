use mathlib.Core.Path.{sym, ◌∙◌}
use native.Mathlib.Omega.{arith}
use lib.Seq.{length-take-le}
use Rattle.ledger.proofs.Scanning.{survey-malformed, survey-sound, lines-well, lines_fit, refusal-is}
use Rattle.std.proofs.lemmas.Result.{err_from_is_err_and}
use Rattle.compaction.proofs.Whole.{compact-refused, compact-done}
use Rattle.compaction.proofs.compact.Goals as goal

pub returns-in_err-ok_or : goal.returns-in_err-ok_or
returns-in_err-ok_or c =
    let e = c.in_err-ok_or.ensures in
    let r = compact-refused _ _ (survey-malformed _ _ (sym c.survey.ensures ∙ e.ok_part)) in
    let p = err_from_is_err_and c.from_residual.result c.from_residual.ensures.1 in
    record { value = rw (p.1, p.2, refusal-is _ _ _ e.ok_part e.value) r.0; ledger_after = r.1 }

pub gather-first-requires : goal.gather-first-requires
gather-first-requires c = let s = survey-sound _ _ _ (sym c.survey.ensures ∙ c.in_ok-ok_or.ensures.ok_part) in
    (lines_fit _ _ s.well, lines-well _ _ s.well)

pub overflow_mul-n : goal.overflow_mul-n
overflow_mul-n c = let s = survey-sound _ _ _ (sym c.survey.ensures ∙ c.in_ok-ok_or.ensures.ok_part) in
    omega (arith, lines_fit _ _ s.well)

pub slice_bounds-drop_front-end : goal.slice_bounds-drop_front-end
slice_bounds-drop_front-end c = let s = survey-sound _ _ _ (sym c.survey.ensures ∙ c.in_ok-ok_or.ensures.ok_part) in
    omega (arith, lines_fit _ _ s.well, c.gather-first.ensures.size)

pub slice_bounds-drop_front-end-2 : goal.slice_bounds-drop_front-end-2
slice_bounds-drop_front-end-2 c = let s = survey-sound _ _ _ (sym c.survey.ensures ∙ c.in_ok-ok_or.ensures.ok_part) in
    sym (length-take-le _ _ (omega (arith, lines_fit _ _ s.well, c.gather-first.ensures.size)))

pub overflow_mul-first : goal.overflow_mul-first
overflow_mul-first c = let s = survey-sound _ _ _ (sym c.survey.ensures ∙ c.in_ok-ok_or.ensures.ok_part) in
    omega (arith, lines_fit _ _ s.well, c.gather-first.ensures.count)

pub returns : goal.returns
returns c = let s = survey-sound _ _ _ (sym c.survey.ensures ∙ c.in_ok-ok_or.ensures.ok_part) in record { value = (compact-done _ _ _ _ _ s.well c.gather-first.ensures c.drop_front.ensures).0; ledger_after = (compact-done _ _ _ _ _ s.well c.gather-first.ensures c.drop_front.ensures).1 }
