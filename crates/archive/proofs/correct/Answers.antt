use Rattle.std.specs.Prelude.{Err, None}
use Rattle.ledger.proofs.Scanning.{survey-malformed}
use Rattle.archive.proofs.Changes.{answer-of, held_of, ledger-of, changing-refused, changing-done, changing-full, correct-malformed, correct-is, correct-clamped, surveyed}
use Rattle.ledger.proofs.Appending.{appended-answer, appended-bytes}
use Rattle.ledger.specs.Ledger.{with_line}
use Rattle.refusal.specs.Codes.{refusal_of}
use mathlib.Core.Path.{sym, ap, ◌∙◌}
use Rattle.archive.proofs.correct.Goals as goal

pub returns-in_default : goal.returns-in_default
returns-in_default c =
    let o = sym (correct-clamped _ _ _ _ _ _ c.within_u32-p.ensures) ∙ correct-malformed _ _ _ (survey-malformed _ _ (sym c.survey.ensures ∙ c.in_default.is)) _ _ in
    record { value = ap Err c.held_refusal.ensures ∙ answer-of o; held_after = held_of o; ledger_after = ledger-of o }

pub returns-then-is_full : goal.returns-then-is_full
returns-then-is_full c =
    let w = (surveyed _ _ _ (sym c.survey.ensures ∙ c.in-Some.is)).0 in
    let o = sym (correct-clamped _ _ _ _ _ _ c.within_u32-p.ensures) ∙ correct-is _ _ _ w _ _ ∙ changing-full _ _ _ _ (sym c.is_full.ensures ∙ c.if-is_full.true) None _ _ _ in
    record { value = ap Err c.full_refusal.ensures ∙ answer-of o; held_after = held_of o; ledger_after = ledger-of o }

pub returns-in_default-replaced : goal.returns-in_default-replaced
returns-in_default-replaced c =
    let w = (surveyed _ _ _ (sym c.survey.ensures ∙ c.in-Some.is)).0 in
    let r = c.replace-replaced.ensures in
    let o =
    sym (correct-clamped _ _ _ _ _ _ c.within_u32-p.ensures) ∙ correct-is _ _ _ w _ _
    ∙ changing-refused _ _ _ _ (sym c.is_full.ensures ∙ c.if-is_full.false) None _ _ _ _ (sym r.value ∙ c.in_default-replaced.is) in
    record { value = ap Err (c.refusal_of.ensures ∙ ap refusal_of c.in_default-replaced.is) ∙ answer-of o; held_after = r.held_after ∙ held_of o; ledger_after = ledger-of o }

pub returns : goal.returns
returns c =
    let w = (surveyed _ _ _ (sym c.survey.ensures ∙ c.in-Some.is)).0 in
    let room = sym c.is_full.ensures ∙ c.if-is_full.false in
    let r = c.replace-replaced.ensures in
    let a = c.append.ensures in
    let o =
    sym (correct-clamped _ _ _ _ _ _ c.within_u32-p.ensures) ∙ correct-is _ _ _ w _ _
    ∙ changing-done _ _ _ _ room None _ _ _ _ (sym r.value ∙ c.in-Ok.is) in
    record { value = a.value ∙ appended-answer _ _ room ∙ answer-of o; held_after = r.held_after ∙ held_of o; ledger_after = a.ledger_after ∙ appended-bytes _ _ _ room ∙ ap (with_line _ _) c.correction_line.ensures ∙ ledger-of o }
