use Rattle.std.specs.Prelude.{Err, Some}
use Rattle.archive.proofs.Changes.{answer-of, held_of, ledger-of, changing-refused, changing-done, changing-full}
use Rattle.ledger.proofs.Appending.{appended-answer, appended-bytes}
use Rattle.refusal.specs.Codes.{refusal_of}
use mathlib.Core.Path.{sym, ap, ◌∙◌}
use Rattle.archive.proofs.withdraw_correction.Goals as goal

pub returns-then-is_full : goal.returns-then-is_full
returns-then-is_full c =
    let o = changing-full _ _ _ _ (sym c.is_full.ensures ∙ c.if-is_full.true) (Some _) _ _ _ in
    record { value = ap Err c.full_refusal.ensures ∙ answer-of o; held_after = held_of o; ledger_after = ledger-of o }

pub returns-in_default : goal.returns-in_default
returns-in_default c =
    let r = c.replace-replaced.ensures in
    let o = changing-refused _ _ _ _ (sym c.is_full.ensures ∙ c.if-is_full.false) (Some _) _ _ _ _ (sym r.value ∙ c.in_default.is) in
    record { value = ap Err (c.refusal_of.ensures ∙ ap refusal_of c.in_default.is) ∙ answer-of o; held_after = r.held_after ∙ held_of o; ledger_after = ledger-of o }

pub returns : goal.returns
returns c =
    let room = sym c.is_full.ensures ∙ c.if-is_full.false in
    let r = c.replace-replaced.ensures in
    let a = c.append.ensures in
    let o = changing-done _ _ _ _ room (Some _) _ _ _ _ (sym r.value ∙ c.in-Ok.is) in
    record { value = a.value ∙ appended-answer _ _ room ∙ answer-of o; held_after = r.held_after ∙ held_of o; ledger_after = a.ledger_after ∙ appended-bytes _ _ _ room ∙ ledger-of o }
