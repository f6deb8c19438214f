use Rattle.std.specs.Prelude.{Err}
use Rattle.std.proofs.lemmas.Result.{err_from_is_err_and}
use mathlib.Core.Path.{sym, ap, ◌∙◌}
use Rattle.archive.specs.Calls.{Outcome}
use Rattle.archive.proofs.Changes.{answer-of, held_of, ledger-of, last-line, refused-as, keep_same, withdraw-malformed, withdraw-nothing, withdraw-correction, withdraw-keep, withdraw-other}
use Rattle.archive.proofs.withdraw.Goals as goal

pub returns-in_err-line : goal.returns-in_err-line
returns-in_err-line c =
    let o = refused-as _ _ _ _ _ (sym c.last_line.ensures ∙ c.in_err-line.was) (withdraw-malformed _ _ _) (withdraw-nothing _ _ _) in
    let p = err_from_is_err_and c.from_residual.result c.from_residual.ensures.1 in
    record { value = p.1 ∙ ap Err p.2 ∙ answer-of o; held_after = held_of o; ledger_after = ledger-of o }

pub returns-in-Correction : goal.returns-in-Correction
returns-in-Correction c =
    let s = last-line _ _ _ _ (sym c.last_line.ensures ∙ c.in_ok-line.was) in
    let o = withdraw-correction _ _ _ s.well _ _ s.is c.in-Correction.is in
    let r = c.withdraw_correction.ensures in
    record { value = r.value ∙ sym (ap (λ (x : Outcome). x.answer) o); held_after = r.held_after ∙ sym (ap (λ (x : Outcome). x.held) o); ledger_after = r.ledger_after ∙ sym (ap (λ (x : Outcome). x.ledger) o) }

pub returns-in-Keep : goal.returns-in-Keep
returns-in-Keep c =
    let s = last-line _ _ _ _ (sym c.last_line.ensures ∙ c.in_ok-line.was) in
    let o = withdraw-keep _ _ _ s.well _ _ s.is c.in-Keep.is in
    let r = c.withdraw_keep.ensures in
    record { value = r.value ∙ sym (ap (λ (x : Outcome). x.answer) o); held_after = sym (keep_same _ _ _) ∙ sym (ap (λ (x : Outcome). x.held) o); ledger_after = r.ledger_after ∙ sym (ap (λ (x : Outcome). x.ledger) o) }

pub returns-in-Withdrawal : goal.returns-in-Withdrawal
returns-in-Withdrawal c =
    let s = last-line _ _ _ _ (sym c.last_line.ensures ∙ c.in_ok-line.was) in
    let o = withdraw-other _ _ _ s.well _ _ s.is c.in-Withdrawal.is in
    record { value = ap Err c.held_refusal.ensures ∙ answer-of o; held_after = held_of o; ledger_after = ledger-of o }
