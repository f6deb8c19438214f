use Rattle.archive.proofs.Changes.{answer-of, ledger-of, keep-held}
use mathlib.Core.Path.{sym, ◌∙◌}
use Rattle.archive.proofs.withdraw_keep.Goals as goal

pub returns : goal.returns
returns c =
    let k = keep-held c.args.held.now c.args.ledger.now c.args.lines (sym c.is_canonical.ensures ∙ c.if-not-is_canonical.false) in
    record { value = c.append.ensures.value ∙ answer-of k; ledger_after = c.append.ensures.ledger_after ∙ ledger-of k }
