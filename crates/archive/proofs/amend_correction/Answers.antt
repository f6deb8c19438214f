use Rattle.std.specs.Prelude.{Err, Some}
use mathlib.Core.Path.{◌≡◌, refl, sym, ap, ◌∙◌}
use Prim.Native.Nat.{◌+◌, ◌/◌}
use native.Mathlib.Omega.{arith}
use borrow.Author.Tests.{leb-false}
use lib.ListN.{length}
use Rattle.refusal.specs.Codes.{refusal_of}
use Rattle.archive.proofs.Changes.{answer-of, held_of, ledger-of, changing-full, changing-refused, changing-done, two-appended}
use Rattle.archive.proofs.amend_correction.Goals as goal

pub returns-then-lacks_two : goal.returns-then-lacks_two
returns-then-lacks_two c =
    let o = changing-full _ _ _ _ (sym c.lacks_two.ensures ∙ c.if-lacks_two.true) (Some _) _ _ _ in
    record { value = ap Err c.full_refusal.ensures ∙ answer-of o; held_after = held_of o; ledger_after = ledger-of o }

pub returns-in_default : goal.returns-in_default
returns-in_default c =
    let r = c.replace-replaced.ensures in
    let o = changing-refused _ _ _ _ (sym c.lacks_two.ensures ∙ c.if-lacks_two.false) (Some _) _ _ _ _ (sym r.value ∙ c.in_default.is) in
    record { value = ap Err (c.refusal_of.ensures ∙ ap refusal_of c.in_default.is) ∙ answer-of o; held_after = r.held_after ∙ held_of o; ledger_after = ledger-of o }

pub overflow_add-lines : goal.overflow_add-lines
overflow_add-lines c = omega (arith, leb-false (length c.args.ledger.now / 16) (c.args.lines + 1) (sym c.lacks_two.ensures ∙ c.if-lacks_two.false))

pub returns : goal.returns
returns c =
    let room = sym c.lacks_two.ensures ∙ c.if-lacks_two.false in
    let r = c.replace-replaced.ensures in
    let a = c.append-2.ensures in
    let size : length c.append.new.ledger ≡ length c.args.ledger.now = omega arith in
    let p = two-appended c.args.ledger.now c.append.new.ledger c.append-2.new.ledger c.args.lines _ _ _ _ _ room size c.append.ensures.ledger_after refl a.ledger_after c.correction_line.ensures a.value in
    let o = changing-done _ _ _ _ room (Some _) _ _ _ _ (sym r.value ∙ c.in-Ok.is) in
    record { value = p.0 ∙ answer-of o; held_after = r.held_after ∙ held_of o; ledger_after = p.1 ∙ ledger-of o }
