use Rattle.std.proofs.Common.{◌-◌, [], length, drop, sym, ◌∙◌, refl, arith, take_all, length-drop}
use Rattle.overflow86.specs.Entries.{text_number}
use Rattle.overflow86.proofs.Texts.{space-stop, space-end, digits-none}
use Rattle.overflow86.proofs.text_number.Goals as goal

pub returns-in_err-from : goal.returns-in_err-from
unfolding text_number
returns-in_err-from c = rw (space-end _ (sym c.in_err-from.ensures)) (c.from_residual.ensures ∙ digits-none [] refl)

pub returns : goal.returns
unfolding text_number
returns c =
    let p = sym c.in_ok-from.ensures in
    let e = take_all (length c.args.t.now - c.in_ok-from.from) (drop c.in_ok-from.from c.args.t.now) (rw length-drop (omega arith)) in
    rw (← space-stop _ _ p) (rw e at c.digits_number.ensures)
