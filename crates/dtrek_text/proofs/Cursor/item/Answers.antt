use Rattle.dtrek_text.proofs.Words.{found_inside}
use Rattle.dtrek_text.specs.Scan.{item_from}
use lib.ListN.{drop, length-take}
use borrow.Author.Tests.{le-leb, lt-leb}
use native.Mathlib.Omega.{arith}
use native.Mathlib.Numerals.{add-one}
use Prim.Native.Nat.{◌-◌}
use mathlib.Core.Path.{sym, ◌∙◌}
use Rattle.dtrek_text.proofs.Cursor.item.Goals as goal

pub returns-then-text-stop : goal.returns-then-text-stop
unfolding item_from
returns-then-text-stop c = rw (← c.run_end-stop.ensures, le-leb _ _ c.if-text-stop.true)

pub returns-in_default : goal.returns-in_default
unfolding item_from
returns-in_default c = rw (← c.run_end-stop.ensures, lt-leb _ _ c.if-text-stop.false, ← c.word_of.ensures, c.in_default.is)

pub overflow_add-result : goal.overflow_add-result
overflow_add-result c = let a = c.args in
    let stop = c.run_end-stop.result in
    let w = found_inside (sym c.in-Some.is ∙ c.word_of.ensures) in
    omega (arith, length-take (stop - a.self.at) (drop a.self.at a.text.now))

pub overflow_add-result-2 : goal.overflow_add-result-2
overflow_add-result-2 c = let a = c.args in
    let stop = c.run_end-stop.result in
    let w = found_inside (sym c.in-Some.is ∙ c.word_of.ensures) in
    omega (arith, length-take (stop - a.self.at) (drop a.self.at a.text.now))

pub returns : goal.returns
unfolding item_from
returns c = rw (add-one, ← c.run_end-stop.ensures, lt-leb _ _ c.if-text-stop.false, ← c.word_of.ensures, c.in-Some.is)
