use Rattle.std.proofs.Common.{sym, ◌∙◌, arith}
use borrow.Author.Tests.{eqb-true, eqb-false}
use Rattle.overflow86.proofs.Texts.{gathering-start, gathering-small, gathering-on, digit-not, digit-end, digits-none}
use Rattle.overflow86.proofs.digits_number.Goals as goal

pub returns-then-is_empty : goal.returns-then-is_empty
returns-then-is_empty c = digits-none _ (eqb-true _ 0 (sym c.is_empty.ensures ∙ c.if-is_empty.true))

pub loop-b-init : goal.loop-b-init
loop-b-init c = gathering-start _ (let n = eqb-false _ 0 (sym c.is_empty.ensures ∙ c.if-is_empty.false) in omega arith)

pub returns-then-not-is_ascii_digit : goal.returns-then-not-is_ascii_digit
returns-then-not-is_ascii_digit c = sym (digit-not _ c.loop-b.v _ c.loop-b-test.true c.if-not-is_ascii_digit.ensures.cases) ∙ c.loop-b.invariant.is

pub overflow_mul-v : goal.overflow_mul-v
overflow_mul-v c = omega (arith, gathering-small c.loop-b.invariant c.requires c.loop-b-test.true)

pub overflow_add-v : goal.overflow_add-v
overflow_add-v c = omega (arith, gathering-small c.loop-b.invariant c.requires c.loop-b-test.true, c.from.ensures, c.if-not-is_ascii_digit.ensures.cases)

pub loop-b-preserved : goal.loop-b-preserved
loop-b-preserved c =
    let d = c.if-not-is_ascii_digit.ensures.cases in
    rw c.from.ensures (gathering-on c.loop-b.invariant c.requires c.loop-b-test.true (omega (arith, d)) (omega (arith, d)))

pub returns : goal.returns
returns c = digit-end _ _ _ c.loop-b-test.false ∙ c.loop-b.invariant.is
