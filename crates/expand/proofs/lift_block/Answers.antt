use Rattle.std.proofs.Common.{◌∙◌, refl, arith}
use Rattle.expand.proofs.Loops.{any-counted}
use borrow.Author.Tests.{not-true, not-false}
use Rattle.expand.proofs.Steps.{count-le}
use Rattle.expand.proofs.Whole.{lifted-not, lifted-none, lifted-hit}
use Rattle.std.proofs.Common.{arith}
use Rattle.expand.proofs.lift_block.Goals as goal

pub returns-then-not-c : goal.returns-then-not-c
returns-then-not-c c = rw (not-true _ c.if-not-c.true) (lifted-not _ _ _ _)

pub returns-then-not-holds : goal.returns-then-not-holds
returns-then-not-holds c = rw (not-false _ c.if-not-c.false) (lifted-none _ _ _ _ _ _ _ _ c.any_too_large-large.ensures refl (c.holds.ensures ∙ any-counted _ _) c.if-not-holds.true c.lift.ensures)

pub overflow_add-result : goal.overflow_add-result
overflow_add-result c = omega (arith, c.lift_marked-taken.ensures.value, count-le 0 c.args.pixels.now)

pub overflow_add-result-in-Two : goal.overflow_add-result-in-Two
overflow_add-result-in-Two c = omega (arith, c.lift_marked-taken-in-Two.ensures.value, count-le 0 c.args.pixels.now)

pub returns-in-One : goal.returns-in-One
returns-in-One c = rw ((not-false _ c.if-not-c.false), c.in-One.is) (lifted-hit _ _ _ _ _ _ _ _ _ c.any_too_large-large.ensures refl c.entries_from-rest.ensures (c.lift_marked-taken.ensures.value, c.lift_marked-taken.ensures.pixels_after))

pub returns-in-Two : goal.returns-in-Two
returns-in-Two c = rw ((not-false _ c.if-not-c.false), c.in-Two.is) (lifted-hit _ _ _ _ _ _ _ _ _ c.any_too_large-large.ensures refl c.entries_from-rest-in-Two.ensures (c.lift_marked-taken-in-Two.ensures.value, c.lift_marked-taken-in-Two.ensures.pixels_after))
