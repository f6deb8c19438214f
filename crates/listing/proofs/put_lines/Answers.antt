use Rattle.listing.proofs.Entering.{entering-start, entering-more, entering-done, skip-small, well-at}
use Rattle.listing.proofs.WritingLaws.{wrote-length, before-length, widened}
use native.Mathlib.Omega.{arith}
use Prim.Native.Nat.{◌-◌}
use mathlib.Core.Path.{sym, ◌∙◌}
use Rattle.listing.proofs.put_lines.Goals as goal

pub loop-i-init : goal.loop-i-init
loop-i-init c = entering-start _ _ _ _ c.requires.1 (omega arith)

pub shape_of-out-in_default : goal.shape_of-out-in_default
shape_of-out-in_default c = wrote-length c.loop-i.invariant.wrote

pub returns-in_default : goal.returns-in_default
returns-in_default c = absurd (well-at c.args.ledger.now c.args.lines (c.loop-i.i - 1) (omega (arith, c.loop-i.invariant.upto)) c.requires.2 (sym c.line_at.ensures ∙ c.in_default.is))

pub step_back-step-requires : goal.step_back-step-requires
step_back-step-requires c = omega (arith, skip-small c.loop-i.invariant)

pub overflow_cast-i : goal.overflow_cast-i
overflow_cast-i c = omega (arith, c.loop-i.invariant.upto, c.requires.0)

pub put_line-place-requires : goal.put_line-place-requires
put_line-place-requires c = omega (arith, c.loop-i.invariant.room, before-length c.loop-i.invariant.wrote)

pub loop-i-preserved : goal.loop-i-preserved
loop-i-preserved c = entering-more c.loop-i.invariant _ _ _ _ _ (omega arith) (sym c.line_at.ensures ∙ c.in-Some.is) c.step_back-step.ensures (widened c.loop-i.invariant.wrote c.put_line-place.ensures)

pub shape_of-out : goal.shape_of-out
shape_of-out c = wrote-length c.loop-i.invariant.wrote

pub returns : goal.returns
returns c = entering-done c.loop-i.invariant c.loop-i-test.false
