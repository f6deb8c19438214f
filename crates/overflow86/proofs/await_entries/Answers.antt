use Rattle.std.proofs.Common.{◌∙◌, arith, get_or}
use Rattle.overflow86.proofs.Loops.{awaiting-start, awaiting-on, awaiting-end, one-le, byte-one}
use Rattle.overflow86.proofs.await_entries.Goals as goal

pub loop-v-init : goal.loop-v-init
loop-v-init c = awaiting-start _ _

pub overflow_add-marks : goal.overflow_add-marks
overflow_add-marks c = omega (arith, byte-one c.args.mark (get_or c.loop-v.pixels c.loop-v.v-index 0), one-le c.args.mark (get_or c.loop-v.pixels c.loop-v.v-index 0), c.from-marks.ensures)

pub loop-v-preserved : goal.loop-v-preserved
loop-v-preserved c = awaiting-on c.loop-v.invariant _ _ (omega arith) c.waiting_if.ensures (c.from-marks.ensures ∙ byte-one _ _)

pub returns : goal.returns
returns c = let e = awaiting-end c.loop-v.invariant (omega arith) in record { value = e.0; pixels_after = e.1 }
