use Rattle.std.proofs.Common.{Bool, refl, ap, ◌∙◌, arith, length-set}
use Rattle.std.specs.Prelude.{if◌then◌else◌}
use Rattle.pixel_counts.proofs.Counting.{one_if}
use Rattle.writer.proofs.Gathering.{one_le, gathering-start, gathering-more, gathering-done}
use Rattle.writer.proofs.gather.Goals as goal

pub loop-v-init : goal.loop-v-init
loop-v-init g c = (omega arith, refl, λ p a. gathering-start _ _ _ c.requires.room)

pub offset_bounds-out-k : goal.offset_bounds-out-k
offset_bounds-out-k g c = omega (arith, c.loop-v.invariant.0, c.requires.room)

pub overflow_add-k : goal.overflow_add-k
overflow_add-k g c = rw c.from-k.ensures (omega (arith, c.loop-v.invariant.0, one_le c.passes.result))

pub loop-v-preserved : goal.loop-v-preserved
loop-v-preserved g c = (rw c.from-k.ensures (omega (arith, c.loop-v.invariant.0, one_le c.passes.result)), simp length-set c.loop-v.invariant.1, λ p a. gathering-more _ (c.loop-v.invariant.2 p a) c.loop-v-test.true (c.from-k.ensures ∙ one_if _ ∙ ap (λ (t : Bool). if◌then◌else◌ t 1 0) (a _ _ c.passes.ensures)))

pub returns : goal.returns
returns g c = λ p a. gathering-done (c.loop-v.invariant.2 p a) c.loop-v-test.false
