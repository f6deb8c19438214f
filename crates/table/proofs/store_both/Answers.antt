use Rattle.std.proofs.Common.{◌≡◌, ◌+◌, ◌-◌, ◌*◌, ◌/◌, ◌%◌, length, refl, zero-mul, arith}
use Rattle.layout.specs.Form.{width_bytes}
use Rattle.lists.proofs.Halves.{halves-start}
use Rattle.table.proofs.Storing.{stored_more, stored-end}
use Rattle.table.proofs.store_both.Goals as goal

pub loop-block-init : goal.loop-block-init
loop-block-init c = simp zero-mul (halves-start _ _ _)

pub loop-block-preserved : goal.loop-block-preserved
loop-block-preserved c =
    let b = c.loop-block.block in
    let e : (b + 1) * 256 ≡ b * 256 + 256 = omega arith in
    rw e
    (stored_more (width_bytes c.args.w) c.args.values.now c.args.out.now c.loop-block.out _ _ _ (b * 256) (b * 256 + 256) _ c.requires c.loop-block.invariant (omega arith) (omega arith) (omega arith) (omega arith) c.store_part.ensures c.store_part-in-loop-block.ensures (omega arith))

pub returns : goal.returns
returns c =
    let half = length c.args.values.now / 2 in
    let e : c.loop-block.block * 256 ≡ half - half % 256 = omega arith in
    stored-end (width_bytes c.args.w) c.args.values.now c.args.out.now c.loop-block.out _ _ half (half - half % 256) half _ c.requires (rw e at c.loop-block.invariant) (omega arith) (omega arith) (omega arith) (omega arith) c.store_part-2.ensures c.store_part-3.ensures refl refl
