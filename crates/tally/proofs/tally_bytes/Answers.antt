use Rattle.std.proofs.Common.{◌≡◌, ◌+◌, ◌*◌, length, min, refl, arith, length-take, length-drop}
use Rattle.tally.proofs.Laws.{bytes-start, bytes-more, bytes-few, bytes-done}
use Rattle.tally.proofs.tally_bytes.Goals as goal

pub loop-block-init : goal.loop-block-init
loop-block-init c = let e : min (0 * 192) (length c.args.t.now) ≡ 0 = omega arith in rw e (bytes-start _ _)

pub count_byte-requires : goal.count_byte-requires
count_byte-requires c = simp (length-take, length-drop) (omega arith)

pub overflow_add-zeros : goal.overflow_add-zeros
overflow_add-zeros c =
    let q : min (c.loop-block.block * 192) (length c.args.t.now) ≡ c.loop-block.block * 192 = omega arith in
    omega (arith, bytes-few (bytes-more (c.loop-block.block * 192 + c.min.result) c.count_byte.result _ (rw q at c.loop-block.invariant) (omega arith) (omega arith) c.count_byte.ensures refl))

pub count_byte-requires-in-loop-block : goal.count_byte-requires-in-loop-block
count_byte-requires-in-loop-block c = simp (length-take, length-drop) (omega arith)

pub overflow_add-marks : goal.overflow_add-marks
overflow_add-marks c =
    let q : min (c.loop-block.block * 192) (length c.args.t.now) ≡ c.loop-block.block * 192 = omega arith in
    omega (arith, bytes-few (bytes-more (c.loop-block.block * 192 + c.min.result) c.count_byte.result c.count_byte-in-loop-block.result (rw q at c.loop-block.invariant) (omega arith) (omega arith) c.count_byte.ensures c.count_byte-in-loop-block.ensures))

pub loop-block-preserved : goal.loop-block-preserved
loop-block-preserved c =
    let q : min (c.loop-block.block * 192) (length c.args.t.now) ≡ c.loop-block.block * 192 = omega arith in
    let e : min ((c.loop-block.block + 1) * 192) (length c.args.t.now) ≡ (c.loop-block.block * 192 + c.min.result) = omega arith in
    rw e (bytes-more (c.loop-block.block * 192 + c.min.result) c.count_byte.result c.count_byte-in-loop-block.result (rw q at c.loop-block.invariant) (omega arith) (omega arith) c.count_byte.ensures c.count_byte-in-loop-block.ensures)

pub returns : goal.returns
returns c = bytes-done c.loop-block.invariant (omega arith)
