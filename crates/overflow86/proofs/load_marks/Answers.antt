use Rattle.std.proofs.Common.{◌≡◌, ◌+◌, ◌-◌, ◌*◌, ◌%◌, length, arith}
use Rattle.layout.specs.Form.{width_bytes}
use Rattle.overflow86.proofs.Blocks.{blocks_start, blocks_more, blocks_end}
use Rattle.overflow86.proofs.load_marks.Goals as goal

pub loop-block-init : goal.loop-block-init
loop-block-init c = blocks_start _ _ _ _

pub overflow_add-marks : goal.overflow_add-marks
overflow_add-marks c =
    let l = c.loop-block in
    let b =
    blocks_more (width_bytes c.args.w) c.args.mark c.args.image.now c.args.pixels.now l.pixels l.marks (l.block * 64) (l.block * 64 + 64) l.invariant c.requires (omega arith) (omega arith) _ _
    (rw c.width_bytes-each.ensures at c.load_block-marks.ensures.value, rw c.width_bytes-each.ensures at c.load_block-marks.ensures.pixels_after) in
    omega (arith, b.low)

pub loop-block-preserved : goal.loop-block-preserved
loop-block-preserved c =
    let l = c.loop-block in
    let e : (l.block + 1) * 64 ≡ l.block * 64 + 64 = omega arith in
    rw e
    (blocks_more (width_bytes c.args.w) c.args.mark c.args.image.now c.args.pixels.now l.pixels l.marks (l.block * 64) (l.block * 64 + 64) l.invariant c.requires (omega arith) (omega arith) _ _
    (rw c.width_bytes-each.ensures at c.load_block-marks.ensures.value, rw c.width_bytes-each.ensures at c.load_block-marks.ensures.pixels_after))

pub overflow_add-result : goal.overflow_add-result
overflow_add-result c =
    let l = c.loop-block in
    let n = length c.args.pixels.now in
    let q : l.block * 64 ≡ n - n % 64 = omega (arith, l.invariant.upto, c.loop-block-test.false) in
    let b =
    blocks_more (width_bytes c.args.w) c.args.mark c.args.image.now c.args.pixels.now l.pixels l.marks (n - n % 64) n (rw q at l.invariant) c.requires (omega arith) (omega arith) _ _
    (rw (c.width_bytes-each.ensures, l.invariant.same) at c.load_block.ensures.value, rw (c.width_bytes-each.ensures, l.invariant.same) at c.load_block.ensures.pixels_after) in
    omega (arith, b.low)

pub returns : goal.returns
returns c =
    let l = c.loop-block in
    let n = length c.args.pixels.now in
    let q : l.block * 64 ≡ n - n % 64 = omega (arith, l.invariant.upto, c.loop-block-test.false) in
    let b =
    blocks_more (width_bytes c.args.w) c.args.mark c.args.image.now c.args.pixels.now l.pixels l.marks (n - n % 64) n (rw q at l.invariant) c.requires (omega arith) (omega arith) _ _
    (rw (c.width_bytes-each.ensures, l.invariant.same) at c.load_block.ensures.value, rw (c.width_bytes-each.ensures, l.invariant.same) at c.load_block.ensures.pixels_after) in
    let e = blocks_end _ _ _ _ _ _ _ b (omega arith) in
    rw l.invariant.same (record { value = e.0; pixels_after = e.1 })
