use mathlib.Core.Path.{◌≡◌, ◌∙◌}
use Prim.Native.Nat.{◌-◌, ◌*◌}
use native.Mathlib.Nat.{div-le_self}
use native.Mathlib.Omega.{arith}
use lib.ListN.{length, take, length-take, length-drop, length-append}
use Rattle.layout.proofs.Laws.{width-pos}
use Rattle.table.proofs.Laws.{length-entries}
use Rattle.expand.proofs.Whole.{tail-is}
use Rattle.tally.proofs.Laws.{tallying-start, tallying-few, tally-few, tallying-more, tallying-done, block_within}
use Rattle.tally.proofs.tally_blocks.Goals as goal
use Rattle.std.proofs.Common.{◌+◌, ◌/◌, min}

pub nonzero_div-n : goal.nonzero_div-n
nonzero_div-n c = rw c.width_bytes-each.ensures (width-pos c.args.w)

pub loop-block-init : goal.loop-block-init
loop-block-init c =
    let e : min (0 * 64) (length c.args.t.now / c.width_bytes-each.result) ≡ 0 = omega arith in
    (c.requires, rw e (tallying-start _ _ _ _ _))

pub overflow_mul-at : goal.overflow_mul-at
overflow_mul-at c =
    let inside = block_within c.width_bytes-each.result (c.loop-block.block * 64) (c.loop-block.block * 64 + c.min-k.result) c.args.t.now (omega arith) (omega arith) in
    omega (arith, inside)

pub slice_bounds-tally_part-count : goal.slice_bounds-tally_part-count
slice_bounds-tally_part-count c =
    let inside = block_within c.width_bytes-each.result (c.loop-block.block * 64) (c.loop-block.block * 64 + c.min-k.result) c.args.t.now (omega arith) (omega arith) in
    omega (arith, inside)

pub slice_bounds-tally_part-start : goal.slice_bounds-tally_part-start
slice_bounds-tally_part-start c =
    let inside = block_within c.width_bytes-each.result (c.loop-block.block * 64) (c.loop-block.block * 64 + c.min-k.result) c.args.t.now (omega arith) (omega arith) in
    omega (arith, inside)

pub tally_part-d-requires : goal.tally_part-d-requires
tally_part-d-requires c =
    let inside = block_within c.width_bytes-each.result (c.loop-block.block * 64) (c.loop-block.block * 64 + c.min-k.result) c.args.t.now (omega arith) (omega arith) in
    let p = c.loop-block.block * 64 in
    let w = c.width_bytes-each in
    let d : p + c.min-k.result - p ≡ c.min-k.result = omega arith in
    let q : length (take c.min-k.result c.loop-block.room) ≡ c.min-k.result = simp length-take (omega arith) in
    rw (q, tail-is (p * w.result) c.args.t.now, length-drop, ← w.ensures) (rw d at inside.1, omega arith)

pub add_tallies-c-requires : goal.add_tallies-c-requires
add_tallies-c-requires c =
    let p = c.loop-block.block * 64 in
    let r : min p (length c.args.t.now / c.width_bytes-each.result) ≡ p = omega arith in
    let f = tallying-few (rw r at c.loop-block.invariant.1) in
    let q : length (take c.min-k.result c.loop-block.room) ≡ c.min-k.result = simp length-take (omega arith) in
    let g = tally-few _ _ _ _ c.tally_part-d.ensures (length-entries _ _ _ ∙ q) in
    omega (arith, div-le_self (length c.args.t.now) c.width_bytes-each.result)

pub loop-block-preserved : goal.loop-block-preserved
loop-block-preserved c =
    let p = c.loop-block.block * 64 in
    let w = c.width_bytes-each in
    let r : min p (length c.args.t.now / w.result) ≡ p = omega arith in
    let e : min ((c.loop-block.block + 1) * 64) (length c.args.t.now / w.result) ≡ (c.loop-block.block * 64 + c.min-k.result) = omega arith in
    let q : length (take c.min-k.result c.loop-block.room) ≡ p + c.min-k.result - p = simp length-take (omega arith) in
    (simp (length-append, length-drop) (omega (arith, c.loop-block.invariant.0)), rw e (tallying-more (c.loop-block.block * 64 + c.min-k.result) _ (rw r at c.loop-block.invariant.1) (omega arith) (omega arith) q (rw (← w.ensures) at c.tally_part-d.ensures) c.add_tallies-c.ensures))

pub returns : goal.returns
returns c = rw (← c.width_bytes-each.ensures) (tallying-done c.loop-block.invariant.1 (omega arith))
