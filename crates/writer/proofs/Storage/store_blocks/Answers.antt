use Rattle.std.proofs.Common.{◌≡◌, ◌≤◌, ◌<◌, ℕ, ◌+◌, ◌*◌, length, min, refl, arith, length-drop, length-take}
use Rattle.std.specs.Int.{div_ceil}
use Rattle.writer.proofs.Placing.{placed-start, storing-room, storing-more, storing-done}
use Rattle.writer.proofs.Storage.store_blocks.Goals as goal

-- a block starts within the pixels, and behind the last one there is none
block_start : (n i k : ℕ) → k ≡ div_ceil n 64 → i < k → i * 64 < n
block_start n i k e h = omega arith

blocks_end : (n i k : ℕ) → k ≡ div_ceil n 64 → k ≤ i → n ≤ i * 64
blocks_end n i k e h = omega arith

pub loop-i-init : goal.loop-i-init
loop-i-init c = let z : min 0 (length c.args.pixels.now) ≡ 0 = omega arith in
    rw z (record { upto = omega arith; same = refl; is = placed-start _ _ _ _ _ c.requires.places c.requires.whole c.requires.clear })

pub store_block-t-requires : goal.store_block-t-requires
store_block-t-requires c =
    let h = block_start (length c.args.pixels.now) c.loop-i.i _ c.div_ceil-i-end.ensures c.loop-i-test.true in
    let z : min (c.loop-i.i * 64) (length c.args.pixels.now) ≡ c.loop-i.i * 64 = omega arith in
    let f = rw z at c.loop-i.invariant in
    (simp (length-take, length-drop) (omega (arith, c.min.ensures)), c.requires.used, storing-room (c.loop-i.i * 64 + c.min.result) f (omega (arith, c.min.ensures)) c.requires.whole)

pub loop-i-preserved : goal.loop-i-preserved
loop-i-preserved c =
    let h = block_start (length c.args.pixels.now) c.loop-i.i _ c.div_ceil-i-end.ensures c.loop-i-test.true in
    let z : min (c.loop-i.i * 64) (length c.args.pixels.now) ≡ c.loop-i.i * 64 = omega arith in
    let f = rw z at c.loop-i.invariant in
    let e : min ((c.loop-i.i + 1) * 64) (length c.args.pixels.now) ≡ c.loop-i.i * 64 + c.min.result = omega (arith, c.min.ensures) in
    rw e (storing-more (c.loop-i.i * 64 + c.min.result) _ _ f (omega (arith, c.min.ensures)) (omega (arith, c.min.ensures)) c.requires.whole c.store_block-t.auto.out c.store_block-t.ensures.value c.store_block-t.ensures.out_after)

pub returns : goal.returns
returns c =
    let h = blocks_end (length c.args.pixels.now) c.loop-i.i _ c.div_ceil-i-end.ensures c.loop-i-test.false in
    storing-done c.loop-i.invariant (omega arith) c.requires.whole
