use Rattle.std.proofs.Common.{◌*◌, ◌≤◌, length, sym, arith, length-drop}
use Rattle.layout.specs.Form.{width_bytes}
use Rattle.table.proofs.Laws.{length-entries}
use Rattle.expand.proofs.Whole.{done-start, done_next, done-whole, part-fits, part_length, tail-is, reach}
use Rattle.expand.proofs.blocks.Goals as goal

pub loop-p-init : goal.loop-p-init
loop-p-init c = (c.width_bytes-each.ensures, done-start _ _ _ _ _ (sym (length-entries _ _ _)))

pub overflow_mul-at : goal.overflow_mul-at
overflow_mul-at c = let inside : c.loop-p.p ≤ length c.args.pixels.now → c.loop-p.p * c.width_bytes-each.result ≤ length c.args.image.now = λ h. let s = c in
    rw c.width_bytes-each.ensures
    (omega (arith, reach c.loop-p.p (length s.args.pixels.now) (width_bytes s.args.w) h, s.requires)) in
    omega (arith, inside (omega arith))

pub slice_bounds-step_block-count : goal.slice_bounds-step_block-count
slice_bounds-step_block-count c = let inside : c.loop-p.p ≤ length c.args.pixels.now → c.loop-p.p * c.width_bytes-each.result ≤ length c.args.image.now = λ h. let s = c in
    rw c.width_bytes-each.ensures
    (omega (arith, reach c.loop-p.p (length s.args.pixels.now) (width_bytes s.args.w) h, s.requires)) in
    omega (arith, inside (omega arith))

pub slice_bounds-step_block-start : goal.slice_bounds-step_block-start
slice_bounds-step_block-start c = let inside : c.loop-p.p ≤ length c.args.pixels.now → c.loop-p.p * c.width_bytes-each.result ≤ length c.args.image.now = λ h. let s = c in
    rw c.width_bytes-each.ensures
    (omega (arith, reach c.loop-p.p (length s.args.pixels.now) (width_bytes s.args.w) h, s.requires)) in
    omega (arith, inside (omega arith))

pub step_block-t-requires : goal.step_block-t-requires
step_block-t-requires c = let l = c.loop-p in
    let e = c.block_end-e in
    let s = c in
    let q = part_length l.p e.result l.pixels (omega arith) (omega arith) in
    rw (q, l.invariant.0, tail-is (l.p * width_bytes s.args.w) s.args.image.now, length-drop)
    (omega
    (arith, part-fits l.p e.result (length s.args.pixels.now) (width_bytes s.args.w) (length s.args.image.now) (omega arith) (omega arith) s.requires))

pub loop-p-preserved : goal.loop-p-preserved
loop-p-preserved c = let l = c.loop-p in
    (l.invariant.0, done_next _ _ l.invariant.1 (omega arith) (omega arith) (rw l.invariant.0 at c.step_block-t.ensures))

pub shape_of-pixels : goal.shape_of-pixels
shape_of-pixels c = c.loop-p.invariant.1.same

pub returns : goal.returns
returns c = done-whole c.loop-p.invariant.1 (rw length-entries (omega arith))
