use Rattle.expand.proofs.Whole.{done-start, done-whole, done-reach, part_length}
use Rattle.expand.proofs.Runs.{done-run, done-pixel}
use Rattle.table.proofs.Laws.{length-entries}
use Rattle.std.proofs.Common.{sym, refl, arith}
use Rattle.expand.proofs.step_runs.Goals as goal

pub loop-c-init : goal.loop-c-init
loop-c-init c = (refl, done-start _ _ _ _ _ (sym (length-entries _ _ _)))

pub run_end-end-requires : goal.run_end-end-requires
run_end-end-requires c = omega (arith, done-reach c.loop-c.invariant.1)

pub slice_bounds-lift_bytes-count : goal.slice_bounds-lift_bytes-count
slice_bounds-lift_bytes-count c = omega (arith, c.next_mark-q.ensures.low)

pub slice_bounds-lift_bytes-start : goal.slice_bounds-lift_bytes-start
slice_bounds-lift_bytes-start c = omega (arith, c.next_mark-q.ensures.low)

pub slice_bounds-lift_bytes-end : goal.slice_bounds-lift_bytes-end
slice_bounds-lift_bytes-end c = omega (arith, c.next_mark-q.ensures.upto)

pub offset_bounds-pixels-p : goal.offset_bounds-pixels-p
offset_bounds-pixels-p c = omega (arith, done-reach c.loop-c.invariant.1)

pub slice_bounds-lift_bytes-count-in-loop-c : goal.slice_bounds-lift_bytes-count-in-loop-c
slice_bounds-lift_bytes-count-in-loop-c c = omega (arith, c.next_mark-q.ensures.low)

pub slice_bounds-lift_bytes-start-in-loop-c : goal.slice_bounds-lift_bytes-start-in-loop-c
slice_bounds-lift_bytes-start-in-loop-c c = omega (arith, c.next_mark-q.ensures.low)

pub slice_bounds-lift_bytes-end-in-loop-c : goal.slice_bounds-lift_bytes-end-in-loop-c
slice_bounds-lift_bytes-end-in-loop-c c = omega (arith, c.next_mark-q.ensures.upto, done-reach c.loop-c.invariant.1)

pub lift_bytes-requires : goal.lift_bytes-requires
lift_bytes-requires c = let l = c.loop-c in let r = done-reach l.invariant.1 in let q = c.next_mark-q in rw (part_length l.p q.result l.pixels q.ensures.low (omega (arith, q.ensures.upto)), part_length l.p q.result c.args.image.now q.ensures.low (omega (arith, q.ensures.upto)))

pub bounds-image-q : goal.bounds-image-q
bounds-image-q c = omega (arith, c.next_mark-q.ensures.upto)

pub step_pixel-x-requires : goal.step_pixel-x-requires
step_pixel-x-requires c = let l = c.loop-c in omega (arith, l.invariant.1.two-low, l.invariant.1.four_low, l.invariant.1.under_low, c.next_mark-q.ensures.low, c.next_mark-q.ensures.upto)

pub offset_bounds-pixels-q : goal.offset_bounds-pixels-q
offset_bounds-pixels-q c = let d = (done-run c.args.image.now c.loop-c.invariant.1 (omega (arith, c.requires.0)) c.requires.1 (λ i. omega (arith, c.type_inv.image i)) c.next_mark-q.ensures c.run_end-end.ensures.1 (rw c.used_baseline-base.ensures at c.lift_bytes.ensures)) in let g = c.well_formed in omega (arith, done-reach d, c.next_mark-q.ensures.low, c.next_mark-q.ensures.upto, c.run_end-end.ensures)

pub bounds-pixels-q : goal.bounds-pixels-q
bounds-pixels-q c = let d = (done-run c.args.image.now c.loop-c.invariant.1 (omega (arith, c.requires.0)) c.requires.1 (λ i. omega (arith, c.type_inv.image i)) c.next_mark-q.ensures c.run_end-end.ensures.1 (rw c.used_baseline-base.ensures at c.lift_bytes.ensures)) in omega (arith, done-reach d, c.next_mark-q.ensures.low, c.next_mark-q.ensures.upto, c.run_end-end.ensures)

pub overflow_add-p : goal.overflow_add-p
overflow_add-p c = omega (arith, c.next_mark-q.ensures.low, c.next_mark-q.ensures.upto, c.run_end-end.ensures)

pub loop-c-smaller : goal.loop-c-smaller
loop-c-smaller c = omega (arith, c.next_mark-q.ensures.low, c.next_mark-q.ensures.upto, c.run_end-end.ensures)

pub loop-c-preserved : goal.loop-c-preserved
loop-c-preserved c = (refl, done-pixel c.args.image.now (done-run c.args.image.now c.loop-c.invariant.1 (omega (arith, c.requires.0)) c.requires.1 (λ i. omega (arith, c.type_inv.image i)) c.next_mark-q.ensures c.run_end-end.ensures.1 (rw c.used_baseline-base.ensures at c.lift_bytes.ensures)) (omega (arith, c.requires.0)) (omega (arith, c.next_mark-q.ensures.low, c.next_mark-q.ensures.upto, c.run_end-end.ensures)) c.step_pixel-x.ensures)

pub shape_of-pixels : goal.shape_of-pixels
shape_of-pixels c = (done-run c.args.image.now c.loop-c.invariant.1 (omega (arith, c.requires.0)) c.requires.1 (λ i. omega (arith, c.type_inv.image i)) c.next_mark-q.ensures c.run_end-end.ensures.1 (rw c.used_baseline-base.ensures at c.lift_bytes.ensures)).same

pub returns : goal.returns
returns c = done-whole (done-run c.args.image.now c.loop-c.invariant.1 (omega (arith, c.requires.0)) c.requires.1 (λ i. omega (arith, c.type_inv.image i)) c.next_mark-q.ensures c.run_end-end.ensures.1 (rw c.used_baseline-base.ensures at c.lift_bytes.ensures)) (rw length-entries (omega arith))
