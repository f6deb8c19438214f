use Rattle.std.proofs.Common.{◌+◌, sym, refl, ◌∙◌, arith, length-take-le}
use Rattle.writer.proofs.Placing.{placed-start, storing-room, storing-more, storing-done}
use Rattle.writer.proofs.Runs.{range_small, without-front, one_at}
use Rattle.writer.proofs.Storage.store_runs.Goals as goal

pub plain_range-k-requires : goal.plain_range-k-requires
plain_range-k-requires c = c.requires.low

pub runs-init : goal.runs-init
runs-init c = record { upto = omega arith; same = refl; is = placed-start _ _ _ _ _ c.requires.places c.requires.whole c.requires.clear }

pub run_limit-end-requires : goal.run_limit-end-requires
run_limit-end-requires c = c.runs.invariant.upto

pub slice_bounds-next_outside-end : goal.slice_bounds-next_outside-end
slice_bounds-next_outside-end c = sym (length-take-le _ _ c.run_limit-end.ensures.1)

pub next_outside-q-requires : goal.next_outside-q-requires
next_outside-q-requires c = (rw (length-take-le c.run_limit-end.result c.args.pixels.now c.run_limit-end.ensures.1) c.run_limit-end.ensures.0, range_small c.args.self.form c.args.self.base _ c.plain_range-k.ensures c.requires.low)

pub offset_bounds-pixels-p : goal.offset_bounds-pixels-p
offset_bounds-pixels-p c = omega (arith, c.runs.invariant.upto)

pub slice_bounds-put_plain-count : goal.slice_bounds-put_plain-count
slice_bounds-put_plain-count c = c.next_outside-q.ensures.from

pub slice_bounds-put_plain-start : goal.slice_bounds-put_plain-start
slice_bounds-put_plain-start c = omega (arith, c.runs.invariant.upto)

pub slice_bounds-put_plain-end : goal.slice_bounds-put_plain-end
slice_bounds-put_plain-end c = let r = without-front c.args.pixels.now c.run_limit-end.result c.next_outside-q.ensures c.run_limit-end.ensures.1 in omega arith

pub put_plain-t-requires : goal.put_plain-t-requires
put_plain-t-requires c = let r = without-front c.args.pixels.now c.run_limit-end.result c.next_outside-q.ensures c.run_limit-end.ensures.1 in
    (rw c.plain_range-k.ensures at r.none, c.requires.used, c.requires.low, storing-room c.next_outside-q.result c.runs.invariant r.from c.requires.whole)

pub offset_bounds-pixels-q : goal.offset_bounds-pixels-q
offset_bounds-pixels-q c = let r = without-front c.args.pixels.now c.run_limit-end.result c.next_outside-q.ensures c.run_limit-end.ensures.1 in omega arith

pub bounds-pixels-q : goal.bounds-pixels-q
bounds-pixels-q c = let r = without-front c.args.pixels.now c.run_limit-end.result c.next_outside-q.ensures c.run_limit-end.ensures.1 in omega arith

pub put_pixel-t-requires : goal.put_pixel-t-requires
put_pixel-t-requires c = let r = without-front c.args.pixels.now c.run_limit-end.result c.next_outside-q.ensures c.run_limit-end.ensures.1 in
    let s = storing-more c.next_outside-q.result _ _ c.runs.invariant r.from r.upto c.requires.whole c.out-1.given c.put_plain-t.ensures.value c.put_plain-t.ensures.out_after in
    (c.requires.used, rw (one_at c.args.pixels.now c.next_outside-q.result (omega arith)) at (storing-room (c.next_outside-q.result + 1) s (omega arith) c.requires.whole))

pub overflow_add-p : goal.overflow_add-p
overflow_add-p c = let r = without-front c.args.pixels.now c.run_limit-end.result c.next_outside-q.ensures c.run_limit-end.ensures.1 in let g = c.well_formed in omega (arith, r.upto)

pub runs-smaller : goal.runs-smaller
runs-smaller c = let r = without-front c.args.pixels.now c.run_limit-end.result c.next_outside-q.ensures c.run_limit-end.ensures.1 in omega arith

pub runs-preserved : goal.runs-preserved
runs-preserved c = let r = without-front c.args.pixels.now c.run_limit-end.result c.next_outside-q.ensures c.run_limit-end.ensures.1 in
    let s = storing-more c.next_outside-q.result _ _ c.runs.invariant r.from r.upto c.requires.whole c.out-1.given c.put_plain-t.ensures.value c.put_plain-t.ensures.out_after in
    let o = one_at c.args.pixels.now c.next_outside-q.result (omega arith) in
    storing-more (c.next_outside-q.result + 1) _ _ s (omega arith) (omega arith) c.requires.whole c.out-in-runs-1.given (rw o c.put_pixel-t.ensures.value) (rw o c.put_pixel-t.ensures.out_after)

pub shape_of-out : goal.shape_of-out
shape_of-out c = c.out-1.given ∙ c.runs.invariant.same

pub returns : goal.returns
returns c = let r = without-front c.args.pixels.now c.run_limit-end.result c.next_outside-q.ensures c.run_limit-end.ensures.1 in
    let s = storing-more c.next_outside-q.result _ _ c.runs.invariant r.from r.upto c.requires.whole c.out-1.given c.put_plain-t.ensures.value c.put_plain-t.ensures.out_after in
    storing-done s (omega arith) c.requires.whole
