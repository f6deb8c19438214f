use Rattle.std.proofs.Common.{sym, ◌∙◌, length-take-le, le-ltb, lt-ltb}
use Rattle.expand.specs.Expand.{binary_answer, binary_pixels}
use Rattle.expand.proofs.Parts.{end_is}
use Rattle.expand.proofs.expand.Goals as goal

pub returns-then-pixels-n : goal.returns-then-pixels-n
unfolding binary_answer binary_pixels
returns-then-pixels-n c = let e = lt-ltb _ _ (rw c.pixel_count-n.ensures at c.if-pixels-n.true) in record { value = rw e; pixels_after = rw e }

pub returns-then-bytes-four : goal.returns-then-bytes-four
unfolding binary_answer binary_pixels
returns-then-bytes-four c = let s = c in
    let e = le-ltb _ _ (rw c.pixel_count-n.ensures at c.if-pixels-n.false) in
    let f = lt-ltb _ _ (rw (end_is s.args.image s.args.tables c.places_of-p.ensures) at c.if-bytes-four.true) in record { value = rw (e, f); pixels_after = rw (e, f) }

pub slice_bounds-expand_frame-end-2 : goal.slice_bounds-expand_frame-end-2
slice_bounds-expand_frame-end-2 c = sym (length-take-le _ _ c.if-pixels-n.false)

pub expand_frame-requires : goal.expand_frame-requires
expand_frame-requires c = let s = c in
    (c.places_of-p.ensures, rw (end_is s.args.image s.args.tables c.places_of-p.ensures) at c.if-bytes-four.false, length-take-le _ _ c.if-pixels-n.false ∙ c.pixel_count-n.ensures)

pub returns : goal.returns
unfolding binary_answer binary_pixels
returns c = let s = c in
    let n = c.pixel_count-n.ensures in
    let e = le-ltb _ _ (rw n at c.if-pixels-n.false) in
    let f = le-ltb _ _ (rw (end_is s.args.image s.args.tables c.places_of-p.ensures) at c.if-bytes-four.false) in
    let r = c.expand_frame.ensures in record { value = rw (e, f) r.value; pixels_after = rw (e, f, r.pixels_after, n) }
