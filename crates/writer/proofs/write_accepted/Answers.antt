use Rattle.std.proofs.Common.{sym, refl, length-take-le, le-ltb, lt-ltb}
use Rattle.header.proofs.Accepted.{accepted-bounds}
use Rattle.writer.proofs.Whole.{sized_of}
use Rattle.writer.proofs.write_accepted.Goals as goal

pub returns-then-pixels-n : goal.returns-then-pixels-n
returns-then-pixels-n c = let e = lt-ltb _ _ (rw c.pixel_count-n.ensures at c.if-pixels-n.true) in record { value = rw e; out_after = rw e }

pub slice_bounds-write_as-end : goal.slice_bounds-write_as-end
slice_bounds-write_as-end c = sym (length-take-le _ _ (accepted-bounds _ _ c.requires).inside)

pub slice_bounds-write_as-end-2 : goal.slice_bounds-write_as-end-2
slice_bounds-write_as-end-2 c = sym (length-take-le _ _ c.if-pixels-n.false)

pub write_as-requires : goal.write_as-requires
write_as-requires c = sized_of c.args.given.now c.args.pixels.now c.args.h _ _ c.requires c.pixel_count-n.ensures refl c.if-pixels-n.false

pub returns : goal.returns
returns c = let e = le-ltb _ _ (rw c.pixel_count-n.ensures at c.if-pixels-n.false) in record { value = rw (e, ← c.pixel_count-n.ensures) (c.write_as.ensures.value); out_after = rw (e, ← c.pixel_count-n.ensures) (c.write_as.ensures.out_after) }
