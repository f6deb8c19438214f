use mathlib.Core.Path.{refl, sym}
use lib.Seq.{length-take-le}
use borrow.Author.Tests.{lt-ltb, le-ltb}
use Rattle.header.proofs.Accepted.{accepted-bounds}
use Rattle.writer.proofs.Whole.{sized_of}
use Rattle.smallest.proofs.Lengths.{all-refused}
use Rattle.smallest.proofs.choose_from.Goals as goal

pub returns-then-pixels-n : goal.returns-then-pixels-n
returns-then-pixels-n c = let e = lt-ltb _ _ (rw c.pixel_count-n.ensures at c.if-pixels-n.true) in rw e (sym (all-refused _))

pub slice_bounds-choose_as-end : goal.slice_bounds-choose_as-end
slice_bounds-choose_as-end c = sym (length-take-le _ _ (accepted-bounds _ _ c.requires).inside)

pub slice_bounds-choose_as-end-2 : goal.slice_bounds-choose_as-end-2
slice_bounds-choose_as-end-2 c = sym (length-take-le _ _ c.if-pixels-n.false)

pub choose_as-requires : goal.choose_as-requires
choose_as-requires c = sized_of c.args.given.now c.args.pixels.now c.args.h _ _ c.requires c.pixel_count-n.ensures refl c.if-pixels-n.false

pub returns : goal.returns
returns c = let e = le-ltb _ _ (rw c.pixel_count-n.ensures at c.if-pixels-n.false) in rw (e, ← c.pixel_count-n.ensures) c.choose_as.ensures
