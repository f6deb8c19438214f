use Rattle.std.proofs.Common.{length, sym, arith, length-take-le}
use Rattle.writer.specs.Storing.{stored_for}
use Rattle.writer.proofs.Whole.{inside, cleared-length, blocks-ready, held-is, self-placed, prefix-length}
use Rattle.writer.proofs.Storage.store_frame.Goals as goal

pub slice_bounds-fill-count : goal.slice_bounds-fill-count
slice_bounds-fill-count c = let k = inside _ _ _ _ _ c.requires.3 c.requires.4 in omega (arith, k.reach)

pub slice_bounds-fill-start : goal.slice_bounds-fill-start
slice_bounds-fill-start c = let k = inside _ _ _ _ _ c.requires.3 c.requires.4 in omega (arith, k.reach)

pub store_pixels-requires : goal.store_pixels-requires
store_pixels-requires c = let k = inside _ _ _ _ _ c.requires.3 c.requires.4 in
    record {
      used = c.requires.1;
      places = self-placed (length c.args.header.now) c.args.self.form (stored_for c.args.self.form c.args.self.base c.args.pixels.now) c.args.at c.requires.3 k.image;
      whole = rw (k.image, cleared-length c.args.out.now c.fill.new.out c.args.at.under k.reach c.fill.ensures) c.requires.4;
      clear = blocks-ready _ _ _ _ _ _ k c.fill.ensures;
      low = c.requires.5;
    }

pub slice_bounds-put_header-end : goal.slice_bounds-put_header-end
slice_bounds-put_header-end c = let k = inside _ _ _ _ _ c.requires.3 c.requires.4 in omega (arith, k.reach, k.image, k.under)

pub slice_bounds-put_header-end-2 : goal.slice_bounds-put_header-end-2
slice_bounds-put_header-end-2 c = let k = inside _ _ _ _ _ c.requires.3 c.requires.4 in sym (length-take-le _ _ (omega (arith, k.reach, k.image, k.under)))

pub put_header-requires : goal.put_header-requires
put_header-requires c = let k = inside _ _ _ _ _ c.requires.3 c.requires.4 in (prefix-length _ _ _ k.image (omega (arith, k.reach, k.image, k.under)), c.requires.0)

pub returns : goal.returns
returns c = let k = inside _ _ _ _ _ c.requires.3 c.requires.4 in
    let m = cleared-length c.args.out.now c.fill.new.out c.args.at.under k.reach c.fill.ensures in
    held-is _ _ _ _ _ _ _ _ _ c.requires.0 c.requires.2 k.image (rw m (omega (arith, k.reach, k.image, k.under))) m c.put_header.ensures c.store_pixels.ensures
