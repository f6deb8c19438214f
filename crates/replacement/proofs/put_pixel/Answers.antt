use mathlib.Core.Path.{◌≡◌, sym, ◌∙◌}
use native.Mathlib.Omega.{arith}
use lib.ListN.{length}
use lib.Seq.{length-take-le}
use Rattle.replacement.specs.Replaced.{replaced_bytes}
use Rattle.replacement.proofs.Theorem.{part-relined}
use Rattle.replacement.proofs.Placed.{pixel-room, start-room, start-long, placed-pixels, placed-fits}
use Rattle.replacement.proofs.put_pixel.Goals as goal

pub put_image-requires : goal.put_image-requires
put_image-requires c = pixel-room _ _ _ c.requires.1

pub put_tables-requires : goal.put_tables-requires
put_tables-requires c = let s = c in
    let a = s.args in
    let n : length c.put_image.new.held ≡ length a.held.now = omega arith in
    record {
      pixels_bound = placed-pixels a.held.now a.place a.pixel s.requires.1;
      all_fit = rw n (placed-fits a.held.now a.place a.pixel s.requires.1 a.v s.requires.2);
    }

pub slice_bounds-rewrite-end : goal.slice_bounds-rewrite-end
slice_bounds-rewrite-end c = let s = c in let r = start-room s.args.held.now s.args.place s.args.pixel s.requires.1 in omega arith

pub slice_bounds-rewrite-end-2 : goal.slice_bounds-rewrite-end-2
slice_bounds-rewrite-end-2 c = let s = c in let r = start-room s.args.held.now s.args.place s.args.pixel s.requires.1 in sym (length-take-le _ _ (omega arith))

pub returns : goal.returns
unfolding replaced_bytes
returns c = let s = c in
    let a = s.args in
    let r = start-room a.held.now a.place a.pixel s.requires.1 in
    part-relined a.place.form a.after c.put_tables.new.held _ a.place.start (start-long a.held.now a.place a.pixel s.requires.1) (omega arith) c.rewrite.ensures
    ∙ rw (s.requires.0, c.put_tables.ensures, c.put_image.ensures)
