use Rattle.std.proofs.Common.{refl, arith}
use Rattle.writer.proofs.Over.{put-part}
use Rattle.writer.proofs.Placing.{plain-is, whole_room, whole_four}
use Rattle.writer.proofs.Storage.store_pixels.Goals as goal

pub overflow_add-end : goal.overflow_add-end
overflow_add-end c = let a = c.args in
    let p = plain-is a.self.form.width a.self.form.underflow c.is_plain.result c.is_plain.ensures c.if-is_plain.true in
    let r = rw p.0 at (whole_room a.self.form a.self.base a.pixels.now a.out.now a.at p.1 c.requires.places c.requires.whole c.requires.clear) in
    omega (arith, r.image)

pub slice_bounds-store_halves-end : goal.slice_bounds-store_halves-end
slice_bounds-store_halves-end c = let a = c.args in
    let p = plain-is a.self.form.width a.self.form.underflow c.is_plain.result c.is_plain.ensures c.if-is_plain.true in
    let r = rw p.0 at (whole_room a.self.form a.self.base a.pixels.now a.out.now a.at p.1 c.requires.places c.requires.whole c.requires.clear) in
    omega (arith, r.image)

pub returns-then-is_plain : goal.returns-then-is_plain
returns-then-is_plain c = let a = c.args in
    let p = plain-is a.self.form.width a.self.form.underflow c.is_plain.result c.is_plain.ensures c.if-is_plain.true in
    let r = rw p.0 at (whole_room a.self.form a.self.base a.pixels.now a.out.now a.at p.1 c.requires.places c.requires.whole c.requires.clear) in
    let o = put-part a.pixels.now a.out.now _ 4 a.at.image _ refl r.image c.store_halves.ensures.out_after in
    whole_four a.self.form a.self.base a.pixels.now a.out.now a.at p.1 c.requires.places c.requires.whole c.requires.clear _ p.0 r.image o

pub store_runs-requires : goal.store_runs-requires
store_runs-requires c = c.requires

pub returns-then-has_few : goal.returns-then-has_few
returns-then-has_few c = c.store_runs.ensures

pub store_blocks-requires : goal.store_blocks-requires
store_blocks-requires c = c.requires

pub returns : goal.returns
returns c = c.store_blocks.ensures
