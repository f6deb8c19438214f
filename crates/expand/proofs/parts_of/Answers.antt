use Rattle.std.specs.Prelude.{Some}
use Rattle.std.proofs.Common.{ap, arith, le-leb}
use borrow.Author.Tests.{lt-leb}
use Rattle.expand.specs.Expand.{parts_whole}
use Rattle.expand.proofs.Parts.{inside, padding-is, end_is}
use Rattle.expand.proofs.parts_of.Goals as goal

pub returns-then-n-gt4294967296 : goal.returns-then-n-gt4294967296
unfolding parts_whole
returns-then-n-gt4294967296 c = rw (lt-leb _ _ (rw c.pixel_count-n.ensures at c.if-n-gt4294967296.true))

pub returns-then-bytes-end : goal.returns-then-bytes-end
unfolding parts_whole
returns-then-bytes-end c = rw (le-leb _ _ (rw c.pixel_count-n.ensures at c.if-n-gt4294967296.false), lt-leb _ _ (rw (end_is c.args.image c.args.tables c.places_of-p.ensures) at c.if-bytes-end.true))

pub paddings_zero-requires : goal.paddings_zero-requires
paddings_zero-requires c = let s = c.args in
    omega (arith, inside s.image s.tables c.places_of-p.ensures (rw (end_is c.args.image c.args.tables c.places_of-p.ensures) at c.if-bytes-end.false))

pub returns-then-not-paddings_zero : goal.returns-then-not-paddings_zero
unfolding parts_whole
returns-then-not-paddings_zero c = let s = c.args in
    rw (le-leb _ _ (rw c.pixel_count-n.ensures at c.if-n-gt4294967296.false), le-leb _ _ (rw (end_is c.args.image c.args.tables c.places_of-p.ensures) at c.if-bytes-end.false), ← padding-is s.image s.tables s.bytes.now c.places_of-p.ensures, ← c.paddings_zero.ensures, c.if-not-paddings_zero.true)

pub returns : goal.returns
unfolding parts_whole
returns c = let s = c.args in
    rw (le-leb _ _ (rw c.pixel_count-n.ensures at c.if-n-gt4294967296.false), le-leb _ _ (rw (end_is c.args.image c.args.tables c.places_of-p.ensures) at c.if-bytes-end.false), ← padding-is s.image s.tables s.bytes.now c.places_of-p.ensures, ← c.paddings_zero.ensures, c.if-not-paddings_zero.false) (ap Some c.places_of-p.ensures)
