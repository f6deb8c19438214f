use borrow.Author.Tests.{not-true, not-false}
use native.Mathlib.Omega.{arith}
use mathlib.Core.Path.{refl}
use Rattle.canonical.proofs.Laws.{before-few, numbers_of, other-numbers, other_entries, pixel-past, pixel-there}
use Rattle.canonical.proofs.check_parts.Goals as goal

pub returns-then-not-s : goal.returns-then-not-s
returns-then-not-s c = other-numbers c.args.start c.args.form c.args.base _ c.args.pixel c.look-s.ensures (not-true _ c.if-not-s.true)

pub returns-then-not-same_entries : goal.returns-then-not-same_entries
returns-then-not-same_entries c = other_entries c.args.start c.args.form c.args.base _ c.args.pixel c.look-s.ensures c.same_entries.ensures c.requires.1 (not-false _ c.if-not-s.false) c.if-not-same_entries.true

pub returns-then-n-pixel : goal.returns-then-n-pixel
returns-then-n-pixel c = pixel-past c.args.start c.args.form c.args.base _ c.args.pixel c.look-s.ensures c.same_entries.ensures c.requires.1 (not-false _ c.if-not-s.false) c.if-not-same_entries.false c.requires.2 c.if-n-pixel.true

pub entries_for-before-requires : goal.entries_for-before-requires
entries_for-before-requires c = let f = before-few c.args.form c.args.base _ c.args.pixel c.look-s.ensures refl in
    omega arith

pub pixel_at-old-requires : goal.pixel_at-old-requires
pixel_at-old-requires c = (c.requires.0, numbers_of c.args.start c.args.form c.args.base _ c.args.pixel c.look-s.ensures (not-false _ c.if-not-s.false))

pub returns : goal.returns
returns c = pixel-there c.args.start c.args.form c.args.base _ c.args.pixel c.look-s.ensures c.same_entries.ensures c.requires.1 (not-false _ c.if-not-s.false) c.if-not-same_entries.false c.requires.2 c.if-n-pixel.false c.entries_for-before.ensures c.pixel_at-old.ensures
