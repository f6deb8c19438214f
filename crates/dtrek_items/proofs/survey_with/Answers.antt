use mathlib.Core.Path.{sym, ◌∙◌}
use native.Mathlib.Omega.{arith}
use lib.ListN.{take}
use lib.Seq.{length-take-le}
use Rattle.dtrek_text.proofs.Scans.{found-stands, bad-spoils, last-closes}
use Rattle.dtrek_items.specs.Keys.{Between}
use Rattle.dtrek_items.proofs.Keeping.{keeping-taken, keeping-room}
use Rattle.dtrek_items.proofs.Noting.{surveying-start, surveying-more, malformed-twice, surveying-bad, surveying-open, surveying-end}
use Rattle.dtrek_items.proofs.survey_with.Goals as goal

pub loop-start-init : goal.loop-start-init
loop-start-init c = rw c.no_contents-f.ensures (surveying-start _ _ (omega arith))

pub slice_bounds-find-end : goal.slice_bounds-find-end
slice_bounds-find-end c = let r = keeping-room c.loop-start.invariant.keeping (found-stands (sym c.in-Found.is ∙ c.item.ensures)) in
    omega arith

pub slice_bounds-find-end-in-Found : goal.slice_bounds-find-end-in-Found
slice_bounds-find-end-in-Found c = let r = keeping-room c.loop-start.invariant.keeping (found-stands (sym c.in-Found.is ∙ c.item.ensures)) in
    sym (length-take-le _ _ (omega arith))

pub slice_bounds-find-count : goal.slice_bounds-find-count
slice_bounds-find-count c = let s = found-stands (sym c.in-Found.is ∙ c.item.ensures) in
    omega (arith, s.some, s.before, s.inside)

pub slice_bounds-find-start : goal.slice_bounds-find-start
slice_bounds-find-start c = let s = found-stands (sym c.in-Found.is ∙ c.item.ensures) in
    omega (arith, s.some, s.before, s.inside)

pub slice_bounds-find-end-in-Found-2 : goal.slice_bounds-find-end-in-Found-2
slice_bounds-find-end-in-Found-2 c = let s = found-stands (sym c.in-Found.is ∙ c.item.ensures) in
    omega (arith, s.some, s.before, s.inside)

pub find-requires : goal.find-requires
find-requires c = c.loop-start.invariant.keeping.rising

pub returns-in_default : goal.returns-in_default
returns-in_default c = malformed-twice _ (keeping-taken c.loop-start.invariant.keeping (found-stands (sym c.in-Found.is ∙ c.item.ensures)) (rw c.in_default.is at c.find.ensures))

pub overflow_cast-start : goal.overflow_cast-start
overflow_cast-start c = let s = found-stands (sym c.in-Found.is ∙ c.item.ensures) in
    omega (arith, s.some, s.before, s.inside)

pub insert-requires : goal.insert-requires
insert-requires c = let l = c.loop-start in
    let r = keeping-room l.invariant.keeping (found-stands (sym c.in-Found.is ∙ c.item.ensures)) in
    let w : Between _ (take l.k l.places) _ _ = rw c.in-Some.is at c.find.ensures in
    (omega (arith, w.upto, length-take-le l.k l.places (omega arith)), r)

pub overflow_add-from : goal.overflow_add-from
overflow_add-from c = let s = found-stands (sym c.in-Found.is ∙ c.item.ensures) in
    omega (arith, s.some, s.before, s.inside)

pub slice_bounds-note_all-count : goal.slice_bounds-note_all-count
slice_bounds-note_all-count c = let s = found-stands (sym c.in-Found.is ∙ c.item.ensures) in
    omega (arith, s.some, s.before, s.inside)

pub slice_bounds-note_all-start : goal.slice_bounds-note_all-start
slice_bounds-note_all-start c = let s = found-stands (sym c.in-Found.is ∙ c.item.ensures) in
    omega (arith, s.some, s.before, s.inside)

pub slice_bounds-note_all-end : goal.slice_bounds-note_all-end
slice_bounds-note_all-end c = let s = found-stands (sym c.in-Found.is ∙ c.item.ensures) in
    omega (arith, s.some, s.before, s.inside)

pub loop-start-smaller : goal.loop-start-smaller
loop-start-smaller c = let s = found-stands (sym c.in-Found.is ∙ c.item.ensures) in
    omega (arith, s.after, s.inside, s.from, s.some, s.before)

pub loop-start-preserved : goal.loop-start-preserved
loop-start-preserved c = let l = c.loop-start in
    let w : Between _ (take l.k l.places) _ _ = rw c.in-Some.is at c.find.ensures in
    surveying-more l.invariant (found-stands (sym c.in-Found.is ∙ c.item.ensures)) w c.insert.ensures c.note_all-f.ensures

pub returns-in-Bad : goal.returns-in-Bad
returns-in-Bad c = surveying-bad c.loop-start.invariant (bad-spoils (sym c.in-Bad.is ∙ c.item.ensures))

pub slice_bounds-is_end-count : goal.slice_bounds-is_end-count
slice_bounds-is_end-count c = omega (arith, c.loop-start.invariant.keeping.upto)

pub slice_bounds-is_end-start : goal.slice_bounds-is_end-start
slice_bounds-is_end-start c = omega (arith, c.loop-start.invariant.keeping.upto)

pub slice_bounds-is_end-end : goal.slice_bounds-is_end-end
slice_bounds-is_end-end c = omega (arith, c.loop-start.invariant.keeping.upto)

pub returns-then-is_end : goal.returns-then-is_end
returns-then-is_end c = surveying-end c.loop-start.invariant (last-closes (sym c.in-Last.is ∙ c.item.ensures)) (sym c.is_end.ensures ∙ c.if-is_end.true)

pub returns-in-Last : goal.returns-in-Last
returns-in-Last c = surveying-open c.loop-start.invariant (last-closes (sym c.in-Last.is ∙ c.item.ensures)) (sym c.is_end.ensures ∙ c.if-is_end.false)
