use Rattle.std.proofs.Common.{sym, ◌∙◌}
use Rattle.marks.proofs.Loops.{placing-start, placing-end, turn-taken, turn-refused}
use Rattle.mar_image.proofs.Laws.{pairs-length, pairs-at}
use Rattle.mar_image.proofs.place_pairs.Goals as goal

pub loop-k-init : goal.loop-k-init
loop-k-init c = placing-start _ _ _

pub loop-k-preserved : goal.loop-k-preserved
loop-k-preserved c = let p = c.place_entry.ensures in
    turn-taken c.loop-k.invariant (rw pairs-length c.loop-k-test.true) _ _ _ (pairs-at _ _ _ _ c.loop-k-test.true ∙ sym c.pair_at-e.ensures) p.value p.pixels_after c.if-not-place_entry.false

pub returns : goal.returns
returns c = let e = placing-end c.loop-k.invariant (rw pairs-length c.loop-k-test.false) in record { value = e.0; pixels_after = e.1 }

pub returns-then-not-place_entry : goal.returns-then-not-place_entry
returns-then-not-place_entry c =
    let p = c.place_entry.ensures in
    let e = turn-refused c.loop-k.invariant (rw pairs-length c.loop-k-test.true) _ _ _ (pairs-at _ _ _ _ c.loop-k-test.true ∙ sym c.pair_at-e.ensures) p.value p.pixels_after c.if-not-place_entry.true in
    record { value = e.0; pixels_after = e.1 }
