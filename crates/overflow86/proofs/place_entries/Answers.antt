use Rattle.std.proofs.Common.{refl, sym, ◌∙◌}
use Rattle.marks.proofs.Loops.{placing-start, placing-end, turn-taken, turn-refused}
use Rattle.overflow86.proofs.Texts.{entries-length, entries_at}
use Rattle.overflow86.proofs.place_entries.Goals as goal

pub loop-k-init : goal.loop-k-init
loop-k-init c = (refl, placing-start _ _ _)

pub loop-k-preserved : goal.loop-k-preserved
loop-k-preserved c =
    let p = c.place_entry.ensures in
    (c.loop-k.invariant.0, turn-taken c.loop-k.invariant.1 (rw entries-length c.loop-k-test.true) _ _ _ (entries_at _ _ _ c.loop-k-test.true ∙ sym c.entry_at-e.ensures) p.value p.pixels_after c.if-not-place_entry.false)

pub returns-then-not-place_entry : goal.returns-then-not-place_entry
returns-then-not-place_entry c =
    let p = c.place_entry.ensures in
    let e = turn-refused c.loop-k.invariant.1 (rw entries-length c.loop-k-test.true) _ _ _ (entries_at _ _ _ c.loop-k-test.true ∙ sym c.entry_at-e.ensures) p.value p.pixels_after c.if-not-place_entry.true in
    record { value = e.0; pixels_after = e.1 }

pub returns-after-loop-k : goal.returns-after-loop-k
returns-after-loop-k c =
    let e = placing-end c.loop-k.invariant.1 (rw entries-length c.loop-k-test.false) in
    record { value = c.loop-k.invariant.0 ∙ e.0; pixels_after = e.1 }
