use Rattle.std.proofs.Common.{◌≡◌, ℕ, ◌/◌, ◌≤◌, length, sym, ap, ◌∙◌, arith}
use Rattle.lists.specs.Bytes.{zeros}
use Rattle.layout.specs.Form.{width_bytes, entry_bytes}
use Rattle.table.proofs.Laws.{length-entries}
use Rattle.expand.specs.Blocks.{parts_of}
use Rattle.expand.specs.Steps.{Stored, exhausted}
use Rattle.expand.proofs.Extents.{entry-pos}
use Rattle.expand.proofs.Whole.{exhausted-is, pixels-fit, whole-low}
use Rattle.expand.proofs.expand_parts.Goals as goal

pub nonzero_div-tables-3 : goal.nonzero_div-tables-3
nonzero_div-tables-3 c = let p : 1 ≤ c.entry_bytes-each.result = rw c.entry_bytes-each.ensures (entry-pos c.args.c.width) in
    omega arith

pub returns-then-not-used_up : goal.returns-then-not-used_up
returns-then-not-used_up c = let parts_at : Stored = let a = c.args in
    parts_of (width_bytes a.w) (entry_bytes a.c.width) (length a.pixels.now) a.image.now a.tables.under.now a.tables.two.now a.tables.four.now in
    let spent : exhausted (width_bytes c.args.w) c.args.c.applies (parts_at) ≡ c.used_up.result = let a = c.args in
    exhausted-is c.all_blocks-t.ensures (length a.tables.two.now / 2) (length a.tables.four.now / 4) (length a.tables.under.now / c.entry_bytes-each.result)
    (length-entries _ _ _)
    (length-entries _ _ _)
    (length-entries _ _ _ ∙ ap (λ (e : ℕ). length a.tables.under.now / e) (sym c.entry_bytes-each.ensures))
    c.used_up.ensures in
    let kept : length c.all_blocks-t.new.pixels ≡ length c.args.pixels.now = (whole-low c.all_blocks-t.ensures).long ∙ length-entries _ _ _ in
    let x = spent ∙ c.if-not-used_up.true in record { value = rw x; pixels_after = rw x (c.clear.ensures ∙ ap zeros (kept)) }

pub returns-then-t : goal.returns-then-t
returns-then-t c = let parts_at : Stored = let a = c.args in
    parts_of (width_bytes a.w) (entry_bytes a.c.width) (length a.pixels.now) a.image.now a.tables.under.now a.tables.two.now a.tables.four.now in
    let spent : exhausted (width_bytes c.args.w) c.args.c.applies (parts_at) ≡ c.used_up.result = let a = c.args in
    exhausted-is c.all_blocks-t.ensures (length a.tables.two.now / 2) (length a.tables.four.now / 4) (length a.tables.under.now / c.entry_bytes-each.result)
    (length-entries _ _ _)
    (length-entries _ _ _)
    (length-entries _ _ _ ∙ ap (λ (e : ℕ). length a.tables.under.now / e) (sym c.entry_bytes-each.ensures))
    c.used_up.ensures in
    let kept : length c.all_blocks-t.new.pixels ≡ length c.args.pixels.now = (whole-low c.all_blocks-t.ensures).long ∙ length-entries _ _ _ in
    let x = spent ∙ c.if-not-used_up.false in
    let y = sym c.all_blocks-t.ensures.over-is ∙ c.if-t.true in record { value = rw (x, y); pixels_after = rw (x, y) (c.clear-then-t.ensures ∙ ap zeros (kept)) }

pub returns : goal.returns
returns c = let parts_at : Stored = let a = c.args in
    parts_of (width_bytes a.w) (entry_bytes a.c.width) (length a.pixels.now) a.image.now a.tables.under.now a.tables.two.now a.tables.four.now in
    let spent : exhausted (width_bytes c.args.w) c.args.c.applies (parts_at) ≡ c.used_up.result = let a = c.args in
    exhausted-is c.all_blocks-t.ensures (length a.tables.two.now / 2) (length a.tables.four.now / 4) (length a.tables.under.now / c.entry_bytes-each.result)
    (length-entries _ _ _)
    (length-entries _ _ _)
    (length-entries _ _ _ ∙ ap (λ (e : ℕ). length a.tables.under.now / e) (sym c.entry_bytes-each.ensures))
    c.used_up.ensures in
    let x = spent ∙ c.if-not-used_up.false in
    let y = sym c.all_blocks-t.ensures.over-is ∙ c.if-t.false in record { value = rw (x, y); pixels_after = rw (x, y) (pixels-fit c.all_blocks-t.ensures c.if-t.false) }
