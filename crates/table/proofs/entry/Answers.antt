use Rattle.std.proofs.Common.{sym, ◌∙◌, arith}
use Rattle.layout.proofs.Laws.{width-pos, width-le}
use Rattle.table.proofs.Laws.{entries_at, entries-out, whole-within, length-one, little-one}
use Rattle.table.proofs.entry.Goals as goal

pub nonzero_div-t : goal.nonzero_div-t
nonzero_div-t c = omega (arith, c.width_bytes-each.ensures, width-pos c.args.w)

pub overflow_mul-at : goal.overflow_mul-at
overflow_mul-at c = omega (arith, whole-within c.width_bytes-each.result c.args.k c.args.t.now c.if-k-t.true)

pub read_le-requires : goal.read_le-requires
read_le-requires c =
    let h = whole-within c.width_bytes-each.result c.args.k c.args.t.now c.if-k-t.true in
    rw (length-one _ _ _ h) (omega (arith, c.width_bytes-each.ensures, width-le c.args.w))

pub returns-then-k-t : goal.returns-then-k-t
returns-then-k-t c =
    let h = whole-within c.width_bytes-each.result c.args.k c.args.t.now c.if-k-t.true in
    rw (← c.width_bytes-each.ensures) (c.read_le.ensures ∙ little-one _ _ _ h ∙ sym (entries_at _ _ _ _ c.if-k-t.true))

pub returns-else-k-t : goal.returns-else-k-t
returns-else-k-t c = rw (← c.width_bytes-each.ensures) (sym (entries-out _ _ _ _ c.if-k-t.false))
