use Rattle.dtrek_header.specs.Contents.{required, supported, header_of}
use Rattle.dtrek_header.specs.DtrekHeader.{contents_in}
use Rattle.dtrek_header.proofs.read_items.Goals as goal

pub returns-then-not-has_required : goal.returns-then-not-has_required
unfolding contents_in required
returns-then-not-has_required c = rw (← c.requires.size1.value, ← c.number_at-columns.ensures, ← c.requires.size2.value, ← c.number_at-rows.ensures, ← c.requires.order.value, ← c.value-order.ensures, ← c.has_required.ensures, c.if-not-has_required.true)

pub returns-then-not-is_supported : goal.returns-then-not-is_supported
unfolding contents_in required supported
returns-then-not-is_supported c = rw (← c.requires.size1.value, ← c.number_at-columns.ensures, ← c.requires.size2.value, ← c.number_at-rows.ensures, ← c.requires.order.value, ← c.value-order.ensures, ← c.requires.kind.value, ← c.value-kind.ensures, ← c.has_required.ensures, c.if-not-has_required.false, ← c.is_supported.ensures, c.if-not-is_supported.true)

pub returns-else-not-is_supported : goal.returns-else-not-is_supported
unfolding contents_in required supported header_of
returns-else-not-is_supported c = rw (← c.requires.size1.value, ← c.number_at-columns.ensures, ← c.requires.size2.value, ← c.number_at-rows.ensures, ← c.requires.order.value, ← c.value-order.ensures, ← c.requires.kind.value, ← c.value-kind.ensures, ← c.has_required.ensures, c.if-not-has_required.false, ← c.is_supported.ensures, c.if-not-is_supported.false, c.header_from.ensures)
