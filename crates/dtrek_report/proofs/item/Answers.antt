use borrow.Author.Tests.{lt-ltb, le-ltb}
use lib.Seq.{length-take-le}
use mathlib.Core.Path.{sym}
use native.Mathlib.Omega.{arith}
use Rattle.dtrek_report.specs.Item.{dtrek_item}
use Rattle.dtrek_report.proofs.item.Goals as goal

pub returns-in_default : goal.returns-in_default
unfolding dtrek_item
returns-in_default c = rw (← c.header_length.ensures, c.in_default.is) c.item_refused.ensures

pub returns-then-file-length : goal.returns-then-file-length
unfolding dtrek_item
returns-then-file-length c = rw (← c.header_length.ensures, c.in-Some.is, lt-ltb _ _ c.if-file-length.true) c.item_refused-then-file-length.ensures

pub slice_bounds-item_from-end : goal.slice_bounds-item_from-end
slice_bounds-item_from-end c = sym (length-take-le _ _ (omega arith))

pub returns : goal.returns
unfolding dtrek_item
returns c = rw (← c.header_length.ensures, c.in-Some.is, le-ltb _ _ c.if-file-length.false) c.item_from.ensures
