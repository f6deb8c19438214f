use Rattle.std.proofs.Common.{sym, ◌∙◌, arith}
use Rattle.byte_order.proofs.Laws.{number-whole, number-none}
use Rattle.byte_order.proofs.number_at.Goals as goal

pub returns-then-t-k : goal.returns-then-t-k
returns-then-t-k c = sym (number-none _ 4 _ _ (omega arith) c.if-t-k.true)

pub returns-in-Little : goal.returns-in-Little
returns-in-Little c = rw c.in-Little.is (c.read.ensures ∙ sym (number-whole _ 4 _ _ c.if-t-k.false))

pub returns-in-Big : goal.returns-in-Big
returns-in-Big c = rw c.in-Big.is (c.read-in-Big.ensures ∙ sym (number-whole _ 4 _ _ c.if-t-k.false))
