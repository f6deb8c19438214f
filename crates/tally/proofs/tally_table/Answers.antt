use mathlib.Core.Path.{sym, ◌∙◌}
use native.Mathlib.Omega.{arith}
use Rattle.tally.proofs.Laws.{holds_of, bytes-are}
use Rattle.tally.proofs.tally_table.Goals as goal

pub overflow_cast-mark : goal.overflow_cast-mark
overflow_cast-mark c = let a = c.args in
    omega (arith, holds_of a.mark a.low a.high c.holds_bytes.result c.holds_bytes.ensures c.if-holds_bytes.true)

pub returns-then-holds_bytes : goal.returns-then-holds_bytes
returns-then-holds_bytes c = let a = c.args in
    let h = holds_of a.mark a.low a.high c.holds_bytes.result c.holds_bytes.ensures c.if-holds_bytes.true in
    rw c.in-One.is (c.tally_bytes.ensures ∙ sym (bytes-are a.mark a.low a.high a.t.now (λ i. omega (arith, c.type_inv.t i)) h.1 h.2))
