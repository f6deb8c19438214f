-- The tables that a form has.
-- Assumes nothing.
use mathlib.Core.Path.{◌≡◌, refl, sym, ◌∙◌}
use Prim.Native.Nat.{ℕ, ◌+◌, ◌<◌}
use native.Mathlib.Omega.{arith}
use Rattle.layout.specs.declared.Width.{Width}
use Rattle.layout.specs.declared.Width.TheVariants as W
use Rattle.layout.specs.declared.Underflow.{Underflow}
use Rattle.layout.specs.declared.Underflow.TheVariants as U
use Rattle.layout.specs.Form.{underflow_bytes}
use Rattle.layout.specs.Layout.{table_bytes}
use Rattle.layout.proofs.Laws.{table-small, table_none}
use Rattle.pixel_counts.specs.Counts.{under_count, two_count, four_count}

pub table_empty : (w : ℕ) → table_bytes w 0 ≡ 0
unfolding table_bytes
table_empty w = omega arith

-- kind none has no underflow table, whatever was counted
pub under_same : (u : Underflow) (n : ℕ) → table_bytes (underflow_bytes u) n ≡ table_bytes (underflow_bytes u) (under_count u n)
under_same U.None n = table_none n ∙ sym (table_none 0)
under_same (U.Subtracted e) n = refl

two-below : (w : Width) (n : ℕ) → n < 4294967296 → two_count w n < 4294967296
two-below W.One n h = h
two-below W.Two n h = omega arith
two-below W.Four n h = omega arith

four_below : (w : Width) (n : ℕ) → n < 4294967296 → four_count w n < 4294967296
four_below W.One n h = h
four_below W.Two n h = h
four_below W.Four n h = omega arith

pub overflow-small : (w : Width) (two four : ℕ) → two < 4294967296 → four < 4294967296 → table_bytes 2 (two_count w two) + table_bytes 4 (four_count w four) < 34359738400
overflow-small w two four h k =
    let p = table-small 2 (two_count w two) (omega arith) (two-below w two h) in
    let q = table-small 4 (four_count w four) (omega arith) (four_below w four k) in
    omega arith
