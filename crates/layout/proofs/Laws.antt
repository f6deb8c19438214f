-- Bounds on widths and sizes.
-- Assumes nothing.
use mathlib.Core.Path.{◌≡◌, refl}
use Prim.Native.Nat.{ℕ, ◌*◌, ◌≤◌, ◌<◌}
use native.Mathlib.Nat.{mul-le-mul_left}
use native.Mathlib.Omega.{arith}
use Rattle.layout.specs.declared.Width.{Width}
use Rattle.layout.specs.declared.Width.TheVariants as W
use Rattle.layout.specs.declared.EntryWidth.{EntryWidth}
use Rattle.layout.specs.declared.EntryWidth.TheVariants as E
use Rattle.layout.specs.declared.Underflow.{Underflow}
use Rattle.layout.specs.declared.Underflow.TheVariants as U
use Rattle.layout.specs.Form.{width_bytes, entry_bytes, entry_width, underflow_bytes}
use Rattle.layout.specs.Layout.{table_bytes}

pub width-pos : (w : Width) → 1 ≤ width_bytes w
width-pos W.One = omega arith
width-pos W.Two = omega arith
width-pos W.Four = omega arith

pub width-le : (w : Width) → width_bytes w ≤ 4
width-le W.One = omega arith
width-le W.Two = omega arith
width-le W.Four = omega arith

-- n entries take at most four bytes each
pub bytes_le : (n : ℕ) (w : Width) → n * width_bytes w ≤ n * 4
bytes_le n w = mul-le-mul_left n (width-le w)

pub entry-le : (e : EntryWidth) → entry_bytes e ≤ 2
entry-le E.One = omega arith
entry-le E.Two = omega arith

pub same_width : (e : EntryWidth) → width_bytes (entry_width e) ≡ entry_bytes e
same_width E.One = refl
same_width E.Two = refl

-- the bytes of a table with as many entries as a header can state
pub table-small : (w n : ℕ) → w ≤ 4 → n < 4294967296 → table_bytes w n < 17179869200
unfolding table_bytes
table-small w n h k = let p : n * w ≤ n * 4 = mul-le-mul_left n h in omega arith

pub table_none : (n : ℕ) → table_bytes 0 n ≡ 0
unfolding table_bytes
table_none n = omega arith

pub underflow-le : (u : Underflow) → underflow_bytes u ≤ 4
underflow-le U.None = omega arith
underflow-le (U.Subtracted e) = let h = entry-le e in omega arith

pub underflow-small : (u : Underflow) (n : ℕ) → n < 4294967296 → table_bytes (underflow_bytes u) n < 17179869200
underflow-small u n h = table-small (underflow_bytes u) n (underflow-le u) h
