-- Bounds on numbers in bytes.
-- Assumes nothing.
use mathlib.Core.List.{List}
use Prim.Native.Nat.{ℕ, zero, suc, ◌+◌, ◌*◌, ◌^◌, ◌<◌}
use native.Mathlib.Nat.{pow-suc}
use native.Mathlib.Omega.{arith}
use lib.ListN.{get_or, drop}
use lib.Seq.{get_or-drop}
use Rattle.lists.specs.Bytes.{little}

-- w bytes, least significant first, are below 256 ^ w
pub little-below : (w : ℕ) (t : List ℕ) → ((i : ℕ) → get_or t i 0 < 256) → little w t < 256 ^ w
unfolding little
little-below zero t h = omega arith
little-below (suc w) t h = omega (arith, h 0, pow-suc 256 w, little-below w (drop 1 t) (λ i. rw get_or-drop (h (1 + i))))
