-- Parts and places of lists.
-- Assumes nothing.
use mathlib.Core.Path.{◌≡◌, refl, sym}
use mathlib.Core.List.{List, [], ◌∷◌, map}
use Prim.Native.Nat.{ℕ, zero, suc, ◌-◌, ◌<◌}
use native.Mathlib.Nat.{le_of_suc-le-suc, not-suc-le-zero}
use native.Mathlib.Omega.{arith}
use lib.ListN.{length, take, drop, get_or}
use lib.Seq.{take-nil}

pub drop-take : (w m : ℕ) (t : List ℕ) → drop w (take m t) ≡ take (m - w) (drop w t)
drop-take zero m t = let e : m - 0 ≡ m = omega arith in rw e
drop-take (suc w) zero t = let e : 0 - suc w ≡ 0 = omega arith in rw e
drop-take (suc w) (suc m) [] = sym (take-nil (suc m - suc w))
drop-take (suc w) (suc m) (b ∷ t) = let e : suc m - suc w ≡ m - w = omega arith in rw e (drop-take w m t)

pub map_at : (f : ℕ → ℕ) (xs : List ℕ) (i : ℕ) → i < length xs → get_or (map f xs) i 0 ≡ f (get_or xs i 0)
map_at f [] i h = absurd (not-suc-le-zero h)
map_at f (x ∷ xs) zero h = refl
map_at f (x ∷ xs) (suc i) h = map_at f xs i (le_of_suc-le-suc h)
