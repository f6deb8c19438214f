-- Laws of numbers of w bytes each, however one is read.
-- Assumes nothing.
use mathlib.Core.Path.{◌≡◌, refl, ap}
use mathlib.Core.List.{List}
use Prim.Native.Nat.{ℕ, zero, suc, ◌+◌, ◌-◌, ◌*◌, ◌≤◌, ◌<◌}
use native.Mathlib.Nat.{le_of_suc-le-suc, not-suc-le-zero, suc-mul, zero-mul}
use native.Mathlib.Omega.{arith}
use lib.ListN.{length, take, drop, get_or}
use lib.Seq.{drop-drop}
use Rattle.lists.specs.Bytes.{chunked}
use Rattle.lists.proofs.Parts.{drop-take}

module _ (read : List ℕ → ℕ) (w : ℕ) where
  pub chunked-length : (n : ℕ) (t : List ℕ) → length (chunked read w n t) ≡ n
  unfolding chunked
  chunked-length zero t = refl
  chunked-length (suc n) t = ap suc (chunked-length n (drop w t))

  pub chunked-at : (n : ℕ) (t : List ℕ) (k : ℕ) → k < n → get_or (chunked read w n t) k 0 ≡ read (drop (k * w) t)
  unfolding chunked
  chunked-at zero t k h = absurd (not-suc-le-zero h)
  chunked-at (suc n) t zero h = rw zero-mul
  chunked-at (suc n) t (suc k) h =
      let e : suc k * w ≡ w + k * w = omega (arith, suc-mul k w) in
      rw (e, ← drop-drop (k * w) w t) (chunked-at n (drop w t) k (le_of_suc-le-suc h))

  -- the numbers from p on, the first s, and s from p on
  pub chunked-drop : (p n : ℕ) (t : List ℕ) → drop p (chunked read w n t) ≡ chunked read w (n - p) (drop (p * w) t)
  unfolding chunked
  chunked-drop zero n t = let f : n - 0 ≡ n = omega arith in rw (zero-mul, f)
  chunked-drop (suc p) zero t = let f : 0 - suc p ≡ 0 = omega arith in rw f
  chunked-drop (suc p) (suc n) t =
      let e : suc p * w ≡ w + p * w = omega (arith, suc-mul p w) in
      let f : suc n - suc p ≡ n - p = omega arith in
      rw (e, f, ← drop-drop (p * w) w t) (chunked-drop p n (drop w t))

  pub chunked-take : (s n : ℕ) (t : List ℕ) → s ≤ n → take s (chunked read w n t) ≡ chunked read w s t
  unfolding chunked
  chunked-take zero n t h = refl
  chunked-take (suc s) zero t h = absurd (not-suc-le-zero h)
  chunked-take (suc s) (suc n) t h = rw (chunked-take s n (drop w t) (le_of_suc-le-suc h))

  pub chunked-part : (n p s : ℕ) (t : List ℕ) → p + s ≤ n → take s (drop p (chunked read w n t)) ≡ chunked read w s (drop (p * w) t)
  chunked-part n p s t h = rw (chunked-drop p n t, chunked-take s (n - p) (drop (p * w) t) (omega arith))

  -- bytes past the numbers do not count, where those past one number do not
  pub chunked-front : ((m : ℕ) (t : List ℕ) → w ≤ m → read (take m t) ≡ read t) → (n m : ℕ) (t : List ℕ) → n * w ≤ m → chunked read w n (take m t) ≡ chunked read w n t
  unfolding chunked
  chunked-front local zero m t h = refl
  chunked-front local (suc n) m t h =
      let s : suc n * w ≡ n * w + w = suc-mul n w in
      rw (local m t (omega arith), drop-take w m t, chunked-front local n (m - w) (drop w t) (omega arith))
