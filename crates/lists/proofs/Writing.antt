-- A loop that writes a known list over the start of another, one place a turn.
-- Assumes nothing.
use mathlib.Core.Path.{◌≡◌, refl, ap, ◌∙◌}
use mathlib.Core.List.{List, [], ◌∷◌, ◌++◌, append-nil}
use Prim.Native.Nat.{ℕ, zero, suc, ◌+◌, ◌≤◌, ◌<◌}
use native.Mathlib.Nat.{le_of_suc-le-suc, not-suc-le-zero}
use native.Mathlib.Numerals.{add-one}
use native.Mathlib.Omega.{arith}
use lib.ListN.{length, take, drop, get_or, set, length-set, drop_of_length-le}
use lib.Seq.{take_all}

-- d is d₀ with the first i places of s written over its start
pub record Writing (s d₀ d : List ℕ) (i : ℕ) : Type 0 where
  pub upto : i ≤ length s
  pub room : length s ≤ length d₀
  pub same : length d ≡ length d₀
  pub is : d ≡ take i s ++ drop i d₀

pub writing_start : (s d : List ℕ) → length s ≤ length d → Writing s d d 0
writing_start s d h = record { upto = omega arith; room = h; same = refl; is = refl }

store : (s d : List ℕ) (i : ℕ) → i < length s → i < length d → set (take i s ++ drop i d) i (get_or s i 0) ≡ take (suc i) s ++ drop (suc i) d
store [] d i h k = absurd (not-suc-le-zero h)
store (x ∷ s) [] i h k = absurd (not-suc-le-zero k)
store (x ∷ s) (y ∷ d) zero h k = refl
store (x ∷ s) (y ∷ d) (suc i) h k = ap (λ (l : List ℕ). x ∷ l) (store s d i (le_of_suc-le-suc h) (le_of_suc-le-suc k))

pub writing_more : {s d₀ d : List ℕ} {i : ℕ} (v : ℕ) → Writing s d₀ d i → i < length s → v ≡ get_or s i 0 → Writing s d₀ (set d i v) (i + 1)
writing_more {s} {d₀} {d} {i} v f h e = record {
  upto = omega arith;
  room = f.room;
  same = simp length-set f.same;
  is = rw (f.is, e, add-one) (store s d₀ i h (omega (arith, f.room)));
}

pub writing-done : {s d₀ d : List ℕ} {i : ℕ} → Writing s d₀ d i → length s ≤ i → d ≡ s ++ drop (length s) d₀
writing-done {s} {d₀} {d} {i} f h = let e : i ≡ length s = omega (arith, f.upto) in rw (← e) (f.is ∙ rw (take_all i s h))

-- the same where s is as long as d₀
pub writing-whole : {s d₀ d : List ℕ} {i : ℕ} → Writing s d₀ d i → length d₀ ≤ i → d ≡ s
writing-whole {s} {d₀} {d} {i} f h = f.is ∙ rw (drop_of_length-le d₀ h, append-nil, take_all i s (omega (arith, f.room)))
