-- Laws of the definitions of numerals, one for each way through the code.
-- Assumes nothing.
use mathlib.Core.Path.{◌≡◌, refl, sym}
use mathlib.Core.Bool.{Bool, true, false, ◌&&◌}
use mathlib.Core.List.{List, [], ◌∷◌}
use Prim.Native.Nat.{ℕ, ◌+◌, ◌-◌, ◌*◌, ◌≤◌, ◌<◌}
use native.Mathlib.Omega.{arith}
use borrow.Author.Tests.{le-leb, lt-leb, eq-eqb, ne_eqb, leb-false}
use lib.Dec.{leb, eqb}
use lib.ListN.{length, get_or, take, drop}
use lib.Seq.{take_all}
use Rattle.std.specs.Prelude.{if◌then◌else◌, None, Some, ℕ}
use Rattle.lists.proofs.Tests.{and-false}
use Rattle.lists.specs.Digits.{all_digits, value_from}
use Rattle.numeral.specs.Numerals.{number_from, is_whole, fraction_is_zero}

pub value_grows : (k : ℕ) (bs : List ℕ) → k ≤ value_from k bs
value_grows k [] = omega arith
value_grows k (b ∷ bs) = omega (arith, value_grows (k * 10 + (b - 48)) bs)

-- the ways through `gather`
pub at-end : (k : ℕ) (s : List ℕ) → length s ≡ 0 → k ≤ 4294967295 → number_from k s ≡ Some k
unfolding number_from
at-end k [] e h = rw (le-leb k 4294967295 h)
at-end k (b ∷ bs) e h = absurd (omega arith)

pub low : (k : ℕ) (s : List ℕ) → 0 < length s → get_or s 0 0 < 48 → number_from k s ≡ None
unfolding number_from
low k [] e h = absurd (omega arith)
low k (b ∷ bs) e h = rw (lt-leb 48 b h)

pub high : (k : ℕ) (s : List ℕ) → 0 < length s → 57 < get_or s 0 0 → number_from k s ≡ None
unfolding number_from
high k [] e h = absurd (omega arith)
high k (b ∷ bs) e h = simp (lt-leb b 57 h, and-false)

pub large : (k : ℕ) (s : List ℕ) → 0 < length s → 4294967295 < k * 10 + (get_or s 0 0 - 48) → number_from k s ≡ None
unfolding number_from
large k [] e h = absurd (omega arith)
large k (b ∷ bs) e h =
    let g : 4294967295 < value_from (k * 10 + (b - 48)) bs = omega (arith, value_grows (k * 10 + (b - 48)) bs) in
    simp (lt-leb _ _ g, and-false)

pub step : (k : ℕ) (s : List ℕ) → 0 < length s → 48 ≤ get_or s 0 0 → get_or s 0 0 ≤ 57
    → number_from (k * 10 + (get_or s 0 0 - 48)) (take (length s - 1) (drop 1 s)) ≡ number_from k s
unfolding number_from
step k [] e l h = absurd (omega arith)
step k (b ∷ bs) e l h = simp (le-leb 48 b l, le-leb b 57 h, take_all (length (b ∷ bs) - 1) bs (omega arith))

-- a number that digits make, compared with n
module _ (n : ℕ) where
  value-is : (a t : Bool) (v k : ℕ) → Some v ≡ if◌then◌else◌ (a && t) (Some k) None → eqb v n ≡ (a && eqb k n)
  value-is true true v k p = let q : v ≡ k = cc in rw q
  value-is true false v k p = let z : ◌≡◌ {A = ℕ} 0 1 = cc in absurd (omega arith)
  value-is false t v k p = let z : ◌≡◌ {A = ℕ} 0 1 = cc in absurd (omega arith)

  none_is : n ≤ 4294967295 → (a t : Bool) (k : ℕ) → leb k 4294967295 ≡ t → None ≡ if◌then◌else◌ (a && t) (Some k) None → false ≡ (a && eqb k n)
  none_is h true true k e p = let z : ◌≡◌ {A = ℕ} 0 1 = cc in absurd (omega arith)
  none_is h true false k e p = sym (ne_eqb k n (λ q. let g = leb-false k 4294967295 e in omega arith))
  none_is h false t k e p = refl

  pub whole-value : (s : List ℕ) (v : ℕ) → 0 < length s → Some v ≡ number_from 0 s → eqb v n ≡ is_whole n s
  unfolding number_from is_whole
  whole-value s v h p = rw (le-leb 1 (length s) h) (value-is (all_digits s) _ v (value_from 0 s) p)

  pub whole-none : (s : List ℕ) → n ≤ 4294967295 → 0 < length s → None ≡ number_from 0 s → false ≡ is_whole n s
  unfolding number_from is_whole
  whole-none s f h p = rw (le-leb 1 (length s) h) (none_is f (all_digits s) _ (value_from 0 s) refl p)

  pub whole-empty : (s : List ℕ) → length s ≡ 0 → false ≡ is_whole n s
  unfolding is_whole
  whole-empty [] h = refl
  whole-empty (b ∷ bs) h = absurd (omega arith)

-- the ways through `fraction_is_zero`
pub fraction-none : (s : List ℕ) → length s ≡ 0 → true ≡ fraction_is_zero s
unfolding fraction_is_zero
fraction-none [] h = refl
fraction-none (b ∷ bs) h = absurd (omega arith)

pub fraction-other : (s : List ℕ) → 0 < length s → (get_or s 0 0 ≡ 46 → ⊥) → false ≡ fraction_is_zero s
unfolding fraction_is_zero
fraction-other [] h e = absurd (omega arith)
fraction-other (b ∷ bs) h e = rw (ne_eqb b 46 e)

pub fraction-some : (s : List ℕ) → 0 < length s → get_or s 0 0 ≡ 46 → is_whole 0 (take (length s - 1) (drop 1 s)) ≡ fraction_is_zero s
unfolding fraction_is_zero
fraction-some [] h e = absurd (omega arith)
fraction-some (b ∷ bs) h e = rw (eq-eqb b 46 e, take_all (length (b ∷ bs) - 1) bs (omega arith))
