-- Marked places filled with entries, and the way back: laws of fill_by over the mark and the way of storing.
-- Assumes nothing.
use mathlib.Core.Path.{◌≡◌, refl, sym, ◌∙◌}
use mathlib.Core.Bool.{Bool, true, false, ◌&&◌}
use mathlib.Core.List.{List, [], ◌∷◌, map}
use Prim.Native.Nat.{ℕ, suc, ◌+◌, ◌≤◌}
use native.Mathlib.Omega.{arith}
use borrow.Author.Tests.{eq-eqb, ne_eqb, eqb-true, leb-true, le-leb}
use lib.Dec.{eqb, leb}
use lib.ListN.{length, drop, get_or}
use Rattle.std.specs.Prelude.{if◌then◌else◌}
use Rattle.lists.proofs.Tests.{and-true-left, and-true-right}
use Rattle.expand.specs.Steps.{fill_by, count}
use Rattle.lists.specs.Only.{only}
use Rattle.canonical.specs.Check.{all_within}

-- every number is such
abbrev pub All : (ℕ → Type 0) → List ℕ → Type 0
All P [] = Unit {0}
All P (x ∷ xs) = P x × All P xs

pub all_map : {P Q : ℕ → Type 0} → ((x : ℕ) → P x → Q x) → (xs : List ℕ) → All P xs → All Q xs
all_map f [] a = tt
all_map f (x ∷ xs) a = (f x a.0, all_map f xs a.1)

-- between low and high
abbrev pub In : ℕ → ℕ → ℕ → Type 0
In low high x = (low ≤ x) × (x ≤ high)

pub within_all : (low high : ℕ) (xs : List ℕ) → all_within low high xs ≡ true → All (In low high) xs
unfolding all_within
within_all low high [] h = tt
within_all low high (x ∷ xs) h =
    let l = and-true-left (leb low x && leb x high) (all_within low high xs) h in
    ((leb-true low x (and-true-left (leb low x) (leb x high) l), leb-true x high (and-true-right (leb low x) (leb x high) l)), within_all low high xs (and-true-right (leb low x && leb x high) (all_within low high xs) h))

pub all-within : (low high : ℕ) (xs : List ℕ) → All (In low high) xs → all_within low high xs ≡ true
unfolding all_within
all-within low high [] a = refl
all-within low high (x ∷ xs) a = rw (le-leb low x a.0.0, le-leb x high a.0.1, all-within low high xs a.1)

-- a number that no element is
pub count_none : (k : ℕ) (xs : List ℕ) → All (λ (x : ℕ). x ≡ k → ⊥) xs → count k xs ≡ 0
unfolding count
count_none k [] a = refl
count_none k (x ∷ xs) a = rw (ne_eqb x k a.0, count_none k xs a.1)

none_left : (n : ℕ) → suc n ≡ 0 → ⊥
none_left n e = omega arith

module _ (m : ℕ) (g : ℕ → ℕ) where
  -- a property of every entry, and of what g makes of every other number
  pub all-fill : (P : ℕ → Type 0) (xs es : List ℕ) → All (λ (x : ℕ). (x ≡ m → ⊥) → P (g x)) xs → All P es → count m xs ≡ length es → All P (fill_by m g xs es)
  unfolding fill_by count
  all-fill P [] es a b c = tt
  all-fill P (x ∷ xs) es a b c = go (eqb x m) refl es b c (all-fill P xs)
    where
      go : (t : Bool) → eqb x m ≡ t → (es : List ℕ) → All P es → if◌then◌else◌ t (suc (count m xs)) (count m xs) ≡ length es
          → ((es : List ℕ) → All (λ (x : ℕ). (x ≡ m → ⊥) → P (g x)) xs → All P es → count m xs ≡ length es → All P (fill_by m g xs es))
          → All P (if◌then◌else◌ t (get_or es 0 0 ∷ fill_by m g xs (drop 1 es)) (g x ∷ fill_by m g xs es))
      go true q [] b c ih = absurd (none_left (count m xs) c)
      go true q (e ∷ es) b c ih = (b.0, ih es a.1 b.1 (omega arith))
      go false q es b c ih = (a.0 (λ (h : x ≡ m). let z : ◌≡◌ {A = ℕ} 0 1 = (let y = eq-eqb x m h in cc) in omega arith), ih es a.1 b c)

module _ (m : ℕ) (g put : ℕ → ℕ) (p : ℕ → Bool) where
  -- an entry is stored as the mark
  abbrev pub Entry : ℕ → Type 0
  Entry e = (put e ≡ m) × (p e ≡ true)

  -- every other number is what is stored of what g makes of it
  abbrev pub Plain : ℕ → Type 0
  Plain x = (x ≡ m → ⊥) → (put (g x) ≡ x) × (p (g x) ≡ false)

  pub fill-inverse : (xs es : List ℕ) → All Plain xs → All Entry es → count m xs ≡ length es
      → (map put (fill_by m g xs es) ≡ xs) × (only p (fill_by m g xs es) ≡ es)
  unfolding fill_by count only
  fill-inverse [] [] a b c = (refl, refl)
  fill-inverse [] (e ∷ es) a b c = absurd (none_left (length es) (sym c))
  fill-inverse (x ∷ xs) es a b c = go (eqb x m) refl es b c (fill-inverse xs)
    where
      filled : Bool → List ℕ → List ℕ
      filled t es = if◌then◌else◌ t (get_or es 0 0 ∷ fill_by m g xs (drop 1 es)) (g x ∷ fill_by m g xs es)

      go : (t : Bool) → eqb x m ≡ t → (es : List ℕ) → All Entry es → if◌then◌else◌ t (suc (count m xs)) (count m xs) ≡ length es
          → ((es : List ℕ) → All Plain xs → All Entry es → count m xs ≡ length es → (map put (fill_by m g xs es) ≡ xs) × (only p (fill_by m g xs es) ≡ es))
          → (map put (filled t es) ≡ x ∷ xs) × (only p (filled t es) ≡ es)
      go true q [] b c ih = absurd (none_left (count m xs) c)
      go true q (e ∷ es) b c ih =
          let r = ih es a.1 b.1 (omega arith) in
          let h : put e ≡ x = b.0.0 ∙ sym (eqb-true x m q) in
          (rw (h, r.0), rw (b.0.1, r.1))
      go false q es b c ih =
          let r = ih es a.1 b c in
          let k = a.0 (λ (h : x ≡ m). let z : ◌≡◌ {A = ℕ} 0 1 = (let y = eq-eqb x m h in cc) in omega arith) in
          (rw (k.0, r.0), rw (k.1, r.1))

-- how often another number than the mark stands in what is filled
pub count-fill : (m k : ℕ) → (m ≡ k → ⊥) → (xs es : List ℕ) → count m xs ≡ length es → count k (fill_by m (λ (x : ℕ). x) xs es) ≡ count k xs + count k es
unfolding fill_by count
count-fill m k d [] [] c = refl
count-fill m k d [] (e ∷ es) c = absurd (none_left (length es) (sym c))
count-fill m k d (x ∷ xs) es c = go (eqb x m) refl es c (count-fill m k d xs)
  where
    plus : (t : Bool) (n r s : ℕ) → n ≡ r + s → if◌then◌else◌ t (suc n) n ≡ r + if◌then◌else◌ t (suc s) s
    plus true n r s h = omega arith
    plus false n r s h = h

    plus-left : (t : Bool) (n r s : ℕ) → n ≡ r + s → if◌then◌else◌ t (suc n) n ≡ if◌then◌else◌ t (suc r) r + s
    plus-left true n r s h = omega arith
    plus-left false n r s h = h

    go : (t : Bool) → eqb x m ≡ t → (es : List ℕ) → if◌then◌else◌ t (suc (count m xs)) (count m xs) ≡ length es
        → ((es : List ℕ) → count m xs ≡ length es → count k (fill_by m (λ (x : ℕ). x) xs es) ≡ count k xs + count k es)
        → count k (if◌then◌else◌ t (get_or es 0 0 ∷ fill_by m (λ (x : ℕ). x) xs (drop 1 es)) (x ∷ fill_by m (λ (x : ℕ). x) xs es)) ≡ if◌then◌else◌ (eqb x k) (suc (count k xs)) (count k xs) + count k es
    go true q [] c ih = absurd (none_left (count m xs) c)
    go true q (e ∷ es) c ih =
        let h : eqb x k ≡ false = ne_eqb x k (λ (y : x ≡ k). d (sym (eqb-true x m q) ∙ y)) in
        rw h (plus (eqb e k) _ _ _ (ih es (omega arith)))
    go false q es c ih = plus-left (eqb x k) _ _ _ (ih es c)
