-- Underflow entries that one byte does not hold.
-- Assumes nothing.
use Rattle.std.proofs.Common.{◌≡◌, ℕ, ◌+◌, ◌<◌, ◌≤◌, Bool, true, false, ◌&&◌, ◌||◌, ltb, leb, List, [], ◌∷◌, ◌++◌, length, get_or, take, sym, refl, ap, ◌∙◌, arith, take_all, le-ltb, leb-true}
use mathlib.Core.Bool.{or-false}
use Rattle.std.specs.Prelude.{if◌then◌else◌}
use Rattle.lists.specs.Only.{only}
use Rattle.lists.proofs.Only.{only-more}
use Rattle.pixel_counts.specs.Counts.{is_underflow, any_above255}

pub any_append : (xs ys : List ℕ) → any_above255 (xs ++ ys) ≡ (any_above255 xs || any_above255 ys)
unfolding any_above255
any_append [] ys = refl
any_append (x ∷ xs) ys = go (ltb 255 x) (any_append xs ys)
  where
    go : (t : Bool) → any_above255 (xs ++ ys) ≡ (any_above255 xs || any_above255 ys) → (t || any_above255 (xs ++ ys)) ≡ ((t || any_above255 xs) || any_above255 ys)
    go true h = refl
    go false h = h

-- The loop that looks for an underflow entry above 255.
pub record Watching (base : ℕ) (s : List ℕ) (found : Bool) (i : ℕ) : Type 0 where
  pub upto : i ≤ length s
  pub is : found ≡ any_above255 (only (is_underflow base) (take i s))

pub watching-start : (base : ℕ) (s : List ℕ) → Watching base s false 0
unfolding only any_above255
watching-start base s = record { upto = omega arith; is = refl }

pub watching-more : {base : ℕ} {s : List ℕ} {found : Bool} {i : ℕ} (r : Bool) → Watching base s found i → i < length s → r ≡ (found || (leb (get_or s i 0) base && ltb 255 (get_or s i 0)))
    → Watching base s r (i + 1)
unfolding any_above255
watching-more {base} {s} {found} {i} r f h e = record {
  upto = omega arith;
  is = e ∙ rw (f.is, only-more (is_underflow base) s i h, any_append) (ap (λ (t : Bool). any_above255 (only (is_underflow base) (take i s)) || t) (go (leb (get_or s i 0) base)));
}
  where
    x : ℕ
    x = get_or s i 0

    go : (t : Bool) → (t && ltb 255 x) ≡ any_above255 (if◌then◌else◌ t (x ∷ []) [])
    go true = sym (or-false (ltb 255 x))
    go false = refl

pub watching-done : {base : ℕ} {s : List ℕ} {found : Bool} {i : ℕ} → Watching base s found i → length s ≤ i → found ≡ any_above255 (only (is_underflow base) s)
watching-done {base} {s} {found} {i} f h = rw (take_all i s h) at f.is

-- no entry is above a baseline that fits
pub none_above : (base : ℕ) (vs : List ℕ) → base ≤ 255 → any_above255 (only (is_underflow base) vs) ≡ false
unfolding only any_above255
none_above base [] h = refl
none_above base (v ∷ vs) h = go (leb v base) refl (none_above base vs h)
  where
    go : (t : Bool) → leb v base ≡ t → any_above255 (only (is_underflow base) vs) ≡ false → any_above255 (if◌then◌else◌ t (v ∷ only (is_underflow base) vs) (only (is_underflow base) vs)) ≡ false
    go true e q = let k = leb-true v base e in rw (le-ltb 255 v (omega arith)) q
    go false e q = q
