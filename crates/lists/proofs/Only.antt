-- Laws of the elements that pass a test, and the loop that counts them.
-- Assumes nothing.
use mathlib.Core.Path.{◌≡◌, refl, sym, ap, ◌∙◌}
use mathlib.Core.Bool.{Bool, true, false}
use mathlib.Core.List.{List, [], ◌∷◌, ◌++◌}
use Prim.Native.Nat.{ℕ, suc, ◌+◌, ◌-◌, ◌≤◌, ◌<◌}
use native.Mathlib.Numerals.{add-one}
use native.Mathlib.Omega.{arith}
use lib.ListN.{length, take, drop, get_or, length-append}
use lib.Seq.{take-suc, take_all, take-add}
use lib.Dec.{leb}
use borrow.Author.Tests.{leb-true, leb-false}
use Rattle.std.specs.Prelude.{if◌then◌else◌}
use Rattle.lists.specs.Only.{only}

pub only-append : (p : ℕ → Bool) (xs ys : List ℕ) → only p (xs ++ ys) ≡ only p xs ++ only p ys
unfolding only
only-append p [] ys = refl
only-append p (x ∷ xs) ys = go (p x) (only-append p xs ys)
  where
    go : (t : Bool) → only p (xs ++ ys) ≡ only p xs ++ only p ys
        → if◌then◌else◌ t (x ∷ only p (xs ++ ys)) (only p (xs ++ ys)) ≡ if◌then◌else◌ t (x ∷ only p xs) (only p xs) ++ only p ys
    go true h = ap (λ (l : List ℕ). x ∷ l) h
    go false h = h

pub only-le : (p : ℕ → Bool) (xs : List ℕ) → length (only p xs) ≤ length xs
unfolding only
only-le p [] = omega arith
only-le p (x ∷ xs) = go (p x) (only-le p xs)
  where
    go : (t : Bool) → length (only p xs) ≤ length xs → length (if◌then◌else◌ t (x ∷ only p xs) (only p xs)) ≤ suc (length xs)
    go true h = omega arith
    go false h = omega arith

pub only-more : (p : ℕ → Bool) (xs : List ℕ) (i : ℕ) → i < length xs → only p (take (i + 1) xs) ≡ only p (take i xs) ++ if◌then◌else◌ (p (get_or xs i 0)) (get_or xs i 0 ∷ []) []
unfolding only
only-more p xs i h = rw (add-one, take-suc xs i 0 h, only-append)

-- a higher limit passes no more
only-fewer : (a b : ℕ) (xs : List ℕ) → a ≤ b → length (only (leb b) xs) ≤ length (only (leb a) xs)
unfolding only
only-fewer a b [] h = omega arith
only-fewer a b (x ∷ xs) h = go (leb b x) (leb a x) refl refl (only-fewer a b xs h)
  where
    go : (t u : Bool) → leb b x ≡ t → leb a x ≡ u → length (only (leb b) xs) ≤ length (only (leb a) xs)
        → length (if◌then◌else◌ t (x ∷ only (leb b) xs) (only (leb b) xs)) ≤ length (if◌then◌else◌ u (x ∷ only (leb a) xs) (only (leb a) xs))
    go true true p q k = omega arith
    go true false p q k = let l = leb-true b x p in let m = leb-false a x q in absurd (omega arith)
    go false true p q k = omega arith
    go false false p q k = k

pub none_from : (a b k : ℕ) (xs : List ℕ) → a ≤ b → k ≡ length (only (leb a) xs) → k ≡ 0 → length (only (leb b) xs) ≡ 0
none_from a b k xs h e z = omega (arith, only-fewer a b xs h)

pub choice-length : (t : Bool) (x : ℕ) → length (if◌then◌else◌ t (x ∷ []) []) ≡ if◌then◌else◌ t 1 0
choice-length true x = refl
choice-length false x = refl

-- The loop that counts.
pub record Counting (p : ℕ → Bool) (s : List ℕ) (k i : ℕ) : Type 0 where
  pub upto : i ≤ length s
  pub low : k ≤ i
  pub is : k ≡ length (only p (take i s))

pub counting-start : (p : ℕ → Bool) (s : List ℕ) → Counting p s 0 0
unfolding only
counting-start p s = record { upto = omega arith; low = omega arith; is = refl }

one-le : (t : Bool) (z : ℕ) → z ≡ if◌then◌else◌ t 1 0 → z ≤ 1
one-le true z e = omega arith
one-le false z e = omega arith

pub one_at_most : (p : ℕ → Bool) (x z : ℕ) → z ≡ if◌then◌else◌ (p x) 1 0 → z ≤ 1
one_at_most p x z e = one-le (p x) z e

pub counting_more : {p : ℕ → Bool} {s : List ℕ} {k i : ℕ} (z : ℕ) → Counting p s k i → i < length s → z ≡ if◌then◌else◌ (p (get_or s i 0)) 1 0 → Counting p s (k + z) (i + 1)
counting_more {p} {s} {k} {i} z f h e = record {
  upto = omega arith;
  low = omega (arith, one-le (p (get_or s i 0)) z e, f.low);
  is = rw (only-more p s i h, length-append, choice-length (p (get_or s i 0)) (get_or s i 0), ← e, ← f.is);
}

pub counting-done : {p : ℕ → Bool} {s : List ℕ} {k i : ℕ} → Counting p s k i → length s ≤ i → k ≡ length (only p s)
counting-done {p} {s} {k} {i} f h = rw (take_all i s h) at f.is

pub take_split : (p e : ℕ) (l : List ℕ) → p ≤ e → take e l ≡ take p l ++ take (e - p) (drop p l)
take_split p e l h = let n : p + (e - p) ≡ e = omega arith in ap (λ (q : ℕ). take q l) (sym n) ∙ take-add p (e - p) l
