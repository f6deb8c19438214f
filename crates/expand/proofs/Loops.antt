-- The loops' invariants, over plain lists.
-- Assumes nothing.
use Rattle.std.proofs.Common.{◌≡◌, ℕ, suc, ◌+◌, ◌<◌, ◌≤◌, Bool, true, false, ◌||◌, eqb, ltb, List, [], ◌∷◌, ◌++◌, map, length, get_or, take, drop, set, sym, refl, ◌∙◌, append-nil, add-zero, add-one, arith, length-set, drop_of_length-le, get_or-drop, take_all, drop-cons, take-suc, drop-drop, take-suc-set, drop-set-lt, lt-ltb, eq-eqb, ne_eqb, eqb-true}
use mathlib.Core.Bool.{or-false}
use mathlib.Core.List.{map-append}
use lib.Seq.{append_snoc}
use borrow.Author.Tests.{eqb-false}
use mir.Val.{bool_byte}
use Rattle.std.specs.List.{list_any}
use Rattle.std.specs.Prelude.{if◌then◌else◌}
use Rattle.expand.specs.Steps.{fill_by, count, sum_too_large, any_too_large}

module _ (m : ℕ) (g : ℕ → ℕ) (xs es : List ℕ) (i k : ℕ) (h : i < length xs) where
  fill-hit : get_or xs i 0 ≡ m → fill_by m g (drop i xs) (drop k es) ≡ get_or es k 0 ∷ fill_by m g (drop (suc i) xs) (drop (k + 1) es)
  unfolding fill_by
  fill-hit e = rw (drop-cons xs i 0 h, eq-eqb _ _ e, get_or-drop, drop-drop, add-zero)

  fill-miss : (get_or xs i 0 ≡ m → ⊥) → fill_by m g (drop i xs) (drop k es) ≡ g (get_or xs i 0) ∷ fill_by m g (drop (suc i) xs) (drop k es)
  unfolding fill_by
  fill-miss e = rw (drop-cons xs i 0 h, ne_eqb _ _ e)

  count-hit : get_or xs i 0 ≡ m → count m (drop i xs) ≡ suc (count m (drop (suc i) xs))
  unfolding count
  count-hit e = rw (drop-cons xs i 0 h, eq-eqb _ _ e)

  count-miss : (get_or xs i 0 ≡ m → ⊥) → count m (drop i xs) ≡ count m (drop (suc i) xs)
  unfolding count
  count-miss e = rw (drop-cons xs i 0 h, ne_eqb _ _ e)

  -- what is done, and what the step makes of the rest, stay the same
  done-hit : get_or xs i 0 ≡ m
      → take (i + 1) (set xs i (get_or es k 0)) ++ fill_by m g (drop (i + 1) (set xs i (get_or es k 0))) (drop (k + 1) es) ≡ take i xs ++ fill_by m g (drop i xs) (drop k es)
  done-hit e = rw (add-one, take-suc-set, drop-set-lt (suc i) xs i _ (omega arith), append_snoc, fill-hit e)

  done-miss : (get_or xs i 0 ≡ m → ⊥)
      → take (i + 1) (set xs i (g (get_or xs i 0))) ++ fill_by m g (drop (i + 1) (set xs i (g (get_or xs i 0)))) (drop k es) ≡ take i xs ++ fill_by m g (drop i xs) (drop k es)
  done-miss e = rw (add-one, take-suc-set, drop-set-lt (suc i) xs i _ (omega arith), append_snoc, fill-miss e)

-- A step in place: xs is xs₀ with the step made at the first i places, by the entries k₀ to k of es.
pub record Filling (m : ℕ) (g : ℕ → ℕ) (es : List ℕ) (k₀ : ℕ) (xs₀ xs : List ℕ) (k i : ℕ) : Type 0 where
  pub upto : i ≤ length xs
  pub same : length xs ≡ length xs₀
  pub taken : k ≤ k₀ + i
  pub marks : k + count m (drop i xs) ≡ k₀ + count m xs₀
  pub rest : take i xs ++ fill_by m g (drop i xs) (drop k es) ≡ fill_by m g xs₀ (drop k₀ es)

pub filling-start : (m : ℕ) (g : ℕ → ℕ) (es : List ℕ) (k : ℕ) (xs : List ℕ) → Filling m g es k xs xs k 0
filling-start m g es k xs = record { upto = omega arith; same = refl; taken = omega arith; marks = refl; rest = refl }

module _ {m : ℕ} {g : ℕ → ℕ} {es : List ℕ} {k₀ : ℕ} {xs₀ xs : List ℕ} {k i : ℕ} (f : Filling m g es k₀ xs₀ xs k i) where
  pub filling-hit : i < length xs → get_or xs i 0 ≡ m → Filling m g es k₀ xs₀ (set xs i (get_or es k 0)) (k + 1) (i + 1)
  filling-hit h e = record {
    upto = simp length-set (omega arith);
    same = simp length-set f.same;
    taken = omega (arith, f.taken);
    marks = rw (add-one i, drop-set-lt (suc i) xs i _ (omega arith)) (omega (arith, count-hit m g xs es i k h e, f.marks));
    rest = done-hit m g xs es i k h e ∙ f.rest;
  }

  pub filling-miss : i < length xs → (get_or xs i 0 ≡ m → ⊥) → Filling m g es k₀ xs₀ (set xs i (g (get_or xs i 0))) k (i + 1)
  filling-miss h e = record {
    upto = simp length-set (omega arith);
    same = simp length-set f.same;
    taken = omega (arith, f.taken);
    marks = rw (add-one i, drop-set-lt (suc i) xs i _ (omega arith)) (omega (arith, count-miss m g xs es i k h e, f.marks));
    rest = done-miss m g xs es i k h e ∙ f.rest;
  }

  pub filling-count : length xs ≤ i → k ≡ k₀ + count m xs₀
  unfolding count
  filling-count h = let e = rw (drop_of_length-le xs h) at f.marks in omega arith

  pub filling-done : length xs ≤ i → xs ≡ fill_by m g xs₀ (drop k₀ es)
  unfolding fill_by
  filling-done h = sym (append-nil xs) ∙ (rw (drop_of_length-le xs h, take_all i xs h) at f.rest)

-- a turn with no branch: the value and the cursor's step are chosen
pub filling-any : {m : ℕ} {g : ℕ → ℕ} {es : List ℕ} {k₀ : ℕ} {xs₀ xs : List ℕ} {k i v e z : ℕ} → Filling m g es k₀ xs₀ xs k i → i < length xs
    → e ≡ get_or es k 0 → v ≡ if◌then◌else◌ (eqb (get_or xs i 0) m) e (g (get_or xs i 0)) → z ≡ if◌then◌else◌ (eqb (get_or xs i 0) m) 1 0
    → Filling m g es k₀ xs₀ (set xs i v) (k + z) (i + 1)
filling-any {m} {g} {es} {k₀} {xs₀} {xs} {k} {i} {v} {e} {z} f h ee ev ez = go (eqb (get_or xs i 0) m) refl
  where
    go : (t : Bool) → eqb (get_or xs i 0) m ≡ t → Filling m g es k₀ xs₀ (set xs i v) (k + z) (i + 1)
    go true q = rw (ev, ez, q, ee) (filling-hit f h (eqb-true _ _ q))
    go false q = rw (ev, ez, q, add-zero k) (filling-miss f h (eqb-false _ _ q))

pub one-le : {z : ℕ} (t : Bool) → z ≡ if◌then◌else◌ t 1 0 → z ≤ 1
one-le true e = omega arith
one-le false e = omega arith

-- a test as a number
pub byte-one : (t : Bool) → bool_byte t ≡ if◌then◌else◌ t 1 0
byte-one true = refl
byte-one false = refl

-- some element is m where more than none are
pub any-counted : (m : ℕ) (xs : List ℕ) → list_any (λ y. eqb y m) xs ≡ ltb 0 (count m xs)
unfolding count
any-counted m [] = refl
any-counted m (x ∷ xs) = go (eqb x m) refl (any-counted m xs)
  where
    go : (t : Bool) → eqb x m ≡ t → list_any (λ y. eqb y m) xs ≡ ltb 0 (count m xs) → list_any (λ y. eqb y m) (x ∷ xs) ≡ ltb 0 (count m (x ∷ xs))
    go true q ih = rw q (sym (lt-ltb 0 (suc (count m xs)) (omega arith)))
    go false q ih = rw q ih

-- A search for sums that are too large: one so far, or one in what is left.
pub record Watching (b : ℕ) (xs : List ℕ) (over : Bool) (i : ℕ) : Type 0 where
  pub upto : i ≤ length xs
  pub large : (over || any_too_large b (drop i xs)) ≡ any_too_large b xs

pub watching-start : (b : ℕ) (xs : List ℕ) → Watching b xs false 0
watching-start b xs = record { upto = omega arith; large = refl }

or_assoc : (a b c : Bool) → (a || b || c) ≡ (a || (b || c))
or_assoc true b c = refl
or_assoc false b c = refl

pub watching-more : {b : ℕ} {xs : List ℕ} {o o' : Bool} {i : ℕ} → Watching b xs o i → i < length xs → o' ≡ (o || sum_too_large b (get_or xs i 0)) → Watching b xs o' (i + 1)
unfolding any_too_large
watching-more {b} {xs} {o} {o'} {i} f h e = record {
  upto = omega arith;
  large = rw (add-one, e) (or_assoc o (sum_too_large b (get_or xs i 0)) (any_too_large b (drop (suc i) xs))) ∙ (rw (drop-cons xs i 0 h) at f.large);
}

pub watching-done : {b : ℕ} {xs : List ℕ} {o : Bool} {i : ℕ} → Watching b xs o i → length xs ≤ i → o ≡ any_too_large b xs
unfolding any_too_large
watching-done {b} {xs} {o} {i} f h = sym (or-false o) ∙ (rw (drop_of_length-le xs h) at f.large)

-- g in place at the first i places
pub record Mapping (g : ℕ → ℕ) (xs₀ xs : List ℕ) (i : ℕ) : Type 0 where
  pub upto : i ≤ length xs
  pub same : length xs ≡ length xs₀
  pub rest : take i xs ++ map g (drop i xs) ≡ map g xs₀

pub mapping-start : (g : ℕ → ℕ) (xs : List ℕ) → Mapping g xs xs 0
mapping-start g xs = record { upto = omega arith; same = refl; rest = refl }

pub mapping-more : {g : ℕ → ℕ} {xs₀ xs : List ℕ} {i v : ℕ} → Mapping g xs₀ xs i → i < length xs → v ≡ g (get_or xs i 0) → Mapping g xs₀ (set xs i v) (i + 1)
mapping-more {g} {xs₀} {xs} {i} {v} f h ev =
    let c : map g (drop i xs) ≡ g (get_or xs i 0) ∷ map g (drop (suc i) xs) = rw (drop-cons xs i 0 h) in
    let r : take (i + 1) (set xs i v) ++ map g (drop (i + 1) (set xs i v)) ≡ take i xs ++ map g (drop i xs)
    = rw (add-one, take-suc-set, drop-set-lt (suc i) xs i v (omega arith), append_snoc, c, ev) in
    record { upto = simp length-set (omega arith); same = simp length-set f.same; rest = r ∙ f.rest }

pub mapping-done : {g : ℕ → ℕ} {xs₀ xs : List ℕ} {i : ℕ} → Mapping g xs₀ xs i → length xs ≤ i → xs ≡ map g xs₀
mapping-done {g} {xs₀} {xs} {i} f h = sym (append-nil xs) ∙ (rw (drop_of_length-le xs h, take_all i xs h) at f.rest)

-- g of another list's numbers, at the first i places
pub record Copying (g : ℕ → ℕ) (src xs₀ xs : List ℕ) (i : ℕ) : Type 0 where
  pub upto : i ≤ length xs
  pub same : length xs ≡ length xs₀
  pub is : take i xs ≡ map g (take i src)

pub copying-start : (g : ℕ → ℕ) (src xs : List ℕ) → Copying g src xs xs 0
copying-start g src xs = record { upto = omega arith; same = refl; is = refl }

pub copying-more : {g : ℕ → ℕ} {src xs₀ xs : List ℕ} {i v : ℕ} → Copying g src xs₀ xs i → i < length xs → i < length src → v ≡ g (get_or src i 0)
    → Copying g src xs₀ (set xs i v) (i + 1)
copying-more {g} {src} {xs₀} {xs} {i} {v} f h k ev = record {
  upto = simp length-set (omega arith);
  same = simp length-set f.same;
  is = rw (add-one, take-suc-set, take-suc src i 0 k, map-append, f.is, ev);
}

pub copying-done : {g : ℕ → ℕ} {src xs₀ xs : List ℕ} {i : ℕ} → Copying g src xs₀ xs i → length xs ≤ i → length src ≤ i → xs ≡ map g src
copying-done {g} {src} {xs₀} {xs} {i} f h k = rw (take_all i xs h, take_all i src k) at f.is
