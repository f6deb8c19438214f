-- Numbers that pass the check are what the writer stores of the pixels that the steps make of them.
-- Assumes nothing.
use mathlib.Core.Path.{◌≡◌, refl, sym, ap, ◌∙◌}
use mathlib.Core.Bool.{Bool, true, false, ◌&&◌}
use mathlib.Core.List.{List, [], ◌∷◌, map}
use Prim.Native.Nat.{ℕ, zero, suc, ◌+◌, ◌-◌, ◌^◌, ◌≤◌, ◌<◌}
use native.Mathlib.Omega.{arith}
use borrow.Author.Tests.{eqb-true, leb-true, leb-false, le-leb, lt-leb}
use lib.Dec.{eqb, leb}
use lib.ListN.{length}
use Rattle.std.specs.Prelude.{if◌then◌else◌}
use Rattle.lists.proofs.Tests.{and-true-left, and-true-right}
use Rattle.layout.specs.declared.Width.{Width}
use Rattle.layout.specs.declared.Width.TheVariants as W
use Rattle.layout.specs.declared.Underflow.{Underflow}
use Rattle.layout.specs.declared.Underflow.TheVariants as U
use Rattle.layout.specs.declared.Form.{Form}
use Rattle.layout.specs.Form.{width_bytes}
use Rattle.expand.specs.Steps.{Stored, fill_by, count, after_b, after_c}
use Rattle.header_text.specs.declared.Counts.{Counts}
use Rattle.writer.specs.Storing.{lowered, under_entries, at_most65535, stored_value, two_entries, four_entries, stored_for}
use Rattle.pixel_counts.specs.Counts.{is_underflow, under_count, two_count}
use Rattle.lists.specs.Only.{only}
use Rattle.writer.specs.Frame.{stored_counts}
use Rattle.readback.proofs.Storing.{Below, map-id, subtracts}
use Rattle.canonical.specs.Check.{all_within, highest, mark_of, four_marks, same_counts, entries_asked, numbers_within, values_canonical}
use Rattle.canonical.proofs.Inverse.{Entry, Plain, All, all_map, In, within_all, count_none, all-fill, fill-inverse, count-fill}

-- the parts' numbers lie where the writer's do
pub record Numbers (base : ℕ) (s : Stored) : Type 0 where
  pub image : All (In 0 (highest base)) s.image
  pub under : All (In 0 base) s.under
  pub two : All (In 255 65535) s.two
  pub four : All (In 65535 (highest base)) s.four

four-true : (a b c d : Bool) → (a && b && c && d) ≡ true → (a ≡ true) × (b ≡ true) × (c ≡ true) × (d ≡ true)
four-true true true true true h = (refl, refl, refl, refl)
four-true true true true false h = let z : ◌≡◌ {A = ℕ} 0 1 = cc in absurd (omega arith)
four-true true true false d h = let z : ◌≡◌ {A = ℕ} 0 1 = cc in absurd (omega arith)
four-true true false c d h = let z : ◌≡◌ {A = ℕ} 0 1 = cc in absurd (omega arith)
four-true false b c d h = let z : ◌≡◌ {A = ℕ} 0 1 = cc in absurd (omega arith)

pub numbers_of : (base : ℕ) (s : Stored) → numbers_within base s ≡ true → Numbers base s
unfolding numbers_within
numbers_of base s h =
    let r = four-true (all_within 0 (highest base) s.image) (all_within 0 base s.under) (all_within 255 65535 s.two) (all_within 65535 (highest base) s.four) h in
    record {
      image = within_all 0 (highest base) s.image r.0;
      under = within_all 0 base s.under r.1;
      two = within_all 255 65535 s.two r.2;
      four = within_all 65535 (highest base) s.four r.3;
    }

pub counts_of : (c d : Counts) → same_counts c d ≡ true → (c.under ≡ d.under) × (c.two ≡ d.two) × (c.four ≡ d.four)
counts_of c d h =
    let l = and-true-left (eqb c.under d.under && eqb c.two d.two) (eqb c.four d.four) h in (
      eqb-true _ _ (and-true-left (eqb c.under d.under) (eqb c.two d.two) l),
      eqb-true _ _ (and-true-right (eqb c.under d.under) (eqb c.two d.two) l),
      eqb-true _ _ (and-true-right (eqb c.under d.under && eqb c.two d.two) (eqb c.four d.four) h),
    )

pub all-below : (n : ℕ) (xs : List ℕ) → Below n xs → All (λ (x : ℕ). x < n) xs
all-below n [] b = tt
all-below n (x ∷ xs) b = (b.0, all-below n xs b.1)

pub below_in : (high : ℕ) (xs : List ℕ) → All (In 0 high) xs → Below (suc high) xs
below_in high [] a = tt
below_in high (x ∷ xs) a = (omega (arith, a.0.1), below_in high xs a.1)

none-there : (xs : List ℕ) → 0 ≡ length xs → xs ≡ []
none-there [] e = refl
none-there (x ∷ xs) e = absurd (omega arith)

-- what is known of the numbers after step b
pub record Lowered (w : Width) (base : ℕ) (s : Stored) : Type 0 where
  pub image : map (stored_value w) (after_b (width_bytes w) s) ≡ s.image
  pub two : two_entries w (after_b (width_bytes w) s) ≡ s.two
  pub four : four_entries w (after_b (width_bytes w) s) ≡ s.four
  pub zeros : count 0 (after_b (width_bytes w) s) ≡ count 0 s.image
  pub small : All (In 0 (highest base)) (after_b (width_bytes w) s)

-- a number capped at 255 may be capped at 65535 before
cap-twice : (xs : List ℕ) → map (stored_value W.One) (map at_most65535 xs) ≡ map (stored_value W.One) xs
cap-twice [] = refl
cap-twice (x ∷ xs) = go (leb 65535 x) refl (cap-twice xs)
  where
    go : (t : Bool) → leb 65535 x ≡ t → map (stored_value W.One) (map at_most65535 xs) ≡ map (stored_value W.One) xs
        → (stored_value W.One (if◌then◌else◌ t 65535 x) ∷ map (stored_value W.One) (map at_most65535 xs)) ≡ stored_value W.One x ∷ map (stored_value W.One) xs
    go true e ih = let h = leb-true 65535 x e in rw (le-leb 255 x (omega arith), ih)
    go false e ih = rw ih

-- the entries of the numbers from 255 on, capped before or after they are picked
only-capped : (xs : List ℕ) → only (leb 255) (map at_most65535 xs) ≡ map at_most65535 (only (leb 255) xs)
unfolding only
only-capped [] = refl
only-capped (x ∷ xs) = go (leb 65535 x) refl (leb 255 x) refl (only-capped xs)
  where
    go : (t : Bool) → leb 65535 x ≡ t → (r : Bool) → leb 255 x ≡ r → only (leb 255) (map at_most65535 xs) ≡ map at_most65535 (only (leb 255) xs)
        → if◌then◌else◌ (leb 255 (if◌then◌else◌ t 65535 x)) (if◌then◌else◌ t 65535 x ∷ only (leb 255) (map at_most65535 xs)) (only (leb 255) (map at_most65535 xs))
        ≡ map at_most65535 (if◌then◌else◌ r (x ∷ only (leb 255) xs) (only (leb 255) xs))
    go true e true f ih = rw (e, ih)
    go true e false f ih = absurd (let h = leb-true 65535 x e in let k = leb-false 255 x f in omega arith)
    go false e true f ih = rw (e, f, ih)
    go false e false f ih = rw (f, ih)

module _ (base : ℕ) (low : base ≤ 65535) (s : Stored) (n : Numbers base s) where
  -- step b, from numbers of at most 65535
  module _ (ys : List ℕ) (most : All (In 0 65535) ys) (marked : count 65535 ys ≡ length s.four) where
    pub b-inverse : (map at_most65535 (fill_by 65535 (λ (x : ℕ). x) ys s.four) ≡ ys) × (only (leb 65535) (fill_by 65535 (λ (x : ℕ). x) ys s.four) ≡ s.four)
    b-inverse =
        fill-inverse 65535 (λ (x : ℕ). x) at_most65535 (leb 65535) ys s.four
        (all_map {Q = Plain 65535 (λ (x : ℕ). x) at_most65535 (leb 65535)} (λ (x : ℕ) (h : In 0 65535 x) (d : x ≡ 65535 → ⊥). let k : leb 65535 x ≡ false = lt-leb 65535 x (below x h.1 d) in (rw k, k)) ys most)
        (all_map {Q = Entry 65535 (λ (x : ℕ). x) at_most65535 (leb 65535)} (λ (x : ℕ) (h : In 65535 (highest base) x). let k : leb 65535 x ≡ true = le-leb 65535 x h.0 in (rw k, k)) s.four n.four) marked
      where
        below : (x : ℕ) → x ≤ 65535 → (x ≡ 65535 → ⊥) → x < 65535
        below x h d = go (leb 65535 x) refl
          where
            go : (t : Bool) → leb 65535 x ≡ t → x < 65535
            go true e = absurd (d (let k = leb-true 65535 x e in omega arith))
            go false e = leb-false 65535 x e

    pub b-zeros : count 0 (fill_by 65535 (λ (x : ℕ). x) ys s.four) ≡ count 0 ys
    b-zeros =
        let z = count_none 0 s.four (all_map {Q = λ (x : ℕ). x ≡ 0 → ⊥} (λ (x : ℕ) (h : In 65535 (highest base) x) (e : x ≡ 0). omega (arith, h.0)) s.four n.four) in
        count-fill 65535 0 (λ e. omega arith) ys s.four marked ∙ (omega arith)

    pub b-small : All (In 0 (highest base)) (fill_by 65535 (λ (x : ℕ). x) ys s.four)
    b-small =
        all-fill 65535 (λ (x : ℕ). x) (In 0 (highest base)) ys s.four
        (all_map {Q = λ (x : ℕ). (x ≡ 65535 → ⊥) → In 0 (highest base) x} (λ (x : ℕ) (h : In 0 65535 x) (d : x ≡ 65535 → ⊥). (omega arith, omega (arith, h.1))) ys most)
        (all_map {Q = In 0 (highest base)} (λ (x : ℕ) (h : In 65535 (highest base) x). (omega arith, h.1)) s.four n.four) marked

  one-lowered : Below 256 s.image → count 255 s.image ≡ length s.two → count 65535 s.two ≡ length s.four → Lowered W.One base s
  one-lowered fits c2 c4 =
      let small : All (λ (x : ℕ). x < 256) s.image = all-below 256 s.image fits in
      let a = fill-inverse 255 (λ (x : ℕ). x) (stored_value W.One) (leb 255) s.image s.two
      (all_map {Q = Plain 255 (λ (x : ℕ). x) (stored_value W.One) (leb 255)} (λ (x : ℕ) (h : x < 256) (d : x ≡ 255 → ⊥). let k : leb 255 x ≡ false = lt-leb 255 x (below x h d) in (rw k, k)) s.image small)
      (all_map {Q = Entry 255 (λ (x : ℕ). x) (stored_value W.One) (leb 255)} (λ (x : ℕ) (h : In 255 65535 x). let k : leb 255 x ≡ true = le-leb 255 x h.0 in (rw k, k)) s.two n.two) c2 in
      let ys : List ℕ = fill_by 255 (λ (x : ℕ). x) s.image s.two in
      let most : All (In 0 65535) ys = all-fill 255 (λ (x : ℕ). x) (In 0 65535) s.image s.two
      (all_map {Q = λ (x : ℕ). (x ≡ 255 → ⊥) → In 0 65535 x} (λ (x : ℕ) (h : x < 256) (d : x ≡ 255 → ⊥). (omega arith, omega arith)) s.image small)
      (all_map {Q = In 0 65535} (λ (x : ℕ) (h : In 255 65535 x). (omega arith, h.1)) s.two n.two) c2 in
      let none = count_none 65535 s.image (all_map {Q = λ (x : ℕ). x ≡ 65535 → ⊥} (λ (x : ℕ) (h : x < 256) (e : x ≡ 65535). omega arith) s.image small) in
      let marked : count 65535 ys ≡ length s.four = count-fill 255 65535 (λ e. omega arith) s.image s.two c2 ∙ omega arith in
      let b = b-inverse ys most marked in
      let zero-two = count_none 0 s.two (all_map {Q = λ (x : ℕ). x ≡ 0 → ⊥} (λ (x : ℕ) (h : In 255 65535 x) (e : x ≡ 0). omega (arith, h.0)) s.two n.two) in
      let zero-ys : count 0 ys ≡ count 0 s.image = count-fill 255 0 (λ e. omega arith) s.image s.two c2 ∙ omega arith in
      let xs : List ℕ = fill_by 65535 (λ (x : ℕ). x) ys s.four in
      record {
        image = sym (cap-twice xs) ∙ ap (map (stored_value W.One)) b.0 ∙ a.0;
        two = sym (only-capped xs) ∙ ap (only (leb 255)) b.0 ∙ a.1;
        four = b.1;
        zeros = b-zeros ys most marked ∙ zero-ys;
        small = b-small ys most marked;
      }
    where
      below : (x : ℕ) → x < 256 → (x ≡ 255 → ⊥) → x < 255
      below x h d = go (leb 255 x) refl
        where
          go : (t : Bool) → leb 255 x ≡ t → x < 255
          go true e = absurd (d (let k = leb-true 255 x e in omega arith))
          go false e = leb-false 255 x e

  two-lowered : Below 65536 s.image → 0 ≡ length s.two → count 65535 s.image ≡ length s.four → Lowered W.Two base s
  two-lowered fits c2 c4 =
      let most : All (In 0 65535) s.image = all_map {Q = In 0 65535} (λ (x : ℕ) (h : x < 65536). (omega arith, omega arith)) s.image (all-below 65536 s.image fits) in
      let b = b-inverse s.image most c4 in
      record { image = b.0; two = sym (none-there s.two c2); four = b.1; zeros = b-zeros s.image most c4; small = b-small s.image most c4 }

  four-lowered : 0 ≡ length s.two → 0 ≡ length s.four → Lowered W.Four base s
  four-lowered c2 c4 =
      record { image = map-id s.image; two = sym (none-there s.two c2); four = sym (none-there s.four c4); zeros = refl; small = n.image }

  pub step-b : (w : Width) → Below (256 ^ width_bytes w) s.image → two_count w (count (mark_of w) s.image) ≡ length s.two
      → four_marks w (count (mark_of w) s.image) (count 65535 s.two) ≡ length s.four → Lowered w base s
  step-b W.One fits c2 c4 = one-lowered fits c2 c4
  step-b W.Two fits c2 c4 = two-lowered fits c2 c4
  step-b W.Four fits c2 c4 = four-lowered c2 c4

  -- step c
  pub c-inverse : (xs : List ℕ) → All (In 0 (highest base)) xs → count 0 xs ≡ length s.under
      → (map (λ (v : ℕ). if◌then◌else◌ (leb v base) 0 (v - base)) (fill_by 0 (λ (x : ℕ). x + base) xs s.under) ≡ xs)
      × (only (is_underflow base) (fill_by 0 (λ (x : ℕ). x + base) xs s.under) ≡ s.under)
  c-inverse xs small c =
      fill-inverse 0 (λ (x : ℕ). x + base) (λ (v : ℕ). if◌then◌else◌ (leb v base) 0 (v - base)) (is_underflow base) xs s.under
      (all_map {Q = Plain 0 (λ (x : ℕ). x + base) (λ (v : ℕ). if◌then◌else◌ (leb v base) 0 (v - base)) (is_underflow base)} (λ (x : ℕ) (h : In 0 (highest base) x) (d : x ≡ 0 → ⊥). let k : leb (x + base) base ≡ false = lt-leb (x + base) base (above x d) in let e : x + base - base ≡ x = omega arith in (rw (k, e), k)) xs small)
      (all_map {Q = Entry 0 (λ (x : ℕ). x + base) (λ (v : ℕ). if◌then◌else◌ (leb v base) 0 (v - base)) (is_underflow base)} (λ (x : ℕ) (h : In 0 base x). let k : leb x base ≡ true = le-leb x base h.1 in (rw k, k)) s.under n.under) c
    where
      above : (x : ℕ) → (x ≡ 0 → ⊥) → base < x + base
      above zero d = absurd (d refl)
      above (suc x) d = omega arith

  pub c-small : (xs : List ℕ) → All (In 0 (highest base)) xs → count 0 xs ≡ length s.under → All (In 0 4294967295) (fill_by 0 (λ (x : ℕ). x + base) xs s.under)
  c-small xs small c =
      all-fill 0 (λ (x : ℕ). x + base) (In 0 4294967295) xs s.under
      (all_map {Q = λ (x : ℕ). (x ≡ 0 → ⊥) → In 0 4294967295 (x + base)} (λ (x : ℕ) (h : In 0 (highest base) x) (d : x ≡ 0 → ⊥). (omega arith, omega (arith, h.1))) xs small)
      (all_map {Q = In 0 4294967295} (λ (x : ℕ) (h : In 0 base x). (omega arith, omega (arith, h.1))) s.under n.under) c

-- the pixels, and what the writer stores of them
pub record Undone (form : Form) (base : ℕ) (s : Stored) (vs : List ℕ) : Type 0 where
  pub stored : stored_for form base vs ≡ s
  pub small : Below 4294967296 vs

kind-undone : (u : Underflow) (base : ℕ) → base ≤ 65535 → (s : Stored) → Numbers base s → (xs : List ℕ) → All (In 0 (highest base)) xs → under_count u (count 0 xs) ≡ length s.under
    → (map (lowered u base) (if◌then◌else◌ (subtracts u) (fill_by 0 (λ (x : ℕ). x + base) xs s.under) xs) ≡ xs)
    × (under_entries u base (if◌then◌else◌ (subtracts u) (fill_by 0 (λ (x : ℕ). x + base) xs s.under) xs) ≡ s.under)
    × Below 4294967296 (if◌then◌else◌ (subtracts u) (fill_by 0 (λ (x : ℕ). x + base) xs s.under) xs)
kind-undone U.None base low s n xs small c = (
  map-id xs,
  sym (none-there s.under c),
  below_in 4294967295 xs (all_map {Q = In 0 4294967295} (λ (x : ℕ) (h : In 0 (highest base) x). (omega arith, omega (arith, h.1))) xs small),
)
kind-undone (U.Subtracted e) base low s n xs small c =
    let r = c-inverse base low s n xs small c in
    (r.0, r.1, below_in 4294967295 (fill_by 0 (λ (x : ℕ). x + base) xs s.under) (c-small base low s n xs small c))

pub values-undone : (form : Form) (base : ℕ) (s : Stored) → base ≤ 65535 → Below (256 ^ width_bytes form.width) s.image → values_canonical form base s ≡ true
    → Undone form base s (after_c (width_bytes form.width) (subtracts form.underflow) base s)
unfolding values_canonical stored_for
values-undone form base s low fits h =
    let n = numbers_of base s (and-true-left (numbers_within base s) _ h) in
    let c = counts_of (entries_asked form s.image s.two) (stored_counts s) (and-true-right (numbers_within base s) _ h) in
    let l = step-b base low s n form.width fits c.1 c.2 in
    let k = kind-undone form.underflow base low s n (after_b (width_bytes form.width) s) l.small (ap (under_count form.underflow) l.zeros ∙ c.0) in
    record {
      stored = λ i. record {
        image = (ap (map (stored_value form.width)) k.0 ∙ l.image) i;
        under = k.1 i;
        two = (ap (two_entries form.width) k.0 ∙ l.two) i;
        four = (ap (four_entries form.width) k.0 ∙ l.four) i;
      };
      small = k.2;
    }
