-- The steps a, b and c give back the pixels from what the writer stores of them, and use up its tables.
-- Assumes nothing.
use mathlib.Core.Path.{◌≡◌, refl, sym, ap, ◌∙◌}
use mathlib.Core.Bool.{Bool, true, false, not, ◌&&◌}
use mathlib.Core.List.{List, [], ◌∷◌, map}
use Prim.Native.Nat.{ℕ, suc, ◌+◌, ◌-◌, ◌^◌, ◌≤◌, ◌<◌}
use native.Mathlib.Omega.{arith}
use lib.ListN.{length, get_or, length-map}
use lib.Dec.{eqb, leb}
use borrow.Author.Tests.{eq-eqb, ne_eqb, leb-false, lt-leb, le-ltb}
use Rattle.std.specs.Prelude.{if◌then◌else◌}
use Rattle.lists.proofs.Tests.{and-false}
use Rattle.layout.specs.declared.Width.{Width}
use Rattle.layout.specs.declared.Width.TheVariants as W
use Rattle.layout.specs.declared.Underflow.{Underflow}
use Rattle.layout.specs.declared.Underflow.TheVariants as U
use Rattle.layout.specs.declared.Form.{Form}
use Rattle.layout.specs.Form.{width_bytes}
use Rattle.expand.specs.Steps.{fill_by, count, after_b, after_c, taken_a, taken_b, exhausted, sum_too_large, any_too_large, sums_too_large}
use Rattle.writer.specs.Storing.{lowered, under_entries, at_most65535, stored_value, two_entries, four_entries, lowered_all, stored_for}
use Rattle.pixel_counts.specs.Counts.{is_underflow}
use Rattle.lists.specs.Only.{only}

-- every value is below n
abbrev pub Below : ℕ → List ℕ → Type 0
Below n [] = Unit {0}
Below n (v ∷ vs) = (v < n) × Below n vs

pub below_all : (n : ℕ) (vs : List ℕ) → ((i : ℕ) → get_or vs i 0 < n) → Below n vs
below_all n [] h = tt
below_all n (v ∷ vs) h = (h 0, below_all n vs (λ i. h (suc i)))

pub below-le : (m n : ℕ) (vs : List ℕ) → m ≤ n → Below m vs → Below n vs
below-le m n [] h b = tt
below-le m n (v ∷ vs) h b = (omega (arith, b.0), below-le m n vs h b.1)

pub map-id : (vs : List ℕ) → map (λ (v : ℕ). v) vs ≡ vs
map-id [] = refl
map-id (v ∷ vs) = rw (map-id vs)

-- One law for every step: a value that passes the test p is stored, by put, as m, and has the entry out v; every other value v
-- is stored as another number, of which g makes out v.
module _ (m : ℕ) (g put out : ℕ → ℕ) (p : ℕ → Bool)
    (marked : (v : ℕ) → p v ≡ true → put v ≡ m)
    (plain : (v : ℕ) → p v ≡ false → (put v ≡ m → ⊥) × (g (put v) ≡ out v)) where
  pub fill-back : (vs : List ℕ) → fill_by m g (map put vs) (map out (only p vs)) ≡ map out vs
  unfolding fill_by only
  fill-back [] = refl
  fill-back (v ∷ vs) = go (p v) refl (fill-back vs)
    where
      go : (t : Bool) → p v ≡ t → fill_by m g (map put vs) (map out (only p vs)) ≡ map out vs
          → fill_by m g (map put (v ∷ vs)) (map out (only p (v ∷ vs))) ≡ map out (v ∷ vs)
      go true e ih = rw (e, eq-eqb (put v) m (marked v e), ih)
      go false e ih = rw (e, ne_eqb (put v) m (plain v e).0, (plain v e).1, ih)

  pub count-back : (vs : List ℕ) → count m (map put vs) ≡ length (only p vs)
  unfolding count only
  count-back [] = refl
  count-back (v ∷ vs) = go (p v) refl (count-back vs)
    where
      go : (t : Bool) → p v ≡ t → count m (map put vs) ≡ length (only p vs) → count m (map put (v ∷ vs)) ≡ length (only p (v ∷ vs))
      go true e ih = rw (e, eq-eqb (put v) m (marked v e), ih)
      go false e ih = rw (e, ne_eqb (put v) m (plain v e).0, ih)

-- values from m are stored as m
cap-marked : (m v : ℕ) → leb m v ≡ true → if◌then◌else◌ (leb m v) m v ≡ m
cap-marked m v e = rw e

cap-plain : (m v : ℕ) → leb m v ≡ false → (if◌then◌else◌ (leb m v) m v ≡ m → ⊥) × (if◌then◌else◌ (leb m v) m v ≡ v)
cap-plain m v e = rw e (λ k. omega (arith, leb-false m v e), refl)

one_plain : (v : ℕ) → leb 255 v ≡ false → (stored_value W.One v ≡ 255 → ⊥) × (stored_value W.One v ≡ at_most65535 v)
one_plain v e =
    let h = leb-false 255 v e in
    ((cap-plain 255 v e).0, (cap-plain 255 v e).1 ∙ rw (lt-leb 65535 v (omega arith)))

-- a pixel at or below the baseline is stored as 0
low-marked : (b v : ℕ) → leb v b ≡ true → if◌then◌else◌ (leb v b) 0 (v - b) ≡ 0
low-marked b v e = rw e

low-plain : (b v : ℕ) → leb v b ≡ false → (if◌then◌else◌ (leb v b) 0 (v - b) ≡ 0 → ⊥) × (if◌then◌else◌ (leb v b) 0 (v - b) + b ≡ v)
low-plain b v e = let h = leb-false v b e in rw e (λ k. omega arith, omega arith)

-- step a of width 1
a_back : (xs : List ℕ) → fill_by 255 (λ (x : ℕ). x) (map (stored_value W.One) xs) (two_entries W.One xs) ≡ map at_most65535 xs
a_back xs = fill-back 255 _ (stored_value W.One) at_most65535 (leb 255) (cap-marked 255) one_plain xs

pub a-count : (xs : List ℕ) → count 255 (map (stored_value W.One) xs) ≡ length (two_entries W.One xs)
a-count xs = count-back 255 (λ (x : ℕ). x) (stored_value W.One) at_most65535 (leb 255) (cap-marked 255) one_plain xs ∙ sym (length-map (only (leb 255) xs) at_most65535)

-- step b of widths 1 and 2
b-back : (xs : List ℕ) → fill_by 65535 (λ (x : ℕ). x) (map at_most65535 xs) (only (leb 65535) xs) ≡ xs
b-back xs =
    ap (fill_by 65535 (λ (x : ℕ). x) (map at_most65535 xs)) (sym (map-id (only (leb 65535) xs)))
    ∙ fill-back 65535 _ at_most65535 (λ (x : ℕ). x) (leb 65535) (cap-marked 65535) (cap-plain 65535) xs
    ∙ map-id xs

pub b-count : (xs : List ℕ) → count 65535 (map at_most65535 xs) ≡ length (only (leb 65535) xs)
b-count xs = count-back 65535 (λ (x : ℕ). x) at_most65535 (λ (x : ℕ). x) (leb 65535) (cap-marked 65535) (cap-plain 65535) xs

-- step c where the baseline is subtracted
c-back : (b : ℕ) (vs : List ℕ) → fill_by 0 (λ (x : ℕ). x + b) (map (λ (v : ℕ). if◌then◌else◌ (leb v b) 0 (v - b)) vs) (only (is_underflow b) vs) ≡ vs
c-back b vs =
    ap (fill_by 0 (λ (x : ℕ). x + b) (map (λ (v : ℕ). if◌then◌else◌ (leb v b) 0 (v - b)) vs)) (sym (map-id (only (is_underflow b) vs)))
    ∙ fill-back 0 _ _ (λ (x : ℕ). x) (is_underflow b) (low-marked b) (low-plain b) vs
    ∙ map-id vs

pub c-count : (b : ℕ) (vs : List ℕ) → count 0 (map (λ (v : ℕ). if◌then◌else◌ (leb v b) 0 (v - b)) vs) ≡ length (only (is_underflow b) vs)
c-count b vs = count-back 0 (λ (x : ℕ). x + b) _ (λ (x : ℕ). x) (is_underflow b) (low-marked b) (low-plain b) vs

-- step c applies to every kind but none
abbrev pub subtracts : Underflow → Bool
subtracts U.None = false
subtracts (U.Subtracted e) = true

b-gives : (w : Width) (xs under : List ℕ)
    → after_b (width_bytes w) (record { image = map (stored_value w) xs; under = under; two = two_entries w xs; four = four_entries w xs }) ≡ xs
b-gives W.One xs under = rw (a_back xs) (b-back xs)
b-gives W.Two xs under = b-back xs
b-gives W.Four xs under = map-id xs

c-gives : (u : Underflow) (b : ℕ) (vs : List ℕ)
    → if◌then◌else◌ (subtracts u) (fill_by 0 (λ (x : ℕ). x + b) (map (lowered u b) vs) (under_entries u b vs)) (map (lowered u b) vs) ≡ vs
c-gives U.None b vs = map-id vs
c-gives (U.Subtracted e) b vs = c-back b vs

pub all_three : (a b c : Bool) → a ≡ true → b ≡ true → c ≡ true → (a && b && c) ≡ true
all_three a b c p q r = rw (p, q, r)

a-takes : (w : Width) (xs under : List ℕ)
    → eqb (taken_a (width_bytes w) (record { image = map (stored_value w) xs; under = under; two = two_entries w xs; four = four_entries w xs })) (length (two_entries w xs)) ≡ true
a-takes W.One xs under = eq-eqb _ _ (a-count xs)
a-takes W.Two xs under = refl
a-takes W.Four xs under = refl

b-takes : (w : Width) (xs under : List ℕ)
    → eqb (taken_b (width_bytes w) (record { image = map (stored_value w) xs; under = under; two = two_entries w xs; four = four_entries w xs })) (length (four_entries w xs)) ≡ true
b-takes W.One xs under = rw (a_back xs) (eq-eqb _ _ (b-count xs))
b-takes W.Two xs under = eq-eqb _ _ (b-count xs)
b-takes W.Four xs under = refl

c-takes : (u : Underflow) (b : ℕ) (vs : List ℕ)
    → if◌then◌else◌ (subtracts u) (count 0 (map (lowered u b) vs)) 0 ≡ length (under_entries u b vs)
c-takes U.None b vs = refl
c-takes (U.Subtracted e) b vs = c-count b vs

sum-small : (b v : ℕ) → v < 4294967296 → sum_too_large b (if◌then◌else◌ (leb v b) 0 (v - b)) ≡ false
sum-small b v h = go (leb v b) refl
  where
    go : (t : Bool) → leb v b ≡ t → sum_too_large b (if◌then◌else◌ t 0 (v - b)) ≡ false
    go true e = refl
    go false e =
        let k = leb-false v b e in
        rw (le-ltb 4294967295 (v - b + b) (omega arith)) (and-false (not (eqb (v - b) 0)))

sums-low : (b : ℕ) (vs : List ℕ) → Below 4294967296 vs → any_too_large b (map (λ (v : ℕ). if◌then◌else◌ (leb v b) 0 (v - b)) vs) ≡ false
unfolding any_too_large
sums-low b [] h = refl
sums-low b (v ∷ vs) h = rw (sum-small b v h.0, sums-low b vs h.1)

sums-small : (u : Underflow) (b : ℕ) (vs : List ℕ) → Below 4294967296 vs → if◌then◌else◌ (subtracts u) (any_too_large b (map (lowered u b) vs)) false ≡ false
sums-small U.None b vs h = refl
sums-small (U.Subtracted e) b vs h = sums-low b vs h

module _ (form : Form) (b : ℕ) (vs : List ℕ) where
  pub after-b : after_b (width_bytes form.width) (stored_for form b vs) ≡ lowered_all form b vs
  unfolding stored_for
  after-b = b-gives form.width (lowered_all form b vs) (under_entries form.underflow b vs)

  -- the three steps give the pixels back
  pub steps_back : after_c (width_bytes form.width) (subtracts form.underflow) b (stored_for form b vs) ≡ vs
  unfolding stored_for
  steps_back = rw after-b (c-gives form.underflow b vs)

  -- and take every entry of each table
  pub all-taken : exhausted (width_bytes form.width) (subtracts form.underflow) (stored_for form b vs) ≡ true
  unfolding exhausted stored_for
  all-taken =
      all_three _ _ _ (a-takes form.width (lowered_all form b vs) (under_entries form.underflow b vs))
      (b-takes form.width (lowered_all form b vs) (under_entries form.underflow b vs))
      (eq-eqb _ _ (ap (λ (l : List ℕ). if◌then◌else◌ (subtracts form.underflow) (count 0 l) 0) after-b ∙ c-takes form.underflow b vs))

  -- no sum of step c is too large for pixels of 32 bits
  pub sums-fit : Below 4294967296 vs → sums_too_large (width_bytes form.width) (subtracts form.underflow) b (stored_for form b vs) ≡ false
  unfolding stored_for
  sums-fit h = ap (λ (l : List ℕ). if◌then◌else◌ (subtracts form.underflow) (any_too_large b l) false) after-b ∙ sums-small form.underflow b vs h

-- every stored value and every entry fits its width
only_below : (n : ℕ) (p : ℕ → Bool) (vs : List ℕ) → Below n vs → Below n (only p vs)
unfolding only
only_below n p [] h = tt
only_below n p (v ∷ vs) h = go (p v) (only_below n p vs h.1)
  where
    go : (t : Bool) → Below n (only p vs) → Below n (if◌then◌else◌ t (v ∷ only p vs) (only p vs))
    go true r = (h.0, r)
    go false r = r

map_below : (m n : ℕ) (f : ℕ → ℕ) → ((v : ℕ) → v < m → f v < n) → (vs : List ℕ) → Below m vs → Below n (map f vs)
map_below m n f k [] h = tt
map_below m n f k (v ∷ vs) h = (k v h.0, map_below m n f k vs h.1)

cap-below : (m v : ℕ) → if◌then◌else◌ (leb m v) m v < suc m
cap-below m v = go (leb m v) refl
  where
    go : (t : Bool) → leb m v ≡ t → if◌then◌else◌ t m v < suc m
    go true e = omega arith
    go false e = omega (arith, leb-false m v e)

low_below : (u : Underflow) (b v : ℕ) → v < 4294967296 → lowered u b v < 4294967296
low_below U.None b v h = h
low_below (U.Subtracted e) b v h = go (leb v b)
  where
    go : (t : Bool) → if◌then◌else◌ t 0 (v - b) < 4294967296
    go true = omega arith
    go false = omega arith

value-below : (w : Width) (v : ℕ) → v < 4294967296 → stored_value w v < 256 ^ width_bytes w
value-below W.One v h = cap-below 255 v
value-below W.Two v h = cap-below 65535 v
value-below W.Four v h = h

two-below : (w : Width) (xs : List ℕ) → Below 4294967296 xs → Below (256 ^ 2) (two_entries w xs)
two-below W.One xs h = map_below 4294967296 65536 at_most65535 (λ v l. cap-below 65535 v) (only (leb 255) xs) (only_below 4294967296 (leb 255) xs h)
two-below W.Two xs h = tt
two-below W.Four xs h = tt

four_below : (w : Width) (xs : List ℕ) → Below 4294967296 xs → Below (256 ^ 4) (four_entries w xs)
four_below W.One xs h = only_below 4294967296 (leb 65535) xs h
four_below W.Two xs h = only_below 4294967296 (leb 65535) xs h
four_below W.Four xs h = tt

module _ (form : Form) (b : ℕ) (vs : List ℕ) (h : Below 4294967296 vs) where
  low_fits : Below 4294967296 (lowered_all form b vs)
  low_fits = map_below 4294967296 4294967296 (lowered form.underflow b) (low_below form.underflow b) vs h

  pub image-fits : Below (256 ^ width_bytes form.width) (stored_for form b vs).image
  unfolding stored_for
  image-fits = map_below 4294967296 _ (stored_value form.width) (value-below form.width) (lowered_all form b vs) low_fits

  pub two_fits : Below (256 ^ 2) (stored_for form b vs).two
  unfolding stored_for
  two_fits = two-below form.width (lowered_all form b vs) low_fits

  pub four-fits : Below (256 ^ 4) (stored_for form b vs).four
  unfolding stored_for
  four-fits = four_below form.width (lowered_all form b vs) low_fits

-- the entries of a table are no more than the pixels
only-length : (p : ℕ → Bool) (vs : List ℕ) → length (only p vs) ≤ length vs
unfolding only
only-length p [] = omega arith
only-length p (v ∷ vs) = go (p v) (only-length p vs)
  where
    go : (t : Bool) → length (only p vs) ≤ length vs → length (if◌then◌else◌ t (v ∷ only p vs) (only p vs)) ≤ suc (length vs)
    go true r = omega arith
    go false r = omega arith

two-length : (w : Width) (xs : List ℕ) → length (two_entries w xs) ≤ length xs
two-length W.One xs = rw length-map (only-length (leb 255) xs)
two-length W.Two xs = omega arith
two-length W.Four xs = omega arith

four-length : (w : Width) (xs : List ℕ) → length (four_entries w xs) ≤ length xs
four-length W.One xs = only-length (leb 65535) xs
four-length W.Two xs = only-length (leb 65535) xs
four-length W.Four xs = omega arith

under-length : (u : Underflow) (b : ℕ) (vs : List ℕ) → length (under_entries u b vs) ≤ length vs
under-length U.None b vs = omega arith
under-length (U.Subtracted e) b vs = only-length (is_underflow b) vs

module _ (form : Form) (b : ℕ) (vs : List ℕ) where
  pub image-count : length (stored_for form b vs).image ≡ length vs
  unfolding stored_for
  image-count = length-map (lowered_all form b vs) _ ∙ length-map vs _

  pub under-count : length (stored_for form b vs).under ≤ length vs
  unfolding stored_for
  under-count = under-length form.underflow b vs

  pub two-count : length (stored_for form b vs).two ≤ length vs
  unfolding stored_for
  two-count = omega (arith, two-length form.width (lowered_all form b vs), length-map vs (lowered form.underflow b))

  pub four-count : length (stored_for form b vs).four ≤ length vs
  unfolding stored_for
  four-count = omega (arith, four-length form.width (lowered_all form b vs), length-map vs (lowered form.underflow b))
