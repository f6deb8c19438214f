-- What the writer stores passes the check of numbers; the entries before a pixel, and the pixel by its place.
-- Assumes nothing.
use mathlib.Core.Path.{◌≡◌, refl, sym, ap, ◌∙◌}
use mathlib.Core.Bool.{Bool, true, false}
use mathlib.Core.List.{List, [], ◌∷◌, ◌++◌, map}
use Prim.Native.Nat.{ℕ, suc, ◌+◌, ◌-◌, ◌≤◌, ◌<◌}
use native.Mathlib.Nat.{add-zero}
use native.Mathlib.Omega.{arith}
use borrow.Author.Tests.{eq-eqb, ne_eqb, leb-true, leb-false, lt-leb}
use lib.Dec.{eqb, leb}
use lib.ListN.{length, take, drop, get_or, take-append-drop}
use lib.Seq.{take_at, get_or-append-add, split_at, length-take-le}
use Rattle.std.specs.Prelude.{if◌then◌else◌}
use Rattle.layout.specs.declared.Width.{Width}
use Rattle.layout.specs.declared.Width.TheVariants as W
use Rattle.layout.specs.declared.Underflow.{Underflow}
use Rattle.layout.specs.declared.Underflow.TheVariants as U
use Rattle.layout.specs.declared.Form.{Form}
use Rattle.expand.specs.Steps.{Stored, count}
use Rattle.header_text.specs.declared.Counts.{Counts}
use Rattle.writer.specs.Storing.{lowered, under_entries, at_most65535, stored_value, two_entries, four_entries, lowered_all, stored_for}
use Rattle.pixel_counts.specs.Counts.{is_underflow, under_count, two_count}
use Rattle.lists.specs.Only.{only}
use Rattle.writer.specs.Frame.{stored_counts}
use Rattle.writer.proofs.Placing.{joined, stored-append}
use Rattle.readback.proofs.Storing.{Below, a-count, b-count, c-count, image-count}
use Rattle.canonical.specs.Check.{highest, mark_of, four_marks, same_counts, entries_asked, numbers_within, values_canonical, entries_before, after_two, after_four, after_under, pixel_at}
use Rattle.canonical.proofs.Values.{all-below}
use Rattle.canonical.proofs.Inverse.{All, In, all-within}

-- kind none has the baseline 0
abbrev pub Kinded : Underflow → ℕ → Type 0
Kinded U.None base = base ≡ 0
Kinded (U.Subtracted e) base = Unit {0}

all-only : (P Q : ℕ → Type 0) (p : ℕ → Bool) → ((x : ℕ) → P x → p x ≡ true → Q x) → (xs : List ℕ) → All P xs → All Q (only p xs)
unfolding only
all-only P Q p f [] a = tt
all-only P Q p f (x ∷ xs) a = go (p x) refl (all-only P Q p f xs a.1)
  where
    go : (t : Bool) → p x ≡ t → All Q (only p xs) → All Q (if◌then◌else◌ t (x ∷ only p xs) (only p xs))
    go true e r = (f x a.0 e, r)
    go false e r = r

all-image : (P Q : ℕ → Type 0) (f : ℕ → ℕ) → ((x : ℕ) → P x → Q (f x)) → (xs : List ℕ) → All P xs → All Q (map f xs)
all-image P Q f h [] a = tt
all-image P Q f h (x ∷ xs) a = (h x a.0, all-image P Q f h xs a.1)

cap-in : (m high x : ℕ) → In 0 high x → In 0 high (if◌then◌else◌ (leb m x) m x)
cap-in m high x h = go (leb m x) refl
  where
    go : (t : Bool) → leb m x ≡ t → In 0 high (if◌then◌else◌ t m x)
    go true e = (omega arith, omega (arith, leb-true m x e, h.1))
    go false e = h

cap-between : (x : ℕ) → 255 ≤ x → In 255 65535 (at_most65535 x)
cap-between x h = go (leb 65535 x) refl
  where
    go : (t : Bool) → leb 65535 x ≡ t → In 255 65535 (if◌then◌else◌ t 65535 x)
    go true e = (omega arith, omega arith)
    go false e = (h, omega (arith, leb-false 65535 x e))

lowered-in : (u : Underflow) (base v : ℕ) → Kinded u base → v < 4294967296 → In 0 (highest base) (lowered u base v)
lowered-in U.None base v k h = (omega arith, omega arith)
lowered-in (U.Subtracted e) base v k h = go (leb v base) refl
  where
    go : (t : Bool) → leb v base ≡ t → In 0 (highest base) (if◌then◌else◌ t 0 (v - base))
    go true q = (omega arith, omega arith)
    go false q = (omega arith, omega (arith, leb-false v base q))

stored-in : (w : Width) (high x : ℕ) → In 0 high x → In 0 high (stored_value w x)
stored-in W.One high x h = cap-in 255 high x h
stored-in W.Two high x h = cap-in 65535 high x h
stored-in W.Four high x h = h

two_in : (w : Width) (high : ℕ) (xs : List ℕ) → All (In 0 high) xs → All (In 255 65535) (two_entries w xs)
two_in W.One high xs a = all-image (λ (x : ℕ). 255 ≤ x) (In 255 65535) at_most65535 cap-between (only (leb 255) xs) (all-only (In 0 high) (λ (x : ℕ). 255 ≤ x) (leb 255) (λ x h e. leb-true 255 x e) xs a)
two_in W.Two high xs a = tt
two_in W.Four high xs a = tt

four-in : (w : Width) (high : ℕ) (xs : List ℕ) → All (In 0 high) xs → All (In 65535 high) (four_entries w xs)
four-in W.One high xs a = all-only (In 0 high) (In 65535 high) (leb 65535) (λ x h e. (leb-true 65535 x e, h.1)) xs a
four-in W.Two high xs a = all-only (In 0 high) (In 65535 high) (leb 65535) (λ x h e. (leb-true 65535 x e, h.1)) xs a
four-in W.Four high xs a = tt

under-in : (u : Underflow) (base : ℕ) (vs : List ℕ) → Below 4294967296 vs → All (In 0 base) (under_entries u base vs)
under-in U.None base vs b = tt
under-in (U.Subtracted e) base vs b = all-only (λ (x : ℕ). x < 4294967296) (In 0 base) (is_underflow base) (λ x h q. (omega arith, leb-true x base q)) vs (all-below 4294967296 vs b)

module _ (form : Form) (base : ℕ) (vs : List ℕ) (kind : Kinded form.underflow base) (small : Below 4294967296 vs) where
  low-in : All (In 0 (highest base)) (lowered_all form base vs)
  low-in = all-image (λ (x : ℕ). x < 4294967296) (In 0 (highest base)) (lowered form.underflow base) (λ x h. lowered-in form.underflow base x kind h) vs (all-below 4294967296 vs small)

  pub numbers-in : numbers_within base (stored_for form base vs) ≡ true
  unfolding numbers_within stored_for
  numbers-in =
      rw (
        all-within 0 (highest base) _ (all-image (In 0 (highest base)) (In 0 (highest base)) (stored_value form.width) (stored-in form.width (highest base)) (lowered_all form base vs) low-in),
        all-within 0 base _ (under-in form.underflow base vs small),
        all-within 255 65535 _ (two_in form.width (highest base) (lowered_all form base vs) low-in),
        all-within 65535 (highest base) _ (four-in form.width (highest base) (lowered_all form base vs) low-in),
      )

-- a number is stored as 0 where it is 0
count-stored : (f : ℕ → ℕ) → ((x : ℕ) → eqb (f x) 0 ≡ eqb x 0) → (xs : List ℕ) → count 0 (map f xs) ≡ count 0 xs
unfolding count
count-stored f h [] = refl
count-stored f h (x ∷ xs) = rw (h x, count-stored f h xs)

cap-zero : (m x : ℕ) → 0 < m → eqb (if◌then◌else◌ (leb m x) m x) 0 ≡ eqb x 0
cap-zero m x p = go (leb m x) refl
  where
    go : (t : Bool) → leb m x ≡ t → eqb (if◌then◌else◌ t m x) 0 ≡ eqb x 0
    go true e = let h = leb-true m x e in ne_eqb m 0 (λ z. omega arith) ∙ sym (ne_eqb x 0 (λ z. omega arith))
    go false e = refl

zero-stored : (w : Width) (xs : List ℕ) → count 0 (map (stored_value w) xs) ≡ count 0 xs
zero-stored W.One xs = count-stored (stored_value W.One) (λ x. cap-zero 255 x (omega arith)) xs
zero-stored W.Two xs = count-stored at_most65535 (λ x. cap-zero 65535 x (omega arith)) xs
zero-stored W.Four xs = count-stored (stored_value W.Four) (λ x. refl) xs

only-only : (xs : List ℕ) → only (leb 65535) (only (leb 255) xs) ≡ only (leb 65535) xs
unfolding only
only-only [] = refl
only-only (x ∷ xs) = go (leb 255 x) refl (leb 65535 x) refl (only-only xs)
  where
    go : (t : Bool) → leb 255 x ≡ t → (r : Bool) → leb 65535 x ≡ r → only (leb 65535) (only (leb 255) xs) ≡ only (leb 65535) xs
        → only (leb 65535) (if◌then◌else◌ t (x ∷ only (leb 255) xs) (only (leb 255) xs)) ≡ if◌then◌else◌ r (x ∷ only (leb 65535) xs) (only (leb 65535) xs)
    go true e true f ih = rw (f, ih)
    go true e false f ih = rw (f, ih)
    go false e true f ih = absurd (let h = leb-true 65535 x f in let k = leb-false 255 x e in omega arith)
    go false e false f ih = ih

under-asked : (u : Underflow) (base : ℕ) (w : Width) (vs : List ℕ) → under_count u (count 0 (map (stored_value w) (map (lowered u base) vs))) ≡ length (under_entries u base vs)
under-asked U.None base w vs = refl
under-asked (U.Subtracted e) base w vs = zero-stored w (map (lowered (U.Subtracted e) base) vs) ∙ c-count base vs

two-asked : (w : Width) (xs : List ℕ) → two_count w (count (mark_of w) (map (stored_value w) xs)) ≡ length (two_entries w xs)
two-asked W.One xs = a-count xs
two-asked W.Two xs = refl
two-asked W.Four xs = refl

four-asked : (w : Width) (xs : List ℕ) → four_marks w (count (mark_of w) (map (stored_value w) xs)) (count 65535 (two_entries w xs)) ≡ length (four_entries w xs)
four-asked W.One xs = b-count (only (leb 255) xs) ∙ ap length (only-only xs)
four-asked W.Two xs = b-count xs
four-asked W.Four xs = refl

-- the image and the two-byte table ask for the entries that there are
pub asked-stored : (form : Form) (base : ℕ) (vs : List ℕ) → entries_asked form (stored_for form base vs).image (stored_for form base vs).two ≡ stored_counts (stored_for form base vs)
unfolding stored_for
asked-stored form base vs = λ i. record {
  under = under-asked form.underflow base form.width vs i;
  two = two-asked form.width (lowered_all form base vs) i;
  four = four-asked form.width (lowered_all form base vs) i;
}

same-counts : (c d : Counts) → c ≡ d → same_counts c d ≡ true
same-counts c d e = rw (e, eq-eqb d.under d.under refl, eq-eqb d.two d.two refl, eq-eqb d.four d.four refl)

pub stored-canonical : (form : Form) (base : ℕ) (vs : List ℕ) → Kinded form.underflow base → Below 4294967296 vs → values_canonical form base (stored_for form base vs) ≡ true
unfolding values_canonical
stored-canonical form base vs k b = rw (numbers-in form base vs k b, same-counts _ _ (asked-stored form base vs))

-- the entries before pixel j are those of the pixels before it
module _ (form : Form) (base : ℕ) (vs : List ℕ) (j : ℕ) (inside : j ≤ length vs) where
  abbrev a : Stored
  a = stored_for form base (take j vs)

  abbrev r : Stored
  r = stored_for form base (drop j vs)

  parted : stored_for form base vs ≡ joined a r
  parted = ap (stored_for form base) (sym (take-append-drop j vs)) ∙ stored-append form base (take j vs) (drop j vs)

  image-at : length a.image ≡ j
  image-at = image-count form base (take j vs) ∙ length-take-le j vs inside

  before-joined : entries_before form (joined a r) j ≡ stored_counts a
  unfolding entries_before
  before-joined =
      let i : take j (a.image ++ r.image) ≡ a.image = take_at a.image r.image j image-at in
      let m : two_count form.width (count (mark_of form.width) a.image) ≡ length a.two = ap (λ (c : Counts). c.two) (asked-stored form base (take j vs)) in
      let t : take (length a.two) (a.two ++ r.two) ≡ a.two = take_at a.two r.two (length a.two) refl in
      ap (λ (l : List ℕ). entries_asked form l (take (two_count form.width (count (mark_of form.width) l)) (a.two ++ r.two))) i
      ∙ ap (λ (n : ℕ). entries_asked form a.image (take n (a.two ++ r.two))) m
      ∙ ap (entries_asked form a.image) t
      ∙ asked-stored form base (take j vs)

  pub entries-before : entries_before form (stored_for form base vs) j ≡ stored_counts (stored_for form base (take j vs))
  entries-before = ap (λ (s : Stored). entries_before form s j) parted ∙ before-joined

-- a pixel, by its stored number and the first entries that follow
one_entry : (x : ℕ) (rest : List ℕ) → after_two W.One (stored_value W.One x) (get_or (two_entries W.One (x ∷ []) ++ rest) 0 0) ≡ at_most65535 x
unfolding only
one_entry x rest = go (leb 255 x) refl
  where
    go : (t : Bool) → leb 255 x ≡ t
        → if◌then◌else◌ (eqb (if◌then◌else◌ t 255 x) 255) (get_or (map at_most65535 (if◌then◌else◌ t (x ∷ []) []) ++ rest) 0 0) (if◌then◌else◌ t 255 x) ≡ at_most65535 x
    go true e = refl
    go false e =
        let h = leb-false 255 x e in
        rw (ne_eqb x 255 (λ z. omega arith), lt-leb 65535 x (omega arith))

four-entry : (x : ℕ) (rest : List ℕ) → if◌then◌else◌ (eqb (at_most65535 x) 65535) (get_or (only (leb 65535) (x ∷ []) ++ rest) 0 0) (at_most65535 x) ≡ x
unfolding only
four-entry x rest = go (leb 65535 x) refl
  where
    go : (t : Bool) → leb 65535 x ≡ t
        → if◌then◌else◌ (eqb (if◌then◌else◌ t 65535 x) 65535) (get_or (if◌then◌else◌ t (x ∷ []) [] ++ rest) 0 0) (if◌then◌else◌ t 65535 x) ≡ x
    go true e = refl
    go false e = let h = leb-false 65535 x e in rw (ne_eqb x 65535 (λ z. omega arith))

under-entry : (base v : ℕ) (rest : List ℕ)
    → if◌then◌else◌ (eqb (if◌then◌else◌ (leb v base) 0 (v - base)) 0) (get_or (only (is_underflow base) (v ∷ []) ++ rest) 0 0) (if◌then◌else◌ (leb v base) 0 (v - base) + base) ≡ v
unfolding only
under-entry base v rest = go (leb v base) refl
  where
    go : (t : Bool) → leb v base ≡ t
        → if◌then◌else◌ (eqb (if◌then◌else◌ t 0 (v - base)) 0) (get_or (if◌then◌else◌ t (v ∷ []) [] ++ rest) 0 0) (if◌then◌else◌ t 0 (v - base) + base) ≡ v
    go true e = refl
    go false e = let h = leb-false v base e in rw (ne_eqb (v - base) 0 (λ z. omega arith)) (omega arith)

width-entry : (w : Width) (x : ℕ) (p q : List ℕ)
    → after_four w (after_two w (stored_value w x) (get_or (two_entries w (x ∷ []) ++ p) 0 0)) (get_or (four_entries w (x ∷ []) ++ q) 0 0) ≡ x
width-entry W.One x p q = ap (λ (y : ℕ). after_four W.One y (get_or (four_entries W.One (x ∷ []) ++ q) 0 0)) (one_entry x p) ∙ four-entry x q
width-entry W.Two x p q = four-entry x q
width-entry W.Four x p q = refl

kind-entry : (u : Underflow) (base v : ℕ) (r : List ℕ) → after_under u base (lowered u base v) (get_or (under_entries u base (v ∷ []) ++ r) 0 0) ≡ v
kind-entry U.None base v r = refl
kind-entry (U.Subtracted e) base v r = under-entry base v r

first-behind : (xs ys : List ℕ) → get_or (xs ++ ys) (length xs) 0 ≡ get_or ys 0 0
first-behind xs ys = ap (λ (n : ℕ). get_or (xs ++ ys) n 0) (sym (add-zero (length xs))) ∙ get_or-append-add xs ys 0 0

module _ (form : Form) (base v : ℕ) (before behind : List ℕ) where
  abbrev f : Stored
  f = stored_for form base before

  abbrev o : Stored
  o = stored_for form base (v ∷ [])

  abbrev b : Stored
  b = stored_for form base behind

  pixel-joined : pixel_at form base (joined f (joined o b)) (stored_counts f) (length before) ≡ v
  unfolding pixel_at stored_for
  pixel-joined =
      let i : get_or (f.image ++ (o.image ++ b.image)) (length before) 0 ≡ stored_value form.width (lowered form.underflow base v) =
      ap (λ (n : ℕ). get_or (f.image ++ (o.image ++ b.image)) n 0) (sym (image-count form base before)) ∙ first-behind f.image (o.image ++ b.image) in
      rw (
        i,
        first-behind f.two (o.two ++ b.two),
        first-behind f.four (o.four ++ b.four),
        first-behind f.under (o.under ++ b.under),
        width-entry form.width (lowered form.underflow base v) b.two b.four,
      )
      (kind-entry form.underflow base v b.under)

-- pixel j by its place
pub pixel-is : (form : Form) (base : ℕ) (vs : List ℕ) (j : ℕ) → j < length vs
    → pixel_at form base (stored_for form base vs) (stored_counts (stored_for form base (take j vs))) j ≡ get_or vs j 0
pixel-is form base vs j h =
    let v : ℕ = get_or vs j 0 in
    let s : stored_for form base vs ≡ joined (stored_for form base (take j vs)) (joined (stored_for form base (v ∷ [])) (stored_for form base (drop (suc j) vs))) =
    ap (stored_for form base) (split_at vs j 0 h)
    ∙ stored-append form base (take j vs) (v ∷ drop (suc j) vs)
    ∙ ap (joined (stored_for form base (take j vs))) (stored-append form base (v ∷ []) (drop (suc j) vs)) in
    ap (λ (x : Stored). pixel_at form base x (stored_counts (stored_for form base (take j vs))) j) s
    ∙ ap (pixel_at form base _ _) (sym (length-take-le j vs (omega arith)))
    ∙ pixel-joined form base v (take j vs) (drop (suc j) vs)
