-- Laws of the check: numbers within a range, the parts of a table, and what one pass finds.
-- Assumes nothing.
use Rattle.canonical.specs.declared.Unlocated.TheVariants.{NoPixel}
use Rattle.canonical.specs.declared.Unlocated.TheVariants.{NotCanonical}
use mathlib.Core.Path.{◌≡◌, refl, sym, ap, ◌∙◌}
use mathlib.Core.Bool.{Bool, true, false, ◌&&◌}
use mathlib.Core.List.{List, [], ◌∷◌}
use Prim.Native.Nat.{ℕ, zero, suc, ◌+◌, ◌-◌, ◌*◌, ◌/◌, ◌≤◌, ◌<◌}
use native.Mathlib.Nat.{mul-div_cancel, mul-le-mul_right, div-mul-le_self, div-le_self}
use native.Mathlib.Omega.{arith}
use lib.ListN.{length, take, drop, get_or, length-take, take-append-drop}
use lib.Dec.{eqb, leb}
use lib.Seq.{take_all, length-take-le}
use borrow.Author.Tests.{lt-ltb, le-ltb, le-leb, lt-leb, leb-true, leb-false, ne_eqb}
use Rattle.std.specs.Prelude.{if◌then◌else◌, Err, Ok}
use Rattle.lists.proofs.Tests.{and-true-left, and-true-right}
use Rattle.layout.specs.declared.Width.{Width}
use Rattle.layout.specs.declared.Width.TheVariants as W
use Rattle.layout.specs.declared.Underflow.{Underflow}
use Rattle.layout.specs.declared.Underflow.TheVariants as U
use Rattle.layout.specs.declared.Form.{Form}
use Rattle.layout.specs.Form.{width_bytes}
use Rattle.layout.proofs.Laws.{width-pos}
use Rattle.table.specs.Table.{whole_entries}
use Rattle.table.proofs.Laws.{length-entries, take-entries, entries-take, whole_from}
use Rattle.expand.specs.Steps.{Stored, count}
use Rattle.expand.proofs.Steps.{count-le}
use Rattle.expand.proofs.Whole.{tail-is}
use Rattle.lists.specs.Only.{only}
use Rattle.pixel_counts.specs.Counts.{under_count, two_count}
use Rattle.writer.specs.Frame.{stored_counts}
use Rattle.header_text.specs.declared.Counts.{Counts}
use Rattle.tally.specs.Tally.{is_outside, tally_of, tally_more}
use Rattle.tally.specs.declared.Tally.{Tally}
use Rattle.tally.proofs.Laws.{tally-append, Few, tally-few}
use Rattle.canonical.specs.Check.{all_within, highest, mark_of, four_marks, entries_for, same_counts, entries_asked, numbers_within, values_canonical, marks_before, entries_before, after_two, after_four, pixel_at, place_by}
use Rattle.canonical.specs.Parts.{seen_of, check_stored}
use Rattle.canonical.specs.declared.Marks.{Marks}
use Rattle.canonical.specs.declared.Seen.{Seen}

-- every number lies in a range where none lies outside it
pub within-is : (m low high : ℕ) (xs : List ℕ) → eqb (tally_of m low high xs).outside 0 ≡ all_within low high xs
unfolding tally_of only all_within
within-is m low high [] = refl
within-is m low high (x ∷ xs) = go (leb low x) (leb x high) refl refl (within-is m low high xs)
  where
    some : eqb (suc (length (only (is_outside low high) xs))) 0 ≡ false
    some = ne_eqb (suc (length (only (is_outside low high) xs))) 0 (λ z. omega arith)

    go : (a b : Bool) → leb low x ≡ a → leb x high ≡ b → eqb (length (only (is_outside low high) xs)) 0 ≡ all_within low high xs
        → eqb (length (if◌then◌else◌ (is_outside low high x) (x ∷ only (is_outside low high) xs) (only (is_outside low high) xs))) 0 ≡ (a && b && all_within low high xs)
    go true true p q h = rw (le-ltb _ _ (leb-true low x p), le-ltb _ _ (leb-true x high q)) h
    go true false p q h = rw (le-ltb _ _ (leb-true low x p), lt-ltb _ _ (leb-false x high q)) some
    go false b p q h = rw (lt-ltb _ _ (leb-false low x p)) some

-- a number of a list within a range, 0 past its end, is not above it
pub within-at : (low high : ℕ) (xs : List ℕ) → all_within low high xs ≡ true → (i : ℕ) → get_or xs i 0 ≤ high
unfolding all_within
within-at low high [] h i = omega arith
within-at low high (x ∷ xs) h zero = leb-true x high (and-true-right (leb low x) (leb x high) (and-true-left (leb low x && leb x high) (all_within low high xs) h))
within-at low high (x ∷ xs) h (suc i) = within-at low high xs (and-true-right (leb low x && leb x high) (all_within low high xs) h) i

-- the counts that a form asks for are no more than the marks

pub under-le : (u : Underflow) (n : ℕ) → under_count u n ≤ n
under-le U.None n = omega arith
under-le (U.Subtracted e) n = omega arith

pub two-le : (w : Width) (n : ℕ) → two_count w n ≤ n
two-le W.One n = omega arith
two-le W.Two n = omega arith
two-le W.Four n = omega arith

pub four_below : (w : Width) (a b n : ℕ) → a < n → b < n → four_marks w a b < n
four_below W.One a b n h k = k
four_below W.Two a b n h k = h
four_below W.Four a b n h k = omega arith

-- the first k entries of a table are those of its first bytes
whole-front : (w : Width) (k : ℕ) (t : List ℕ) → k ≤ length t / width_bytes w → whole_entries (width_bytes w) (take (k * width_bytes w) t) ≡ take k (whole_entries (width_bytes w) t)
whole-front w k t h =
    let b : k * width_bytes w ≤ length t = omega (arith, mul-le-mul_right (width_bytes w) h, div-mul-le_self (length t) (width_bytes w)) in
    rw (length-take-le (k * width_bytes w) t b, mul-div_cancel k (width-pos w), entries-take (width_bytes w) k (k * width_bytes w) t (omega arith), take-entries (width_bytes w) k (length t / width_bytes w) t h)

pub front_fits : (w k : ℕ) (t : List ℕ) → k ≤ length t / w → k * w ≤ length t
front_fits w k t h = omega (arith, mul-le-mul_right w h, div-mul-le_self (length t) w)

take-least : (j k : ℕ) (xs : List ℕ) → (length xs ≤ j → k ≡ length xs) → (j ≤ length xs → k ≡ j) → take k xs ≡ take j xs
take-least j k xs p q = go (leb j (length xs)) refl
  where
    go : (t : Bool) → leb j (length xs) ≡ t → take k xs ≡ take j xs
    go true e = rw (q (leb-true _ _ e))
    go false e =
        let h : length xs ≤ j = omega (arith, leb-false j (length xs) e) in
        rw (p h, take_all j xs h, take_all (length xs) xs (omega arith))

-- A table counted in two parts, the first k entries and the rest, where k is at most j.
pub record Halves (w : Width) (m l h each k : ℕ) (t : List ℕ) (a b : Tally) : Type 0 where
  pub width : each ≡ width_bytes w
  pub upto : k ≤ length t / each
  pub first : a ≡ tally_of m l h (whole_entries (width_bytes w) (take (k * each) t))
  pub rest : b ≡ tally_of m l h (whole_entries (width_bytes w) (take (length t - k * each) (drop (k * each) t)))

module _ {w : Width} {m l h each k : ℕ} {t : List ℕ} {a b : Tally} (f : Halves w m l h each k t a b) where
  few : k ≤ length t / width_bytes w
  few = rw f.width at f.upto

  first-is : a ≡ tally_of m l h (take k (whole_entries (width_bytes w) t))
  first-is = f.first ∙ rw (f.width, whole-front w k t few)

  rest-is : b ≡ tally_of m l h (drop k (whole_entries (width_bytes w) t))
  rest-is = f.rest ∙ rw (f.width, tail-is (k * width_bytes w) t, whole_from w k t)

  pub halves-all : tally_more a b ≡ tally_of m l h (whole_entries (width_bytes w) t)
  halves-all = rw (first-is, rest-is, ← tally-append, take-append-drop)

  pub halves-few : Few (length t) (tally_more a b)
  halves-few =
      let n = tally-few m l h (whole_entries (width_bytes w) t) halves-all (length-entries _ _ _) in
      let d = div-le_self (length t) (width_bytes w) in
      record { zeros = omega arith; marks = omega arith; outside = omega arith }

  pub halves-first : (j : ℕ) → (length t / each ≤ j → k ≡ length t / each) → (j ≤ length t / each → k ≡ j) → a ≡ tally_of m l h (take j (whole_entries (width_bytes w) t))
  halves-first j p q =
      let e : length (whole_entries (width_bytes w) t) ≡ length t / each = length-entries _ _ _ ∙ rw f.width in
      first-is ∙ ap (tally_of m l h) (take-least j k (whole_entries (width_bytes w) t) (rw e p) (rw e q))

-- the numbers of each part lie where the writer's do
pub numbers-are : (base : ℕ) (s : Stored) (mi m : ℕ) {image under two four : Tally} → image ≡ tally_of mi 0 (highest base) s.image → under ≡ tally_of 0 0 base s.under
    → two ≡ tally_of m 255 65535 s.two → four ≡ tally_of 0 65535 (highest base) s.four
    → (eqb image.outside 0 && eqb under.outside 0 && eqb two.outside 0 && eqb four.outside 0) ≡ numbers_within base s
unfolding numbers_within
numbers-are base s mi m ei eu et ef =
    rw (ei, eu, et, ef, within-is mi 0 (highest base) s.image, within-is 0 0 base s.under, within-is m 255 65535 s.two, within-is 0 65535 (highest base) s.four)

-- what one pass finds
pub seen-is : (form : Form) (base j : ℕ) (s : Stored) {mark k : ℕ} {first all first2 all2 under four : Tally} {within : Bool} → mark ≡ mark_of form.width
    → first ≡ tally_of mark 0 (highest base) (take j s.image) → all ≡ tally_of mark 0 (highest base) s.image → k ≡ two_count form.width first.marks
    → first2 ≡ tally_of 65535 255 65535 (take k s.two) → all2 ≡ tally_of 65535 255 65535 s.two → under ≡ tally_of 0 0 base s.under → four ≡ tally_of 0 65535 (highest base) s.four
    → within ≡ (eqb all.outside 0 && eqb under.outside 0 && eqb all2.outside 0 && eqb four.outside 0)
    → ◌≡◌ {A = Seen} (record { before = record { zeros = first.zeros; marks = first.marks; two_marks = first2.marks }; all = record { zeros = all.zeros; marks = all.marks; two_marks = all2.marks }; within = within })
    (seen_of form base s j)
unfolding seen_of tally_of
seen-is form base j s {mark} em ef ea ek e2 a2 eu e4 ew =
    let n = numbers-are base s mark 65535 ea eu a2 e4 in
    rw (ew, n, e2, a2, ek, ef, ea, em)

-- pixel j and the baseline have a sum that fits

pub numbers-at : (base : ℕ) (s : Stored) → numbers_within base s ≡ true
    → ((i : ℕ) → get_or s.image i 0 ≤ highest base) × ((i : ℕ) → get_or s.two i 0 ≤ 65535) × ((i : ℕ) → get_or s.four i 0 ≤ highest base)
unfolding numbers_within
numbers-at base s h =
    let a : Bool = all_within 0 (highest base) s.image in
    let b : Bool = all_within 0 base s.under in
    let c : Bool = all_within 255 65535 s.two in
    let d : Bool = all_within 65535 (highest base) s.four in
    let p : (a && b && c) ≡ true = and-true-left (a && b && c) d h in
    let q : (a && b) ≡ true = and-true-left (a && b) c p in
    (within-at 0 (highest base) s.image (and-true-left a b q), within-at 255 65535 s.two (and-true-right (a && b) c p), within-at 65535 (highest base) s.four (and-true-right (a && b && c) d h))

choice-le : (t : Bool) (x e n : ℕ) → x ≤ n → e ≤ n → if◌then◌else◌ t e x ≤ n
choice-le true x e n h k = k
choice-le false x e n h k = h

two_at : (w : Width) (x e n : ℕ) → x ≤ n → e ≤ n → after_two w x e ≤ n
two_at W.One x e n h k = choice-le (eqb x 255) x e n h k
two_at W.Two x e n h k = h
two_at W.Four x e n h k = h

four-at : (w : Width) (x e n : ℕ) → x ≤ n → e ≤ n → after_four w x e ≤ n
four-at W.One x e n h k = choice-le (eqb x 65535) x e n h k
four-at W.Two x e n h k = choice-le (eqb x 65535) x e n h k
four-at W.Four x e n h k = h

pub pixel-fits : (w : Width) (base : ℕ) (s : Stored) → base ≤ 65535 → numbers_within base s ≡ true → {x y z a b : ℕ} (i j k : ℕ) → x ≡ get_or s.image i 0 → y ≡ get_or s.two j 0
    → z ≡ get_or s.four k 0 → a ≡ after_two w x y → b ≡ after_four w a z → b + base < 4294967296
pixel-fits w base s h n {x} {y} {z} {a} {b} i j k ex ey ez ea eb =
    let g = numbers-at base s n in
    let p : x ≤ highest base = rw ex (g.0 i) in
    let q : y ≤ highest base = rw ey (omega (arith, g.1 j)) in
    let r : z ≤ highest base = rw ez (g.2 k) in
    let t : a ≤ highest base = rw ea (two_at w x y (highest base) p q) in
    let u : b ≤ highest base = rw eb (four-at w a z (highest base) t r) in
    omega arith

-- the marks before a pixel are no more than the pixels before it
pub before-few : (form : Form) (base : ℕ) (s : Stored) (j : ℕ) {x : Seen} {m : Marks} → x ≡ seen_of form base s j → m ≡ x.before → (m.zeros ≤ j) × (m.marks ≤ j) × (m.two_marks ≤ j)
unfolding seen_of
before-few form base s j e em =
    let l : length (take j s.image) ≤ j = simp length-take (omega arith) in
    let k : ℕ = marks_before form s j in
    let n : length (take k s.two) ≤ k = simp length-take (omega arith) in
    let z = count-le 0 (take j s.image) in
    let q = count-le (mark_of form.width) (take j s.image) in
    let t = count-le 65535 (take k s.two) in
    let p = two-le form.width (count (mark_of form.width) (take j s.image)) in
    rw (em, e) (omega arith, omega arith, omega arith)

-- The check from the values on, by what one pass found.
module _ (start : ℕ) (form : Form) (base : ℕ) (s : Stored) (pixel : ℕ) {x : Seen} (e : x ≡ seen_of form base s pixel) where
  within_of : numbers_within base s ≡ x.within
  unfolding seen_of
  within_of = sym (ap (λ (y : Seen). y.within) e)

  same_of : {c : Counts} {r : Bool} → r ≡ same_counts (entries_for form x.all.zeros x.all.marks x.all.two_marks) c → c ≡ stored_counts s
      → same_counts (entries_asked form s.image s.two) (stored_counts s) ≡ r
  unfolding seen_of
  same_of er ec = sym (er ∙ rw (ec, e))

  pub before_of : {c : Counts} → c ≡ entries_for form x.before.zeros x.before.marks x.before.two_marks → c ≡ entries_before form s pixel
  unfolding seen_of entries_before
  before_of ec = ec ∙ rw e

  pub numbers_of : x.within ≡ true → numbers_within base s ≡ true
  numbers_of h = within_of ∙ h

  pub other-numbers : x.within ≡ false → (Err NotCanonical) ≡ check_stored start form base s pixel
  unfolding check_stored values_canonical
  other-numbers h = rw (within_of, h)

  module _ {c : Counts} {r : Bool} (er : r ≡ same_counts (entries_for form x.all.zeros x.all.marks x.all.two_marks) c) (ec : c ≡ stored_counts s) (h : x.within ≡ true) where
    pub other_entries : r ≡ false → (Err NotCanonical) ≡ check_stored start form base s pixel
    unfolding check_stored values_canonical
    other_entries k = rw (within_of, h, same_of er ec, k)

    module _ {n : ℕ} (k : r ≡ true) (en : n ≡ length s.image) where
      pub pixel-past : n ≤ pixel → (Err NoPixel) ≡ check_stored start form base s pixel
      unfolding check_stored values_canonical
      pixel-past l = rw (within_of, h, same_of er ec, k, le-leb _ _ (rw en at l))

      pub pixel-there : {before : Counts} {old : ℕ} → pixel < n → before ≡ entries_for form x.before.zeros x.before.marks x.before.two_marks → old ≡ pixel_at form base s before pixel
          → Ok (record { start = start; pixels = n; form = form; baseline = base; entries = c; before = before; old = old }) ≡ check_stored start form base s pixel
      unfolding check_stored values_canonical place_by
      pixel-there l eb eo = rw (within_of, h, same_of er ec, k, lt-leb _ _ (rw en at l), eo, before_of eb, ec, en)
