-- Runs of pixels that are stored with no entry, and how their ends are found.
-- Assumes nothing.
use Rattle.std.proofs.Common.{◌≡◌, ℕ, ◌+◌, ◌-◌, ◌*◌, ◌/◌, ◌%◌, ◌<◌, ◌≤◌, Bool, true, false, ◌||◌, ltb, List, [], ◌∷◌, map, length, get_or, take, drop, sym, refl, ap, ◌∙◌, add-zero, zero-mul, arith, length-take, length-drop, get_or-drop, take_all, drop-cons, take-take, drop-drop, ltb-false, ltb-true, le-ltb, lt-ltb}
use lib.ListN.{length-map}
use borrow.Author.Tests.{lt-leb}
use Rattle.std.specs.Prelude.{if◌then◌else◌}
use Rattle.std.specs.Simd.{first_chunks}
use Rattle.lists.specs.Bytes.{over}
use Rattle.lists.proofs.Parts.{drop-take}
use Rattle.layout.specs.declared.Width.{Width}
use Rattle.layout.specs.declared.Width.TheVariants as W
use Rattle.layout.specs.declared.Underflow.{Underflow}
use Rattle.layout.specs.declared.Underflow.TheVariants as U
use Rattle.layout.specs.declared.Form.{Form}
use Rattle.layout.specs.Form.{width_bytes, underflow_bytes}
use Rattle.table.specs.Writing.{table_of, less_wrapped}
use Rattle.expand.specs.Steps.{Stored}
use Rattle.writer.specs.Storing.{lowered, under_entries, stored_for}
use Rattle.lists.specs.Only.{only}
use Rattle.writer.specs.Blocks.{Room, used_base, put_block, places_after, lowest_plain, highest_plain, plain_range, is_outside, Without}
use Rattle.writer.specs.declared.Places.{Places}
use Rattle.writer.specs.declared.Range.{Range}
use Rattle.lists.proofs.Only.{only-append, take_split}
use Rattle.lists.proofs.Over.{over_none}
use Rattle.writer.proofs.Placing.{stored-append, stored-nil, none}
use Rattle.pixel_counts.proofs.Counting.{block_at}
use Rattle.writer.proofs.Pixel.{Value, one-small, two-small, four-any}

-- a difference modulo 2 ^ 32 is more than the span just where v is outside
pub outside-is : (v low span d : ℕ) → (d + low) % 4294967296 ≡ v → d < 4294967296 → low + span < 4294967296 → ltb span d ≡ (ltb v low || ltb (low + span) v)
outside-is v low span d e h k = go (ltb v low) (ltb (low + span) v) refl refl
  where
    go : (t u : Bool) → ltb v low ≡ t → ltb (low + span) v ≡ u → ltb span d ≡ (t || u)
    go true u p q = let l = ltb-true v low p in lt-ltb span d (omega arith)
    go false true p q = let l = ltb-false v low p in let m = ltb-true (low + span) v q in lt-ltb span d (omega arith)
    go false false p q = let l = ltb-false v low p in let m = ltb-false (low + span) v q in le-ltb span d (omega arith)

pub range-fits : (form : Form) (base : ℕ) → base ≤ 65535 → (lowest_plain form.underflow base ≤ highest_plain form.width base) × (highest_plain form.width base < 4294967296)
range-fits form base h = go form.width form.underflow
  where
    go : (w : Width) (u : Underflow) → (lowest_plain u base ≤ highest_plain w base) × (highest_plain w base < 4294967296)
    go W.One U.None = (omega arith, omega arith)
    go W.One (U.Subtracted e) = (omega arith, omega arith)
    go W.Two U.None = (omega arith, omega arith)
    go W.Two (U.Subtracted e) = (omega arith, omega arith)
    go W.Four U.None = (omega arith, omega arith)
    go W.Four (U.Subtracted e) = (omega arith, omega arith)

pub range_small : (form : Form) (base : ℕ) (k : Range) → k ≡ plain_range form base → base ≤ 65535 → k.low + k.span < 4294967296
range_small form base k e h = let f = range-fits form base h in rw e (omega arith)

-- Elements that do not pass a test, one part after another.
pub without-start : (f : ℕ → Bool) (s : List ℕ) (p : ℕ) → p ≤ length s → Without f s p p
unfolding only
without-start f s p h = let e : p - p ≡ 0 = omega arith in record { from = omega arith; upto = h; none = rw e }

pub without-join : {f : ℕ → Bool} {s : List ℕ} {p q : ℕ} (r : ℕ) → Without f s p q → q ≤ r → r ≤ length s → only f (take (r - q) (drop q s)) ≡ [] → Without f s p r
without-join {f} {s} {p} {q} r a h k e =
    let n : (r - p) - (q - p) ≡ r - q = omega (arith, a.from) in
    let m : p + (q - p) ≡ q = omega (arith, a.from) in
    record {
      from = omega (arith, a.from);
      upto = k;
      none = rw (take_split (q - p) (r - p) (drop p s) (omega arith), only-append, a.none, drop-drop, n, m, e);
    }

pub one_at : (s : List ℕ) (q : ℕ) → q < length s → take ((q + 1) - q) (drop q s) ≡ get_or s q 0 ∷ []
one_at s q h = let n : (q + 1) - q ≡ 1 = omega arith in rw (n, drop-cons s q 0 h)

pub without-one : {f : ℕ → Bool} {s : List ℕ} {p q : ℕ} → Without f s p q → q < length s → f (get_or s q 0) ≡ false → Without f s p (q + 1)
unfolding only
without-one {f} {s} {p} {q} a h e = without-join (q + 1) a (omega arith) (omega arith) (rw (one_at s q h, e))

-- the same of a part that starts at q
pub without-part : {f : ℕ → Bool} {s : List ℕ} {p q : ℕ} (r : ℕ) → Without f s p q → q ≤ r → r ≤ length s → Without f (take (r - q) (drop q s)) 0 (length (take (r - q) (drop q s))) → Without f s p r
without-part {f} {s} {p} {q} r a h k b = without-join r a h k (rw (take_all (length (take (r - q) (drop q s)) - 0) (take (r - q) (drop q s)) (omega arith)) at b.none)

-- the same of a list whose front was looked at
pub without-front : {f : ℕ → Bool} {p q : ℕ} (s : List ℕ) (e : ℕ) → Without f (take e s) p q → e ≤ length s → Without f s p q
without-front {f} {p} {q} s e a h =
    let l : q ≤ e = omega (arith, a.upto, length-take e s) in
    record {
      from = a.from;
      upto = omega arith;
      none = rw (drop-take p e s, take-take (q - p) (e - p) (drop p s) (omega arith)) at a.none;
    }

-- The loop that looks for an element that passes.
pub record Looking (f : ℕ → Bool) (s : List ℕ) (found : Bool) (i : ℕ) : Type 0 where
  pub upto : i ≤ length s
  pub none : found ≡ false → Without f s 0 i

pub looking-start : (f : ℕ → Bool) (s : List ℕ) → Looking f s false 0
looking-start f s = record { upto = omega arith; none = λ e. without-start f s 0 (omega arith) }

pub looking-more : {f : ℕ → Bool} {s : List ℕ} {found : Bool} {i : ℕ} (t : Bool) → Looking f s found i → i < length s → t ≡ f (get_or s i 0) → Looking f s (found || t) (i + 1)
looking-more {f} {s} {found} {i} t a h e = record { upto = omega arith; none = go found t refl refl }
  where
    go : (u v : Bool) → found ≡ u → t ≡ v → (u || v) ≡ false → Without f s 0 (i + 1)
    go true v p q r = absurd (let z : ◌≡◌ {A = Bool} true false = r in let y : ◌≡◌ {A = ℕ} 0 1 = cc in omega arith)
    go false true p q r = absurd (let z : ◌≡◌ {A = Bool} true false = r in let y : ◌≡◌ {A = ℕ} 0 1 = cc in omega arith)
    go false false p q r = without-one (a.none p) h (sym e ∙ q)

pub looking-done : {f : ℕ → Bool} {s : List ℕ} {found : Bool} {i : ℕ} → Looking f s found i → length s ≤ i → found ≡ false → Without f s 0 (length s)
looking-done {f} {s} {found} {i} a h e = let n : i ≡ length s = omega (arith, a.upto) in rw n at (a.none e)

inside : (x : ℕ) (k : Range) → is_outside k x ≡ false → (k.low ≤ x) × (x ≤ k.low + k.span)
inside x k e = go (ltb x k.low) refl e
  where
    go : (t : Bool) → ltb x k.low ≡ t → (t || ltb (k.low + k.span) x) ≡ false → (k.low ≤ x) × (x ≤ k.low + k.span)
    go true p q = absurd (let z : ◌≡◌ {A = Bool} true false = q in let y : ◌≡◌ {A = ℕ} 0 1 = cc in omega arith)
    go false p q = (ltb-false x k.low p, ltb-false (k.low + k.span) x q)

-- A pixel that the kind stores with no entry.
module _ (base x : ℕ) where
  one-under : (u : Underflow) → lowest_plain u base ≤ x → under_entries u base (x ∷ []) ≡ []
  unfolding only
  one-under U.None h = refl
  one-under (U.Subtracted e) h = rw (lt-leb x base (omega arith))

  one-low : (u : Underflow) → base ≡ used_base u base → lowest_plain u base ≤ x → (lowered u base x ≡ x - base) × (base ≤ x)
  one-low U.None e h = (omega arith, omega arith)
  one-low (U.Subtracted k) e h = (rw (lt-leb x base (omega arith)), omega arith)

-- a value that a width stores with no entry
plain_value : (w : Width) (base y : ℕ) → y + base ≤ highest_plain w base → Value w y y [] []
plain_value W.One base y h = one-small y (omega arith)
plain_value W.Two base y h = two-small y (omega arith)
plain_value W.Four base y h = four-any y

-- a run in values: an image and no entry
abbrev pub plain_stored : ℕ → List ℕ → Stored
plain_stored base xs = record { image = map (less_wrapped base) xs; under = []; two = []; four = [] }

module _ (form : Form) (base : ℕ) (used : base ≡ used_base form.underflow base) (low : base ≤ 65535) where
  one_plain : (x : ℕ) → is_outside (plain_range form base) x ≡ false → stored_for form base (x ∷ []) ≡ plain_stored base (x ∷ [])
  unfolding stored_for
  one_plain x e =
      let r = range-fits form base low in
      let i = inside x (plain_range form base) e in
      let l = one-low base x form.underflow used i.0 in
      let v = plain_value form.width base (x - base) (omega (arith, i.1, r.0, l.1)) in
      let d : x - base ≡ less_wrapped base x = omega (arith, i.1, r.0, r.1, l.1) in
      rw (one-under base x form.underflow i.0, l.0, v.two_is, v.four_is, v.image-is, d)

  first_plain : (x : ℕ) (xs : List ℕ) (t : Bool) → is_outside (plain_range form base) x ≡ t → if◌then◌else◌ t (x ∷ only (is_outside (plain_range form base)) xs) (only (is_outside (plain_range form base)) xs) ≡ []
      → (is_outside (plain_range form base) x ≡ false) × (only (is_outside (plain_range form base)) xs ≡ [])
  first_plain x xs true p q = absurd (let z : ◌≡◌ {A = ℕ} 0 1 = cc in omega arith)
  first_plain x xs false p q = (p, q)

  -- no pixel is outside
  pub run-plain : (xs : List ℕ) → only (is_outside (plain_range form base)) xs ≡ [] → stored_for form base xs ≡ plain_stored base xs
  unfolding only none
  run-plain [] e = stored-nil form base
  run-plain (x ∷ xs) e =
      let f = first_plain x xs (is_outside (plain_range form base) x) refl e in
      stored-append form base (x ∷ []) xs ∙ rw (one_plain x f.0, run-plain xs f.1)

  pub run_room : (xs : List ℕ) (at : Places) (n : ℕ) → Room form (stored_for form base xs) at n → at.image + length xs * width_bytes form.width ≤ n
  unfolding stored_for
  run_room xs at n r = rw (length-map, length-map) at r.image

  pub run-places : (xs : List ℕ) (at : Places) → only (is_outside (plain_range form base)) xs ≡ []
      → ◌≡◌ {A = Places} (record { image = at.image + length xs * width_bytes form.width; under = at.under; two = at.two; four = at.four }) (places_after form (stored_for form base xs) at)
  unfolding places_after
  run-places xs at e = rw (run-plain xs e, length-map, zero-mul (underflow_bytes form.underflow), add-zero at.under, add-zero at.two, add-zero at.four)

  pub run-put : (xs out out' : List ℕ) (at : Places) → only (is_outside (plain_range form base)) xs ≡ [] → out' ≡ over at.image (table_of (width_bytes form.width) (map (less_wrapped base) xs)) out
      → out' ≡ put_block form (stored_for form base xs) at out
  unfolding put_block
  run-put xs out out' at e p =
      let z : over at.four [] (over at.two [] (over at.under [] out)) ≡ out = over_none at.four _ ∙ over_none at.two _ ∙ over_none at.under out in
      p ∙ ap (over at.image (table_of (width_bytes form.width) (map (less_wrapped base) xs))) (sym z) ∙ ap (λ (s : Stored). put_block form s at out) (sym (run-plain xs e))

-- an element of the list from p on
pub element_from : (s : List ℕ) (p i : ℕ) → i < length (take (length s - p) (drop p s)) → (get_or (take (length s - p) (drop p s)) i 0 ≡ get_or s (p + i) 0) × (p + i < length s)
element_from s p i h =
    let t : take (length s - p) (drop p s) ≡ drop p s = take_all (length s - p) (drop p s) (simp length-drop (omega arith)) in
    let l : i < length (drop p s) = rw t at h in
    (rw t (get_or-drop p s i 0), omega (arith, length-drop p s))

-- the i-th 16 elements from p on, and where they end
pub block_from : (s : List ℕ) (p i : ℕ) (bs : List (List ℕ)) → p ≤ length s → bs ≡ first_chunks 16 (length (take (length s - p) (drop p s)) / 16) (take (length s - p) (drop p s)) → i < length (take (length s - p) (drop p s)) / 16
    → (get_or bs i [] ≡ take (p + (i + 1) * 16 - (p + i * 16)) (drop (p + i * 16) s)) × (p + (i + 1) * 16 ≤ length s)
block_from s p i bs k e h =
    let t : take (length s - p) (drop p s) ≡ drop p s = take_all (length s - p) (drop p s) (simp length-drop (omega arith)) in
    let b = block_at 16 i [] (take (length s - p) (drop p s)) bs e h in
    let n : p + (i + 1) * 16 - (p + i * 16) ≡ (i + 1) * 16 - i * 16 = omega arith in
    let l : i < length (drop p s) / 16 = rw t at h in
    (b ∙ rw (t, n, drop-drop), omega (arith, length-drop p s))
