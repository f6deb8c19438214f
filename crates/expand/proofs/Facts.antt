-- What an accepted frame of FORMAT 100 is: theorems on the definitions of specs/Expand.antt.
-- Assumes nothing.
use Rattle.std.proofs.Common.{◌≡◌, ℕ, ◌+◌, ◌-◌, ◌*◌, ◌≤◌, Bool, true, false, not, ◌&&◌, eqb, ltb, ◌↔◌, List, ◌++◌, length, take, drop, sym, refl, ap, ◌∙◌, arith, length-append, length-drop, length-take, take-take, drop_at, ltb-false, le-ltb, eqb-true}
use lib.ListN.{length-replicate}
use borrow.Author.Tests.{not-false}
use Rattle.std.specs.Prelude.{if◌then◌else◌, Err, Ok, Result, ℕ}
use Rattle.lists.specs.Bytes.{zeros}
use Rattle.refusal.specs.declared.Refusal.{Refusal}
use Rattle.refusal.specs.declared.Refusal.TheVariants as R
use Rattle.layout.specs.declared.Image.{Image}
use Rattle.layout.specs.declared.BinaryTables.{BinaryTables}
use Rattle.layout.specs.Form.{width_bytes}
use Rattle.layout.specs.Layout.{pixel_count, image_end, two_start, four_start, table_bytes, underflow_count, underflow_width, binary_end}
use Rattle.table.specs.Table.{entries, all_zero}
use Rattle.lists.proofs.Parts.{drop-take}
use Rattle.table.proofs.Laws.{length-entries, entries-take}
use Rattle.expand.specs.Steps.{taken_a, taken_b, taken_c, exhausted, applies_a, applies_b, after_a, after_b}
use Rattle.expand.specs.Expand.{stored_of, table_padding_zero, padding_zero, applies_c, tables_exhausted, baseline_too_large, frame_pixels, binary_answer, binary_pixels, baseline_of, first_pixels}
use Rattle.expand.proofs.Steps.{no, length-fill_if}
use Rattle.expand.proofs.Extents.{table-ge}

-- None of 10, 11, 12, 14 and 15 is due, and the frame ends at end.
pub record Accepted (bytes : List ℕ) (i : Image) (t : BinaryTables) (places end : ℕ) : Type 0 where
  pub room : pixel_count i ≤ places
  pub whole : binary_end i t ≤ length bytes
  pub padding : padding_zero bytes i t ≡ true
  pub used : tables_exhausted bytes i t ≡ true
  pub fits : baseline_too_large bytes i t ≡ false
  pub end_is : binary_end i t ≡ end

not-refused : {r : Refusal} {end : ℕ} → Err r ≡ Ok end → ⊥
not-refused e = let z : ◌≡◌ {A = ℕ} 0 1 = cc in omega arith

-- a test that does not refuse is false
passed : (test : Bool) (r : Refusal) (rest : Result ℕ Refusal) (end : ℕ) → if◌then◌else◌ test (Err r) rest ≡ Ok end → (test ≡ false) × (rest ≡ Ok end)
passed true r rest end e = absurd (not-refused e)
passed false r rest end e = (refl, e)

same_end : {a b : ℕ} → ◌≡◌ {A = Result ℕ Refusal} (Ok a) (Ok b) → a ≡ b
same_end e = cc

-- a frame is accepted exactly when none of 10, 11, 12, 14 and 15 is due
pub accepted-iff : (bytes : List ℕ) (i : Image) (t : BinaryTables) (places end : ℕ) → (binary_answer bytes i t places ≡ Ok end) ↔ Accepted bytes i t places end
unfolding binary_answer
accepted-iff bytes i t places end = (forward, backward)
  where
    forward : binary_answer bytes i t places ≡ Ok end → Accepted bytes i t places end
    forward e =
        let a = passed (ltb places (pixel_count i)) R.PixelArrayShort _ end e in
        let b = passed (ltb (length bytes) (binary_end i t)) R.DataTruncated _ end a.1 in
        let c = passed (not (padding_zero bytes i t)) R.PaddingNotZero _ end b.1 in
        let d = passed (not (tables_exhausted bytes i t)) R.CountMismatch _ end c.1 in
        let f = passed (baseline_too_large bytes i t) R.SumTooLarge _ end d.1 in
        record {
          room = ltb-false places (pixel_count i) a.0;
          whole = ltb-false (length bytes) (binary_end i t) b.0;
          padding = not-false (padding_zero bytes i t) c.0;
          used = not-false (tables_exhausted bytes i t) d.0;
          fits = f.0;
          end_is = same_end f.1;
        }

    backward : Accepted bytes i t places end → binary_answer bytes i t places ≡ Ok end
    backward a =
        rw (le-ltb places (pixel_count i) a.room, le-ltb (length bytes) (binary_end i t) a.whole, a.padding, a.used, a.fits, a.end_is)

both : (a b : Bool) → (a && b) ≡ true → (a ≡ true) × (b ≡ true)
both true b e = (refl, e)
both false b e = absurd (no (sym e))

-- Each step of an accepted frame takes exactly the stated number of entries.
pub record StatedTaken (bytes : List ℕ) (i : Image) (t : BinaryTables) : Type 0 where
  pub two : taken_a (width_bytes i.width) (stored_of bytes i t) ≡ t.two
  pub four : taken_b (width_bytes i.width) (stored_of bytes i t) ≡ t.four
  pub under : taken_c (width_bytes i.width) (applies_c t.underflows) (stored_of bytes i t) ≡ underflow_count t.underflows

pub accepted-exhausted : (bytes : List ℕ) (i : Image) (t : BinaryTables) (places end : ℕ) → binary_answer bytes i t places ≡ Ok end → StatedTaken bytes i t
unfolding exhausted stored_of
accepted-exhausted bytes i t places end e =
    let a = (accepted-iff bytes i t places end).0 e in
    let s = stored_of bytes i t in
    let w = width_bytes i.width in
    let x = both (eqb (taken_a w s) (length s.two) && eqb (taken_b w s) (length s.four)) (eqb (taken_c w (applies_c t.underflows) s) (length s.under)) a.used in
    let y = both (eqb (taken_a w s) (length s.two)) (eqb (taken_b w s) (length s.four)) x.0 in
    record {
      two = eqb-true _ _ y.0 ∙ length-entries 2 t.two (drop (two_start i t) bytes);
      four = eqb-true _ _ y.1 ∙ length-entries 4 t.four (drop (four_start i t) bytes);
      under = eqb-true _ _ x.1 ∙ length-entries (underflow_width t.underflows) (underflow_count t.underflows) (drop (image_end i) bytes);
    }

-- bytes past the end do not matter

-- two lists of bytes agree up to e
abbrev pub Agree : ℕ → List ℕ → List ℕ → Type 0
Agree e bytes' bytes = take e bytes' ≡ take e bytes

window : (e s k : ℕ) (bytes : List ℕ) → s + k ≤ e → take k (drop s (take e bytes)) ≡ take k (drop s bytes)
window e s k bytes h = rw (drop-take s e bytes, take-take k (e - s) (drop s bytes) (omega arith))

window_same : (e s k : ℕ) (bytes bytes' : List ℕ) → s + k ≤ e → Agree e bytes' bytes → take k (drop s bytes') ≡ take k (drop s bytes)
window_same e s k bytes bytes' h same = sym (window e s k bytes' h) ∙ ap (λ (l : List ℕ). take k (drop s l)) same ∙ window e s k bytes h

entries-same : (e w n s : ℕ) (bytes bytes' : List ℕ) → s + n * w ≤ e → Agree e bytes' bytes → entries w n (drop s bytes') ≡ entries w n (drop s bytes)
entries-same e w n s bytes bytes' h same =
    sym (entries-take w n (n * w) (drop s bytes') (omega arith)) ∙ ap (entries w n) (window_same e s (n * w) bytes bytes' h same) ∙ entries-take w n (n * w) (drop s bytes) (omega arith)

module _ (bytes bytes' : List ℕ) (i : Image) (t : BinaryTables) (same : Agree (binary_end i t) bytes' bytes) where
  stored_same : stored_of bytes' i t ≡ stored_of bytes i t
  unfolding stored_of
  stored_same =
      let e = binary_end i t in
      let uw = underflow_width t.underflows in
      let n = underflow_count t.underflows in
      let u = table-ge uw n in
      let v = table-ge 2 t.two in
      let w = table-ge 4 t.four in
      rw
      (entries-same e (width_bytes i.width) (pixel_count i) i.start bytes bytes' (omega arith) same, entries-same e uw n (image_end i) bytes bytes' (omega arith) same, entries-same e 2 t.two (two_start i t) bytes bytes' (omega arith) same, entries-same e 4 t.four (four_start i t) bytes bytes' (omega arith) same)

  gap_same : (w n s : ℕ) → s + table_bytes w n ≤ binary_end i t → table_padding_zero w n s bytes' ≡ table_padding_zero w n s bytes
  unfolding table_padding_zero
  gap_same w n s h =
      let g = table-ge w n in
      ap all_zero (window_same (binary_end i t) (s + n * w) (table_bytes w n - n * w) bytes bytes' (omega arith) same)

  padding-same : padding_zero bytes' i t ≡ padding_zero bytes i t
  unfolding padding_zero
  padding-same =
      rw
      (gap_same (underflow_width t.underflows) (underflow_count t.underflows) (image_end i) (omega arith), gap_same 2 t.two (two_start i t) (omega arith), gap_same 4 t.four (four_start i t) (omega arith))

  long : binary_end i t ≤ length bytes → binary_end i t ≤ length bytes'
  long h = let l = ap length same in omega (arith, length-take (binary_end i t) bytes', length-take (binary_end i t) bytes)

accepted-pixels : (bytes : List ℕ) (i : Image) (t : BinaryTables) (end : ℕ) (pixels : List ℕ) → Accepted bytes i t (length pixels) end → binary_pixels bytes i t pixels ≡ frame_pixels bytes i t ++ drop (pixel_count i) pixels
unfolding binary_pixels
accepted-pixels bytes i t end pixels a =
    rw (le-ltb (length pixels) (pixel_count i) a.room, le-ltb (length bytes) (binary_end i t) a.whole, a.padding, a.used, a.fits)

-- an accepted frame's answer and pixels do not depend on bytes past its end
pub accepted-local : (bytes bytes' : List ℕ) (i : Image) (t : BinaryTables) (pixels : List ℕ) (end : ℕ) → binary_answer bytes i t (length pixels) ≡ Ok end → take end bytes' ≡ take end bytes
    → (binary_answer bytes' i t (length pixels) ≡ Ok end) × (binary_pixels bytes' i t pixels ≡ binary_pixels bytes i t pixels)
accepted-local bytes bytes' i t pixels end e same =
    let a = (accepted-iff bytes i t (length pixels) end).0 e in
    let s : Agree (binary_end i t) bytes' bytes = rw a.end_is same in
    let q = stored_same bytes bytes' i t s in
    let b : Accepted bytes' i t (length pixels) end
    = record {
      room = a.room;
      whole = long bytes bytes' i t s a.whole;
      padding = padding-same bytes bytes' i t s ∙ a.padding;
      used = rw q a.used;
      fits = rw q a.fits;
      end_is = a.end_is;
    } in
    ((accepted-iff bytes' i t (length pixels) end).1 b, accepted-pixels bytes' i t end pixels b ∙ rw q (sym (accepted-pixels bytes i t end pixels a)))

-- the array keeps its length, and its places past N what stood there

length-choice : (test : Bool) (n : ℕ) (xs ys : List ℕ) → length xs ≡ n → length ys ≡ n → length (if◌then◌else◌ test xs ys) ≡ n
length-choice true n xs ys e f = e
length-choice false n xs ys e f = f

pub first-length : (bytes : List ℕ) (i : Image) (t : BinaryTables) → length (first_pixels bytes i t) ≡ pixel_count i
unfolding stored_of
first-length bytes i t =
    let n = pixel_count i in
    let w = width_bytes i.width in
    let s = stored_of bytes i t in
    let z : length (zeros n) ≡ n = length-replicate n 0 in
    let a = length-fill_if (applies_a w) 255 _ s.image s.two ∙ length-entries w n (drop i.start bytes) in
    let b = length-fill_if (applies_b w) 65535 _ (after_a w s) s.four ∙ a in
    let c = length-fill_if (applies_c t.underflows) 0 (λ (x : ℕ). x + baseline_of t.underflows) (after_b w s) s.under ∙ b in
    length-choice (not (padding_zero bytes i t)) n _ _ z
    (length-choice (not (tables_exhausted bytes i t)) n _ _ z
    (length-choice (baseline_too_large bytes i t) n _ _ z c))

-- pixel places past N are never written
pub past-kept : (bytes : List ℕ) (i : Image) (t : BinaryTables) (pixels : List ℕ) → drop (pixel_count i) (binary_pixels bytes i t pixels) ≡ drop (pixel_count i) pixels
unfolding binary_pixels
past-kept bytes i t pixels = go (ltb (length pixels) (pixel_count i)) (ltb (length bytes) (binary_end i t))
  where
    n : ℕ
    n = pixel_count i

    go : (short cut : Bool) → drop n (if◌then◌else◌ short pixels (if◌then◌else◌ cut pixels (first_pixels bytes i t ++ drop n pixels))) ≡ drop n pixels
    go true cut = refl
    go false true = refl
    go false false = drop_at (first_pixels bytes i t) (drop n pixels) n (first-length bytes i t)

pub length-kept : (bytes : List ℕ) (i : Image) (t : BinaryTables) (pixels : List ℕ) → length (binary_pixels bytes i t pixels) ≡ length pixels
unfolding binary_pixels
length-kept bytes i t pixels = go (ltb (length pixels) (pixel_count i)) (ltb (length bytes) (binary_end i t)) refl
  where
    n : ℕ
    n = pixel_count i

    go : (short cut : Bool) → ltb (length pixels) n ≡ short → length (if◌then◌else◌ short pixels (if◌then◌else◌ cut pixels (first_pixels bytes i t ++ drop n pixels))) ≡ length pixels
    go true cut e = refl
    go false true e = refl
    go false false e =
        let h = ltb-false (length pixels) n e in
        simp (length-append, length-drop) (omega (arith, first-length bytes i t))
