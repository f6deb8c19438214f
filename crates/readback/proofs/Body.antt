-- The body of a written frame, behind a header of any bytes and before any others, is expanded to the pixels.
-- Assumes nothing.
use mathlib.Core.Path.{◌≡◌, refl, ap, ◌∙◌}
use mathlib.Core.Bool.{Bool, true, false, not}
use mathlib.Core.List.{List, ◌++◌, append_assoc}
use Prim.Native.Nat.{ℕ, ◌+◌, ◌*◌, ◌^◌, ◌≤◌}
use native.Mathlib.Omega.{arith}
use lib.ListN.{length, drop, length-append}
use lib.Seq.{drop_at}
use lib.Dec.{ltb}
use Rattle.std.specs.Prelude.{if◌then◌else◌, Ok}
use borrow.Author.Tests.{le-ltb}
use Rattle.layout.specs.declared.Underflow.{Underflow}
use Rattle.layout.specs.declared.Underflow.TheVariants as U
use Rattle.layout.specs.declared.Image.{Image}
use Rattle.layout.specs.declared.BinaryTables.{BinaryTables}
use Rattle.layout.specs.declared.Form.{Form}
use Rattle.layout.specs.Form.{width_bytes, underflow_bytes}
use Rattle.layout.specs.Layout.{table_bytes, underflow_count, underflow_width, image_end, two_start, four_start, binary_end}
use Rattle.table.specs.Table.{entries}
use Rattle.table.specs.Writing.{table_of, padded_table}
use Rattle.expand.specs.Steps.{Stored, after_c, exhausted, sums_too_large}
use Rattle.expand.specs.Expand.{stored_of, padding_zero, table_padding_zero, applies_c, baseline_of, binary_answer, binary_pixels}
use Rattle.writer.specs.Storing.{stored_for, under_entries}
use Rattle.writer.specs.Frame.{body_bytes}
use Rattle.readback.specs.Written.{underflows_for, image_for, tables_for}
use Rattle.readback.proofs.Storing.{Below, all_three, subtracts, steps_back, all-taken, sums-fit, image-fits, two_fits, four-fits, image-count}
use Rattle.readback.proofs.Tables.{entries-table, length-table, length-padded, entries-padded, padding-zero}

width_is : (u : Underflow) (b n : ℕ) → underflow_width (underflows_for u b n) ≡ underflow_bytes u
width_is U.None b n = refl
width_is (U.Subtracted e) b n = refl

pub count-is : (u : Underflow) (b : ℕ) (vs : List ℕ) → underflow_count (underflows_for u b (length (under_entries u b vs))) ≡ length (under_entries u b vs)
count-is U.None b vs = refl
count-is (U.Subtracted e) b vs = refl

-- step c of the frame is that of the form
after_same : (u : Underflow) (b n w : ℕ) (s : Stored) → after_c w (applies_c (underflows_for u b n)) (baseline_of (underflows_for u b n)) s ≡ after_c w (subtracts u) b s
after_same U.None b n w s = refl
after_same (U.Subtracted e) b n w s = refl

taken-same : (u : Underflow) (b n w : ℕ) (s : Stored) → exhausted w (applies_c (underflows_for u b n)) s ≡ exhausted w (subtracts u) s
taken-same U.None b n w s = refl
taken-same (U.Subtracted e) b n w s = refl

sums_same : (u : Underflow) (b n w : ℕ) (s : Stored)
    → sums_too_large w (applies_c (underflows_for u b n)) (baseline_of (underflows_for u b n)) s ≡ sums_too_large w (subtracts u) b s
sums_same U.None b n w s = refl
sums_same (U.Subtracted e) b n w s = refl

-- the parts of the body, one after the other
abbrev image_of : Form → Stored → List ℕ
image_of form s = table_of (width_bytes form.width) s.image

abbrev under_of : Form → Stored → List ℕ
under_of form s = padded_table (underflow_bytes form.underflow) s.under

module _ (form : Form) (s : Stored) (A Z : List ℕ) where
  body_is : body_bytes form s ≡ image_of form s ++ (under_of form s ++ (padded_table 2 s.two ++ padded_table 4 s.four))
  unfolding body_bytes
  body_is = refl

  from-image : A ++ (body_bytes form s ++ Z) ≡ A ++ (image_of form s ++ (under_of form s ++ (padded_table 2 s.two ++ (padded_table 4 s.four ++ Z))))
  unfolding body_bytes
  from-image = simp append_assoc

  from-under : A ++ (body_bytes form s ++ Z) ≡ (A ++ image_of form s) ++ (under_of form s ++ (padded_table 2 s.two ++ (padded_table 4 s.four ++ Z)))
  unfolding body_bytes
  from-under = simp append_assoc

  from-two : A ++ (body_bytes form s ++ Z) ≡ (A ++ (image_of form s ++ under_of form s)) ++ (padded_table 2 s.two ++ (padded_table 4 s.four ++ Z))
  unfolding body_bytes
  from-two = simp append_assoc

  from-four : A ++ (body_bytes form s ++ Z) ≡ (A ++ (image_of form s ++ (under_of form s ++ padded_table 2 s.two))) ++ (padded_table 4 s.four ++ Z)
  unfolding body_bytes
  from-four = simp append_assoc

  pub length-body : length (body_bytes form s)
      ≡ length s.image * width_bytes form.width + table_bytes (underflow_bytes form.underflow) (length s.under) + table_bytes 2 (length s.two) + table_bytes 4 (length s.four)
  length-body = rw body_is (simp (length-append, length-table, length-padded) (omega arith))

-- the answer where no refusal is due
reached : {A : Type 0} (a b c d e : Bool) (x₁ x₂ x₃ x₄ x₅ y : A) → a ≡ false → b ≡ false → c ≡ true → d ≡ true → e ≡ false
    → if◌then◌else◌ a x₁ (if◌then◌else◌ b x₂ (if◌then◌else◌ (not c) x₃ (if◌then◌else◌ (not d) x₄ (if◌then◌else◌ e x₅ y)))) ≡ y
reached a b c d e x₁ x₂ x₃ x₄ x₅ y p q r s t = rw (p, q, r, s, t)

reached-pixels : (a b c d e : Bool) (x px rest z : List ℕ) → a ≡ false → b ≡ false → c ≡ true → d ≡ true → e ≡ false
    → if◌then◌else◌ a px (if◌then◌else◌ b px (if◌then◌else◌ (not c) x (if◌then◌else◌ (not d) x (if◌then◌else◌ e x z)) ++ rest)) ≡ z ++ rest
reached-pixels a b c d e x px rest z p q r s t = rw (p, q, r, s, t)

-- the places of the parts, in the numbers of the header
module _ (form : Form) (b rows columns : ℕ) (vs A Z : List ℕ) (all : rows * columns ≡ length vs) where
  abbrev s : Stored
  s = stored_for form b vs

  abbrev i : Image
  i = image_for form (length A) rows columns

  abbrev t : BinaryTables
  t = tables_for form b s

  abbrev bytes : List ℕ
  bytes = A ++ (body_bytes form s ++ Z)

  under-width : underflow_width t.underflows ≡ underflow_bytes form.underflow
  under-width = width_is form.underflow b _

  under-number : underflow_count t.underflows ≡ length s.under
  unfolding stored_for
  under-number = count-is form.underflow b vs

  under-bytes : table_bytes (underflow_width t.underflows) (underflow_count t.underflows) ≡ table_bytes (underflow_bytes form.underflow) (length s.under)
  under-bytes = rw (under-width, under-number)

  under_at : length (A ++ image_of form s) ≡ image_end i
  under_at = rw (length-append, length-table, all, image-count form b vs)

  two_at : length (A ++ (image_of form s ++ under_of form s)) ≡ two_start i t
  two_at = rw (length-append, length-append, length-table, length-padded, under-bytes, all, image-count form b vs) (omega arith)

  four-at : length (A ++ (image_of form s ++ (under_of form s ++ padded_table 2 s.two))) ≡ four_start i t
  four-at = simp (length-append, length-table, length-padded, under-bytes, all, image-count form b vs) (omega arith)

  pub end-at : length A + length (body_bytes form s) ≡ binary_end i t
  end-at = simp (length-body form s A Z, under-bytes, all, image-count form b vs) (omega arith)

  module _ (fits : Below 4294967296 vs) (under-fits : Below (256 ^ underflow_bytes form.underflow) s.under) where
    image-read : entries (width_bytes form.width) (rows * columns) (drop (length A) bytes) ≡ s.image
    image-read =
        rw (from-image form s A Z, drop_at A _ (length A) refl, all, ← image-count form b vs)
        (entries-table (width_bytes form.width) s.image _ (image-fits form b vs fits))

    abbrev four_tail : List ℕ
    four_tail = padded_table 4 s.four ++ Z

    abbrev two_tail : List ℕ
    two_tail = padded_table 2 s.two ++ four_tail

    under-read : entries (underflow_width t.underflows) (underflow_count t.underflows) (drop (image_end i) bytes) ≡ s.under
    under-read =
        rw (from-under form s A Z, under-width, under-number)
        (entries-padded (underflow_bytes form.underflow) (A ++ image_of form s) s.under two_tail (image_end i) under_at under-fits)

    two-read : entries 2 t.two (drop (two_start i t) bytes) ≡ s.two
    two-read =
        rw (from-two form s A Z)
        (entries-padded 2 (A ++ (image_of form s ++ under_of form s)) s.two four_tail (two_start i t) two_at (two_fits form b vs fits))

    four-read : entries 4 t.four (drop (four_start i t) bytes) ≡ s.four
    four-read =
        rw (from-four form s A Z)
        (entries-padded 4 (A ++ (image_of form s ++ (under_of form s ++ padded_table 2 s.two))) s.four Z (four_start i t) four-at (four-fits form b vs fits))

    pub stored-read : stored_of bytes i t ≡ s
    unfolding stored_of
    stored-read = λ k. record { image = image-read k; under = under-read k; two = two-read k; four = four-read k }

    under-zero : table_padding_zero (underflow_width t.underflows) (underflow_count t.underflows) (image_end i) bytes ≡ true
    under-zero =
        rw (from-under form s A Z, under-width, under-number)
        (padding-zero (underflow_bytes form.underflow) (A ++ image_of form s) s.under two_tail (image_end i) under_at)

    two-zero : table_padding_zero 2 t.two (two_start i t) bytes ≡ true
    two-zero = rw (from-two form s A Z) (padding-zero 2 (A ++ (image_of form s ++ under_of form s)) s.two four_tail (two_start i t) two_at)

    four-zero : table_padding_zero 4 t.four (four_start i t) bytes ≡ true
    four-zero =
        rw (from-four form s A Z)
        (padding-zero 4 (A ++ (image_of form s ++ (under_of form s ++ padded_table 2 s.two))) s.four Z (four_start i t) four-at)

    padding-read : padding_zero bytes i t ≡ true
    unfolding padding_zero
    padding-read = all_three _ _ _ under-zero two-zero four-zero

    taken-read : exhausted (width_bytes form.width) (applies_c t.underflows) (stored_of bytes i t) ≡ true
    taken-read = rw (stored-read, taken-same form.underflow b) (all-taken form b vs)

    sums-read : sums_too_large (width_bytes form.width) (applies_c t.underflows) (baseline_of t.underflows) (stored_of bytes i t) ≡ false
    sums-read = rw (stored-read, sums_same form.underflow b) (sums-fit form b vs fits)

    pixels-read : after_c (width_bytes form.width) (applies_c t.underflows) (baseline_of t.underflows) (stored_of bytes i t) ≡ vs
    pixels-read = rw (stored-read, after_same form.underflow b) (steps_back form b vs)

    enough : binary_end i t ≤ length bytes
    enough = rw (length-append, length-append) (omega (arith, end-at))

    -- the answer is the frame's end
    pub body-answer : (places : ℕ) → length vs ≤ places → binary_answer bytes i t places ≡ Ok (binary_end i t)
    unfolding binary_answer
    body-answer places h =
        let room : ltb places (rows * columns) ≡ false = le-ltb places (rows * columns) (rw all h) in
        let whole : ltb (length bytes) (binary_end i t) ≡ false = le-ltb (length bytes) (binary_end i t) enough in
        reached _ _ _ _ _ _ _ _ _ _ (Ok (binary_end i t)) room whole padding-read taken-read sums-read

    -- and the pixels come first in the array
    pub body-pixels : (px : List ℕ) → length vs ≤ length px → binary_pixels bytes i t px ≡ vs ++ drop (length vs) px
    unfolding binary_pixels
    body-pixels px h =
        let room : ltb (length px) (rows * columns) ≡ false = le-ltb (length px) (rows * columns) (rw all h) in
        let whole : ltb (length bytes) (binary_end i t) ≡ false = le-ltb (length bytes) (binary_end i t) enough in
        let first = reached-pixels _ _ _ _ _ _ px (drop (rows * columns) px) _ room whole padding-read taken-read sums-read in
        first ∙ ap (λ (l : List ℕ). l ++ drop (rows * columns) px) pixels-read ∙ ap (λ (n : ℕ). vs ++ drop n px) all
