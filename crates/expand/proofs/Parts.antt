-- The parts of the bytes that are handed to the steps are the parts of the frame.
-- Assumes nothing.
use Rattle.std.proofs.Common.{◌≡◌, ℕ, ◌+◌, ◌-◌, ◌*◌, ◌≤◌, Bool, true, ◌&&◌, leb, List, length, take, drop, refl, ap, ◌∙◌, arith, length-drop, length-take-le, leb-true}
use Rattle.lists.proofs.Tests.{and-true-left, and-true-right}
use Rattle.layout.specs.declared.Image.{Image}
use Rattle.layout.specs.declared.Underflows.{Underflows}
use Rattle.layout.specs.declared.Underflows.TheVariants.{Unused, NoWidth, Counted}
use Rattle.layout.specs.declared.BinaryTables.{BinaryTables}
use Rattle.layout.specs.Form.{width_bytes, entry_bytes}
use Rattle.layout.specs.Layout.{pixel_count, image_bytes, image_end, two_start, four_start, table_bytes, underflow_count, underflow_width, binary_end}
use Rattle.table.specs.Table.{entries, whole_entries}
use Rattle.table.proofs.Laws.{entries-take, whole_part}
use Rattle.expand.specs.Steps.{Stored}
use Rattle.expand.specs.Expand.{stored_of, table_padding_zero, padding_zero, parts_whole, applies_c, baseline_of}
use Rattle.expand.specs.Blocks.{stored, parts_of, step_of, gap_zero, steps_answer, steps_pixels}
use Rattle.expand.specs.Places.{extent_of, places_of}
use Rattle.expand.specs.declared.StepC.{StepC}
use Rattle.expand.specs.declared.Places.{Places}
use Rattle.expand.proofs.Extents.{table-ge, entry-pos}

-- from place a to place e
abbrev pub between : ℕ → ℕ → List ℕ → List ℕ
between a e bytes = take (e - a) (drop a bytes)

-- the parts follow each other within len bytes, and the image's part has its bytes
pub record Inside (i : Image) (p : Places) (len : ℕ) : Type 0 where
  pub image : p.image + image_bytes i ≡ p.under.start
  pub under : p.under.start ≤ p.under.padding
  pub under-padding : p.under.padding ≤ p.under.end
  pub under-end : p.under.end ≡ p.two.start
  pub two : p.two.start ≤ p.two.padding
  pub two-padding : p.two.padding ≤ p.two.end
  pub two-end : p.two.end ≡ p.four.start
  pub four : p.four.start ≤ p.four.padding
  pub four-padding : p.four.padding ≤ p.four.end
  pub end : p.four.end ≤ len

pub inside : (i : Image) (t : BinaryTables) {p : Places} {len : ℕ} → p ≡ places_of i t → binary_end i t ≤ len → Inside i p len
unfolding places_of
inside i t {p} {len} e h =
    let u = table-ge (underflow_width t.underflows) (underflow_count t.underflows) in
    let v = table-ge 2 t.two in
    let w = table-ge 4 t.four in
    rw e
    (record {
      image = refl;
      under = omega arith;
      under-padding = omega arith;
      under-end = refl;
      two = omega arith;
      two-padding = omega arith;
      two-end = refl;
      four = omega arith;
      four-padding = omega arith;
      end = h;
    })

pub image-fits : (i : Image) (t : BinaryTables) {p : Places} {n : ℕ} (bytes : List ℕ) → p ≡ places_of i t → binary_end i t ≤ length bytes → n ≡ pixel_count i
    → n * width_bytes i.width ≤ length (between p.image p.under.start bytes)
image-fits i t {p} {n} bytes e h en =
    let k = inside i t e h in
    rw (en, length-take-le (p.under.start - p.image) (drop p.image bytes) (rw length-drop (omega arith))) (omega arith)

pub end_is : (i : Image) (t : BinaryTables) {p : Places} → p ≡ places_of i t → p.four.end ≡ binary_end i t
unfolding places_of
end_is i t e = ap (λ (p : Places). p.four.end) e

gap_is : (w n s : ℕ) (bytes : List ℕ) → gap_zero (extent_of s w n) bytes ≡ table_padding_zero w n s bytes
unfolding extent_of table_padding_zero
gap_is w n s bytes = let e : s + table_bytes w n - (s + n * w) ≡ table_bytes w n - n * w = omega arith in rw e

pub padding-is : (i : Image) (t : BinaryTables) {p : Places} (bytes : List ℕ) → p ≡ places_of i t
    → (gap_zero p.under bytes && gap_zero p.two bytes && gap_zero p.four bytes) ≡ padding_zero bytes i t
unfolding places_of padding_zero
padding-is i t {p} bytes e = rw (e, gap_is, gap_is, gap_is)

-- the underflow entries, also where no width is stated
under-part : (u : Underflows) (s : ℕ) (bytes : List ℕ) → s + underflow_count u * underflow_width u ≤ length bytes
    → whole_entries (entry_bytes (step_of u).width) (take (s + underflow_count u * underflow_width u - s) (drop s bytes)) ≡ entries (underflow_width u) (underflow_count u) (drop s bytes)
unfolding entries
under-part Unused s bytes h = whole_part 1 0 s bytes (omega arith) h
under-part (NoWidth b) s bytes h = whole_part 1 0 s bytes (omega arith) h
under-part (Counted e n b) s bytes h = whole_part (entry_bytes e) n s bytes (entry-pos e) h

pub applies-is : (u : Underflows) → (step_of u).applies ≡ applies_c u
applies-is Unused = refl
applies-is (NoWidth b) = refl
applies-is (Counted e n b) = refl

pub baseline-is : (u : Underflows) → (step_of u).baseline ≡ baseline_of u
baseline-is Unused = refl
baseline-is (NoWidth b) = refl
baseline-is (Counted e n b) = refl

stored_is : {a a' b b' c c' d d' : List ℕ} → a ≡ a' → b ≡ b' → c ≡ c' → d ≡ d' → stored a b c d ≡ stored a' b' c' d'
stored_is p q r s = rw (p, q, r, s)

-- the parts that lie at p
abbrev pub parts_at : Image → StepC → ℕ → Places → List ℕ → Stored
parts_at i c n p bytes =
    parts_of (width_bytes i.width) (entry_bytes c.width) n (between p.image p.under.start bytes) (between p.under.start p.under.padding bytes)
    (between p.two.start p.two.padding bytes)
    (between p.four.start p.four.padding bytes)

pub parts_are : (i : Image) (t : BinaryTables) {p : Places} {c : StepC} {n : ℕ} (bytes : List ℕ) → p ≡ places_of i t → c ≡ step_of t.underflows → n ≡ pixel_count i
    → binary_end i t ≤ length bytes → parts_at i c n p bytes ≡ stored_of bytes i t
unfolding stored_of places_of
parts_are i t {p} {c} {n} bytes ep ec en h =
    let u = table-ge (underflow_width t.underflows) (underflow_count t.underflows) in
    let v = table-ge 2 t.two in
    let w = table-ge 4 t.four in
    rw (ep, ec, en)
    (stored_is
    (entries-take (width_bytes i.width) (pixel_count i) (image_end i - i.start) (drop i.start bytes) (omega arith))
    (under-part t.underflows (image_end i) bytes (omega arith))
    (whole_part 2 t.two (two_start i t) bytes (omega arith) (omega arith))
    (whole_part 4 t.four (four_start i t) bytes (omega arith) (omega arith)))

same_answer : (w : ℕ) {a a' : Bool} {b b' e e' : ℕ} {s s' : Stored} → a ≡ a' → b ≡ b' → e ≡ e' → s ≡ s' → steps_answer w a b e s ≡ steps_answer w a' b' e' s'
same_answer w p q r s = rw (p, q, r, s)

same-pixels : (w : ℕ) {a a' : Bool} {b b' n n' : ℕ} {s s' : Stored} → a ≡ a' → b ≡ b' → n ≡ n' → s ≡ s' → steps_pixels w a b n s ≡ steps_pixels w a' b' n' s'
same-pixels w p q r s = rw (p, q, r, s)

module _ (i : Image) (t : BinaryTables) {p : Places} {c : StepC} {n : ℕ} (bytes : List ℕ) (ep : p ≡ places_of i t) (ec : c ≡ step_of t.underflows) (en : n ≡ pixel_count i)
    (h : binary_end i t ≤ length bytes) where
  pub answer-is : steps_answer (width_bytes i.width) c.applies c.baseline p.four.end (parts_at i c n p bytes)
      ≡ steps_answer (width_bytes i.width) (applies_c t.underflows) (baseline_of t.underflows) (binary_end i t) (stored_of bytes i t)
  answer-is =
      same_answer (width_bytes i.width) (ap (λ (x : StepC). x.applies) ec ∙ applies-is t.underflows) (ap (λ (x : StepC). x.baseline) ec ∙ baseline-is t.underflows) (end_is i t ep)
      (parts_are i t bytes ep ec en h)

  pub pixels-are : steps_pixels (width_bytes i.width) c.applies c.baseline n (parts_at i c n p bytes)
      ≡ steps_pixels (width_bytes i.width) (applies_c t.underflows) (baseline_of t.underflows) (pixel_count i) (stored_of bytes i t)
  pixels-are =
      same-pixels (width_bytes i.width) (ap (λ (x : StepC). x.applies) ec ∙ applies-is t.underflows) (ap (λ (x : StepC). x.baseline) ec ∙ baseline-is t.underflows) en
      (parts_are i t bytes ep ec en h)

-- the parts lie within the bytes
pub parts-there : (i : Image) (t : BinaryTables) (bytes : List ℕ) → parts_whole bytes i t ≡ true → (pixel_count i ≤ 4294967296) × (binary_end i t ≤ length bytes)
unfolding parts_whole
parts-there i t bytes h =
    let a : Bool = leb (pixel_count i) 4294967296 in
    let b : Bool = leb (binary_end i t) (length bytes) in
    let q : (a && b) ≡ true = and-true-left (a && b) (padding_zero bytes i t) h in
    (leb-true _ _ (and-true-left a b q), leb-true _ _ (and-true-right a b q))
