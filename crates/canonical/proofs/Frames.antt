-- The parts of a frame that the check looks at, and the check by what it finds in them.
-- Assumes nothing.
use Rattle.canonical.specs.declared.Place.{Place}
use Rattle.canonical.specs.declared.Unlocated.TheVariants.{NotCanonical}
use Rattle.canonical.specs.declared.Unlocated.{Unlocated}
use mathlib.Core.Path.{◌≡◌, refl, sym, ap, ◌∙◌}
use mathlib.Core.Bool.{Bool, true, false}
use mathlib.Core.List.{List}
use Prim.Native.Nat.{ℕ, ◌-◌, ◌*◌, ◌/◌, ◌≤◌}
use native.Mathlib.Nat.{mul-div_cancel}
use native.Mathlib.Omega.{arith}
use lib.ListN.{length, take, drop, length-drop}
use lib.Seq.{length-take-le}
use Rattle.std.specs.Prelude.{if◌then◌else◌, Err, None, Ok, Option, Result, Some}
use Rattle.refusal.specs.declared.Refusal.{Refusal}
use Rattle.layout.specs.declared.EntryWidth.{EntryWidth}
use Rattle.layout.specs.declared.Underflow.TheVariants as U
use Rattle.layout.specs.declared.Underflows.{Underflows}
use Rattle.layout.specs.declared.Underflows.TheVariants as H
use Rattle.layout.specs.declared.Tables.{Tables}
use Rattle.layout.specs.declared.Tables.TheVariants as T
use Rattle.layout.specs.declared.Header.{Header}
use Rattle.layout.specs.declared.Image.{Image}
use Rattle.layout.specs.declared.BinaryTables.{BinaryTables}
use Rattle.layout.specs.declared.Form.{Form}
use Rattle.layout.specs.Form.{width_bytes, entry_bytes}
use Rattle.layout.specs.Layout.{pixel_count, image_end, two_start, four_start, binary_end, underflow_count, underflow_width}
use Rattle.layout.proofs.Laws.{width-pos}
use Rattle.header.specs.Header.{header_of}
use Rattle.header.proofs.Accepted.{accepted-bounds}
use Rattle.table.specs.Table.{all_zero}
use Rattle.table.proofs.Laws.{length-entries}
use Rattle.expand.specs.Steps.{Stored}
use Rattle.expand.specs.Expand.{stored_of, parts_whole}
use Rattle.expand.specs.Places.{places_of}
use Rattle.expand.specs.Blocks.{step_of}
use Rattle.expand.specs.declared.Places.{Places}
use Rattle.expand.proofs.Parts.{between, Inside, inside, parts-there, parts_are, end_is}
use Rattle.expand.proofs.Whole.{tail-is}
use Rattle.header_text.specs.declared.Counts.{Counts}
use Rattle.header_text.specs.Text.{lines_written}
use Rattle.writer.specs.Frame.{stored_counts}
use Rattle.writer.specs.Blocks.{given_baseline}
use Rattle.writer.proofs.Whole.{tables-low}
use Rattle.canonical.specs.Check.{stated_counts, rest_canonical, check_form, kind_form, check_tables, check_header, checked}
use Rattle.canonical.specs.Parts.{parts_stored, FormOf, check_stored}

-- the parts of a frame are whole and lie at p
pub record Found (i : Image) (t : BinaryTables) (held : List ℕ) (p : Places) : Type 0 where
  pub whole : parts_whole held i t ≡ true
  pub at : p ≡ places_of i t

pub found_at : (i : Image) (t : BinaryTables) (held : List ℕ) {p : Places} → parts_whole held i t ≡ true → p ≡ places_of i t → Found i t held p
found_at i t held w e = record { whole = w; at = e }

pub found_of : (i : Image) (t : BinaryTables) (held : List ℕ) {r : (Option Places)} {p : Places} → r ≡ if◌then◌else◌ (parts_whole held i t) (Some (places_of i t)) None → r ≡ Some p → Found i t held p
found_of i t held {r} {p} e q = go (parts_whole held i t) refl e
  where
    go : (b : Bool) → parts_whole held i t ≡ b → r ≡ if◌then◌else◌ b (Some (places_of i t)) None → Found i t held p
    go true w e = record { whole = w; at = cc }
    go false w e = let z : ◌≡◌ {A = ℕ} 0 1 = cc in absurd (omega arith)

pub missing-of : (i : Image) (t : BinaryTables) (held : List ℕ) {r : (Option Places)} → r ≡ if◌then◌else◌ (parts_whole held i t) (Some (places_of i t)) None → r ≡ None → parts_whole held i t ≡ false
missing-of i t held {r} e q = go (parts_whole held i t) refl e
  where
    go : (b : Bool) → parts_whole held i t ≡ b → r ≡ if◌then◌else◌ b (Some (places_of i t)) None → parts_whole held i t ≡ false
    go true w e = let z : ◌≡◌ {A = ℕ} 0 1 = cc in absurd (omega arith)
    go false w e = w

module _ (i : Image) (t : BinaryTables) (held : List ℕ) {p : Places} (f : Found i t held p) where
  pub found_inside : Inside i p (length held)
  found_inside = inside i t f.at (parts-there i t held f.whole).1

  found-start : p.image ≡ i.start
  unfolding places_of
  found-start = ap (λ (q : Places). q.image) f.at

  image-length : length (between p.image p.under.start held) / width_bytes i.width ≡ pixel_count i
  image-length =
      let k = found_inside in
      let d : p.under.start - p.image ≡ pixel_count i * width_bytes i.width = omega (arith, k.image) in
      let l : length (between p.image p.under.start held) ≡ pixel_count i * width_bytes i.width = length-take-le (p.under.start - p.image) (drop p.image held) (rw length-drop (omega arith)) ∙ d in
      rw (l, mul-div_cancel (pixel_count i) (width-pos i.width))

  stated-are : stated_counts t ≡ stored_counts (stored_of held i t)
  unfolding stored_of
  stated-are =
      sym
      (rw
      (length-entries (underflow_width t.underflows) (underflow_count t.underflows) (drop (image_end i) held), length-entries 2 t.two (drop (two_start i t) held), length-entries 4 t.four (drop (four_start i t) held)))

  pixels-are : pixel_count i ≡ length (stored_of held i t).image
  unfolding stored_of
  pixels-are = sym (length-entries _ _ _)

  module _ (form : Form) (k : FormOf form i t) where
    abbrev parts : Stored
    parts =
        parts_stored form (between p.image p.under.start held) (between p.under.start p.under.padding held) (between p.two.start p.two.padding held)
        (between p.four.start p.four.padding held)

    pub stored_is : parts ≡ stored_of held i t
    stored_is = rw (k.width, k.under, image-length) (parts_are i t held f.at refl refl (parts-there i t held f.whole).1)

    pub entries-are : {c : Counts} → c ≡ stated_counts t → c ≡ stored_counts parts
    entries-are e = e ∙ stated-are ∙ sym (ap stored_counts stored_is)

    pub many-are : {n : ℕ} → n ≡ pixel_count i → n ≡ length parts.image
    many-are e = e ∙ pixels-are ∙ sym (ap (λ (s : Stored). length s.image) stored_is)

pub form-missing : (i : Image) (t : BinaryTables) (held : List ℕ) (form : Form) (base pixel : ℕ) → parts_whole held i t ≡ false → (Err NotCanonical) ≡ check_form held i t form base pixel
unfolding check_form
form-missing i t held form base pixel h = rw h

module _ (i : Image) (t : BinaryTables) (held : List ℕ) (form : Form) (base pixel : ℕ) {p : Places} (f : Found i t held p) {c : Counts} {lines : Bool} (ec : c ≡ stated_counts t)
    (el : lines ≡ lines_written form c (take p.image held)) where
  lines_are : lines_written form (stated_counts t) (take i.start held) ≡ lines
  lines_are = sym (el ∙ rw (ec, found-start i t held f))

  pub other-lines : lines ≡ false → (Err NotCanonical) ≡ check_form held i t form base pixel
  unfolding check_form rest_canonical
  other-lines h = rw (f.whole, lines_are, h)

  module _ {tail : Bool} (h : lines ≡ true) (et : tail ≡ all_zero (take (length held - p.four.end) (drop p.four.end held))) where
    tail-are : all_zero (drop (binary_end i t) held) ≡ tail
    tail-are = sym (et ∙ rw (tail-is, end_is i t f.at))

    pub other-tail : tail ≡ false → (Err NotCanonical) ≡ check_form held i t form base pixel
    unfolding check_form rest_canonical
    other-tail k = rw (f.whole, lines_are, h, tail-are, k)

    pub by_parts : {r : (Result Place Unlocated)} → tail ≡ true → r ≡ check_stored i.start form base (stored_of held i t) pixel → r ≡ check_form held i t form base pixel
    unfolding check_form rest_canonical check_stored
    by_parts k er = er ∙ rw (f.whole, lines_are, h, tail-are, k, length-entries (width_bytes i.width) (pixel_count i) (drop i.start held))

-- the check by the underflows that a header states

pub by-unused : (held : List ℕ) (i : Image) (t : BinaryTables) (pixel : ℕ) {u : Underflows} {r : (Result Place Unlocated)} → u ≡ H.Unused → r ≡ check_form held i t (kind_form i.width U.None) 0 pixel
    → r ≡ check_tables held i t u pixel
by-unused held i t pixel q e = rw q e

module _ {u : Underflows} {e : EntryWidth} {n b : ℕ} (q : u ≡ H.Counted e n b) where
  pub counted-low : given_baseline u ≤ 65535 → b ≤ 65535
  counted-low h = rw q at h

  pub counted-width : entry_bytes e ≡ entry_bytes (step_of u).width
  counted-width = rw q

  pub by-counted : (held : List ℕ) (i : Image) (t : BinaryTables) (pixel : ℕ) {r : (Result Place Unlocated)} → r ≡ check_form held i t (kind_form i.width (U.Subtracted e)) b pixel → r ≡ check_tables held i t u pixel
  by-counted held i t pixel d = rw q d

-- the check by a header's answer

pub by-refused : (held : List ℕ) (pixel : ℕ) {a : (Result Header Refusal)} {r : Refusal} → a ≡ header_of held → a ≡ Err r → (Err NotCanonical) ≡ checked held pixel
unfolding checked
by-refused held pixel ea q = rw (← ea, q)

module _ (held : List ℕ) (pixel : ℕ) {a : (Result Header Refusal)} {h : Header} (ea : a ≡ header_of held) (q : a ≡ Ok h) where
  by-header : {r : (Result Place Unlocated)} {tables : Tables} → h.tables ≡ tables → r ≡ check_header held h.image tables pixel → r ≡ checked held pixel
  unfolding checked
  by-header et e = rw (← ea, q) (rw et e)

  pub by-format86 : {n : ℕ} → h.tables ≡ T.Format86 n → (Err NotCanonical) ≡ checked held pixel
  by-format86 et = by-header et refl

  pub by-format100 : {t : BinaryTables} {r : (Result Place Unlocated)} → h.tables ≡ T.Format100 t → r ≡ check_tables held h.image t t.underflows pixel → r ≡ checked held pixel
  by-format100 et e = by-header et e

  pub header-low : {t : BinaryTables} → h.tables ≡ T.Format100 t → given_baseline t.underflows ≤ 65535
  header-low et = rw et at (tables-low h.tables (accepted-bounds held h (sym ea ∙ q)).baseline)
