-- The check of a held frame decides refusal 19, and finds a pixel's place.
-- Assumes nothing.
use Rattle.canonical.specs.declared.Place.{Place}
use Rattle.canonical.specs.declared.Unlocated.TheVariants.{NoPixel}
use Rattle.canonical.specs.declared.Unlocated.TheVariants.{NotCanonical}
use Rattle.canonical.specs.declared.Unlocated.{Unlocated}
use Rattle.refusal.specs.declared.Refusal.{Refusal}
use mathlib.Core.Path.{◌≡◌, refl, sym, ap, subst, ◌∙◌}
use mathlib.Core.Bool.{Bool, true, false, not, ◌&&◌}
use mathlib.Core.List.{List, [], ◌∷◌, ◌++◌}
use Prim.Native.Nat.{ℕ, ◌-◌, ◌*◌, ◌^◌, ◌≤◌, ◌<◌}
use native.Mathlib.Nat.{mul-le-mul_left, mul-le-mul_right}
use native.Mathlib.Omega.{arith}
use borrow.Author.Tests.{le-leb, leb-true, leb-false, le-ltb, ltb-false}
use lib.Dec.{leb}
use lib.ListN.{length, take, drop, get_or}
use lib.Seq.{take_at, drop_at, length-take-le}
use Rattle.std.specs.Prelude.{if◌then◌else◌, Err, None, Ok, Option, Result, Some}
use Rattle.lists.specs.Bytes.{zeros, held_bytes, same_bytes}
use Rattle.lists.proofs.Tests.{and-true-left, and-true-right}
use Rattle.lists.proofs.Same.{same_refl}
use Rattle.refusal.specs.declared.Refusal.TheVariants as R
use Rattle.layout.specs.declared.Width.{Width}
use Rattle.layout.specs.declared.EntryWidth.TheVariants as E
use Rattle.layout.specs.declared.Underflow.{Underflow}
use Rattle.layout.specs.declared.Underflow.TheVariants as U
use Rattle.layout.specs.declared.Underflows.{Underflows}
use Rattle.layout.specs.declared.Underflows.TheVariants as H
use Rattle.layout.specs.declared.Image.{Image}
use Rattle.layout.specs.declared.BinaryTables.{BinaryTables}
use Rattle.layout.specs.declared.Tables.{Tables}
use Rattle.layout.specs.declared.Tables.TheVariants as T
use Rattle.layout.specs.declared.Form.{Form}
use Rattle.layout.specs.declared.Header.{Header}
use Rattle.layout.specs.Form.{width_bytes, underflow_bytes}
use Rattle.layout.specs.Layout.{pixel_count, image_end, two_start, four_start, underflow_count, underflow_width, binary_end}
use Rattle.header.specs.Header.{header_of}
use Rattle.header.proofs.Accepted.{BaselineGood, TablesGood, AcceptedBounds, accepted-bounds}
use Rattle.table.specs.Table.{all_zero}
use Rattle.table.proofs.Laws.{length-entries}
use Rattle.expand.specs.Steps.{Stored, after_c, exhausted, sums_too_large}
use Rattle.expand.specs.Expand.{stored_of, padding_zero, parts_whole, applies_c, baseline_of, tables_exhausted, baseline_too_large, frame_pixels, binary_answer}
use Rattle.reader.specs.Reader.{read_answer}
use Rattle.header_text.specs.declared.Counts.{Counts}
use Rattle.writer.specs.Storing.{stored_for}
use Rattle.header_text.specs.Text.{relined, lines_written}
use Rattle.writer.specs.Frame.{stored_counts, rewritten, body_bytes, frame_bytes}
use Rattle.writer.specs.Writer.{frame, refused, base, base_for, underflow_too_large, made_with, writer_frame}
use Rattle.pixel_counts.specs.Counts.{any_above255}
use Rattle.header_text.proofs.Lines.{lines_same, same_lines}
use Rattle.writer.proofs.Whole.{relined-stored}
use Rattle.readback.specs.Written.{Pixels, base_of, base_number, stored_in, image_for, tables_for, header_for}
use Rattle.readback.specs.Held.{named_by, held_count, held_form, held_pixels, is_read, is_frame, is_held}
use Rattle.readback.proofs.Tables.{zero-zeros}
use Rattle.readback.proofs.Storing.{Below, below_all, subtracts, all-taken, sums-fit, image-count}
use Rattle.readback.proofs.Reached.{length-frame}
use Rattle.readback.proofs.Body.{stored-read}
use Rattle.readback.proofs.Facts.{made_at, held-header, held-parts, start_is, area, entries_fit, frame-end}
use Rattle.readback.proofs.HeldFrame.{held-is, held-frame}
use Rattle.readback.proofs.HeldOpened.{opened, count_of, read-passed, pixels-read, read_held, pixels-all, pixels-fit}
use Rattle.canonical.specs.Located.{form_in, tables_base, base_by, start_by, entries_of, place_in, located}
use Rattle.canonical.specs.Check.{values_canonical, place_by, stated_counts, rest_canonical, check_form, kind_form, check_tables, check_header, check_by, checked, entries_before, pixel_at}
use Rattle.canonical.proofs.Bytes as entry
use Rattle.canonical.proofs.Values.{Undone, values-undone}
use Rattle.canonical.proofs.Stored.{Kinded, stored-canonical, entries-before, pixel-is}
use Rattle.canonical.proofs.Again.{held-again}

-- what the form and the baseline have to do with the header's underflows
pub record Named (i : Image) (t : BinaryTables) (form : Form) (b : ℕ) : Type 0 where
  pub width : form.width ≡ i.width
  pub named : named_by i.width t.underflows ≡ Some form
  pub bytes : underflow_bytes form.underflow ≡ underflow_width t.underflows
  pub step : applies_c t.underflows ≡ subtracts form.underflow
  pub based : baseline_of t.underflows ≡ b
  pub kind : Kinded form.underflow b
  pub given : (header : List ℕ) → base_for header t.underflows form.underflow ≡ base b
  pub low : b ≤ 65535

bytes_low : (vs : List ℕ) → Below 256 vs → any_above255 vs ≡ false
unfolding any_above255
bytes_low [] h = refl
bytes_low (v ∷ vs) h = rw (le-ltb 255 v (omega (arith, h.0)), bytes_low vs h.1)

fit_low : (u : Underflow) (vs : List ℕ) → Below (256 ^ underflow_bytes u) vs → underflow_too_large u vs ≡ false
fit_low U.None vs h = refl
fit_low (U.Subtracted E.One) vs h = bytes_low vs h
fit_low (U.Subtracted E.Two) vs h = refl

both_true : (a b : Bool) → a ≡ true → b ≡ true → (a && b) ≡ true
both_true a b p q = rw (p, q)

area_small : (m n : ℕ) → m ≤ 4096 → n ≤ 4096 → m * n ≤ 4294967296
area_small m n h k = omega (arith, mul-le-mul_left m k, mul-le-mul_right 4096 h)

module _ (held : List ℕ) (h : Header) (t : BinaryTables) (e : header_of held ≡ Ok h) (q : h.tables ≡ T.Format100 t) (small : (k : ℕ) → get_or held k 0 < 256)
    (form : Form) (b : ℕ) (n : Named h.image t form b) where
  abbrev i : Image
  i = h.image

  abbrev s : Stored
  s = stored_of held i t

  bounds : AcceptedBounds held h
  bounds = accepted-bounds held h e

  form-held : held_form held ≡ Some form
  unfolding held_form
  form-held = rw (e, q) n.named

  header-long : 3200 ≤ length (take i.start held)
  header-long = rw (length-take-le i.start held bounds.inside) (omega (arith, bounds.start-low))

  stored-counts : stated_counts t ≡ stored_counts s
  unfolding stored_of
  stored-counts = λ k. record {
    under = sym (length-entries (underflow_width t.underflows) (underflow_count t.underflows) (drop (image_end i) held)) k;
    two = sym (length-entries 2 t.two (drop (two_start i t) held)) k;
    four = sym (length-entries 4 t.four (drop (four_start i t) held)) k;
  }

  image-fits : Below (256 ^ width_bytes form.width) s.image
  unfolding stored_of
  image-fits = rw n.width (entry.entries_fit (width_bytes i.width) (pixel_count i) (drop i.start held) (entry.bytes_drop i.start held small))

  under-fits : Below (256 ^ underflow_bytes form.underflow) s.under
  unfolding stored_of
  under-fits = rw n.bytes (entry.entries_fit (underflow_width t.underflows) (underflow_count t.underflows) (drop (image_end i) held) (entry.bytes_drop (image_end i) held small))

  -- the check is passed: the frame is the writer's
  module _ (parts : parts_whole held i t ≡ true) (rest : rest_canonical held i t form ≡ true) (values : values_canonical form b s ≡ true) where
    whole : binary_end i t ≤ length held
    unfolding parts_whole
    whole = leb-true (binary_end i t) (length held) (and-true-right (leb (pixel_count i) 4294967296) _ (and-true-left (leb (pixel_count i) 4294967296 && leb (binary_end i t) (length held)) _ parts))

    padded : padding_zero held i t ≡ true
    unfolding parts_whole
    padded = and-true-right (leb (pixel_count i) 4294967296 && leb (binary_end i t) (length held)) _ parts

    lines : lines_written form (stated_counts t) (take i.start held) ≡ true
    unfolding rest_canonical
    lines = and-true-left _ (all_zero (drop (binary_end i t) held)) rest

    tail : all_zero (drop (binary_end i t) held) ≡ true
    unfolding rest_canonical
    tail = and-true-right (lines_written form (stated_counts t) (take i.start held)) _ rest

    vs : List ℕ
    vs = frame_pixels held i t

    pixels-are : frame_pixels held i t ≡ after_c (width_bytes form.width) (subtracts form.underflow) b s
    pixels-are = rw (n.width, n.step, n.based)

    undone : Undone form b s (frame_pixels held i t)
    undone = subst (Undone form b s) (sym pixels-are) (values-undone form b s n.low image-fits values)

    taken : tables_exhausted held i t ≡ true
    taken =
        ap (λ (w : Width). exhausted (width_bytes w) (applies_c t.underflows) s) (sym n.width)
        ∙ ap (λ (c : Bool). exhausted (width_bytes form.width) c s) n.step
        ∙ (ap (exhausted (width_bytes form.width) (subtracts form.underflow)) (sym undone.stored) ∙ all-taken form b (frame_pixels held i t))

    sums : baseline_too_large held i t ≡ false
    sums =
        ap (λ (w : Width). sums_too_large (width_bytes w) (applies_c t.underflows) (baseline_of t.underflows) s) (sym n.width)
        ∙ ap (λ (c : Bool). sums_too_large (width_bytes form.width) c (baseline_of t.underflows) s) n.step
        ∙ ap (λ (x : ℕ). sums_too_large (width_bytes form.width) (subtracts form.underflow) x s) n.based
        ∙ (ap (sums_too_large (width_bytes form.width) (subtracts form.underflow) b) (sym undone.stored) ∙ sums-fit form b (frame_pixels held i t) undone.small)

    read : is_read (read_answer held (held_count held)) ≡ true
    unfolding read_answer binary_answer
    read =
        rw (e, q, le-ltb (held_count held) (pixel_count i) (omega (arith, count_of held h e)), le-ltb (length held) (binary_end i t) whole, padded, taken, sums)

    pixels : held_pixels held ≡ frame_pixels held i t
    pixels = pixels-read held h t e q read

    header-same : rewritten form s (take i.start held) ≡ take i.start held
    header-same =
        sym (relined-stored form s (take i.start held))
        ∙ ap (λ (c : Counts). relined form c (take i.start held)) (sym stored-counts)
        ∙ lines_same form (stated_counts t) (take i.start held) header-long lines

    made : writer_frame held (held_form held) (held_pixels held) ≡ frame (frame_bytes (take i.start held) form s)
    made =
        ap (λ (a : Option Form). writer_frame held a (held_pixels held)) form-held
        ∙ ap (writer_frame held (Some form)) pixels
        ∙ made_at held h t form (frame_pixels held i t) e q (length-frame held i t)
        ∙ ap (made_with (take i.start held) form (frame_pixels held i t)) (n.given (take i.start held))
        ∙ ap (λ (x : Stored). if◌then◌else◌ (underflow_too_large form.underflow x.under) (refused R.UnderflowTooLarge) (frame (frame_bytes (take i.start held) form x))) undone.stored
        ∙ rw (fit_low form.underflow s.under under-fits)

    same : is_frame held (writer_frame held (held_form held) (held_pixels held)) ≡ true
    same =
        ap (is_frame held) made
        ∙ ap (same_bytes held) (held-again held i t form small n.width n.bytes whole padded header-same tail)
        ∙ same_refl held

    pub is-held : is_held held ≡ true
    is-held = held-is held ∙ both_true _ _ read same

  -- the frame is the writer's: the check is passed
  module _ (is : is_held held ≡ true) where
    passed : parts_whole held i t ≡ true
    unfolding parts_whole
    passed =
        let p = read-passed held h t e q (read_held held h t e q is) in
        both_true _ _ (both_true _ _ (le-leb (pixel_count i) 4294967296 (area_small i.rows i.columns bounds.rows-high bounds.columns-high))
        (le-leb (binary_end i t) (length held) (ltb-false (length held) (binary_end i t) p.whole))) p.padded

    -- the parts of the buffer
    pub record Shown : Type 0 where
      pub stored : s ≡ stored_for form b (held_pixels held)
      pub lines : lines_written form (stated_counts t) (take i.start held) ≡ true
      pub tail : all_zero (drop (binary_end i t) held) ≡ true

    module _ (f : List ℕ) (w : writer_frame held (Some form) (held_pixels held) ≡ frame f) (filled : held ≡ held_bytes (length held) f) where
      all : length (held_pixels held) ≡ pixel_count i
      all = pixels-all held h t e q is

      fits : Pixels (held_pixels held)
      fits = pixels-fit held h t e q is small

      abbrev c : ℕ
      c = base_number (base_of held h t form)

      abbrev r : Stored
      r = stored_in held h t form (held_pixels held)

      abbrev new : List ℕ
      new = rewritten form r (take i.start held)

      base-is : c ≡ b
      base-is = ap base_number (n.given (take i.start held))

      laid : held ≡ new ++ (body_bytes form r ++ zeros (length held - length f))
      laid = filled ∙ held-parts held h t e q form (held_pixels held) all fits f w (length held)

      header_is : h ≡ header_for form i.start i.rows i.columns c r
      header_is =
          let p : Ok h ≡ Ok (header_for form i.start i.rows i.columns c r) =
          sym e ∙ ap header_of filled ∙ held-header held h t e q form (held_pixels held) all fits f w (length held) in
          cc

      tables-are : t ≡ tables_for form c r
      tables-are =
          let p : T.Format100 t ≡ T.Format100 (tables_for form c r) = sym q ∙ ap (λ (x : Header). x.tables) header_is in
          cc

      new-start : length new ≡ i.start
      new-start = start_is held h t e q form (held_pixels held) all fits f w

      image-is : i ≡ image_for form (length new) i.rows i.columns
      image-is = ap (λ (x : Header). x.image) header_is ∙ ap (λ (x : ℕ). image_for form x i.rows i.columns) (sym new-start)

      stored_is : s ≡ r
      stored_is =
          ap (λ (l : List ℕ). stored_of l i t) laid
          ∙ ap (λ (x : Image). stored_of (new ++ (body_bytes form r ++ zeros (length held - length f))) x t) image-is
          ∙ ap (stored_of (new ++ (body_bytes form r ++ zeros (length held - length f))) (image_for form (length new) i.rows i.columns)) tables-are
          ∙ stored-read form c i.rows i.columns (held_pixels held) new (zeros (length held - length f)) (area held h t e q form (held_pixels held) all fits f w)
          (below_all 4294967296 (held_pixels held) fits) (entries_fit held h t e q form (held_pixels held) all fits f w)

      front : take i.start held ≡ new
      front = ap (take i.start) laid ∙ take_at new _ i.start new-start

      lines_are : lines_written form (stated_counts t) (take i.start held) ≡ true
      lines_are =
          same_lines form (stated_counts t) (take i.start held) header-long
          (ap (λ (x : Counts). relined form x (take i.start held)) (stored-counts ∙ ap stored_counts stored_is)
          ∙ relined-stored form r (take i.start held)
          ∙ sym front)

      end_is : binary_end i t ≡ length f
      end_is =
          ap (λ (x : Image). binary_end x t) image-is
          ∙ ap (binary_end (image_for form (length new) i.rows i.columns)) tables-are
          ∙ frame-end held h t e q form (held_pixels held) all fits f w

      tail-zero : all_zero (drop (binary_end i t) held) ≡ true
      unfolding held_bytes
      tail-zero =
          ap (λ (x : ℕ). all_zero (drop x held)) end_is
          ∙ ap (λ (l : List ℕ). all_zero (drop (length f) l)) filled
          ∙ ap all_zero (drop_at f (zeros (length held - length f)) (length f) refl)
          ∙ zero-zeros (length held - length f)

      shown : Shown
      shown = record { stored = stored_is ∙ ap (λ (x : ℕ). stored_for form x (held_pixels held)) base-is; lines = lines_are; tail = tail-zero }

    pub show : Shown
    show = held-frame held is (λ f w filled. shown f (ap (λ (a : Option Form). writer_frame held a (held_pixels held)) (sym form-held) ∙ w) filled)

    rest-passed : rest_canonical held i t form ≡ true
    unfolding rest_canonical
    rest-passed = both_true _ _ show.lines show.tail

    values-passed : values_canonical form b s ≡ true
    values-passed =
        ap (values_canonical form b) show.stored
        ∙ stored-canonical form b (held_pixels held) n.kind (below_all 4294967296 (held_pixels held) (pixels-fit held h t e q is small))

  form-is : form ≡ form_in (held_form held)
  form-is = sym (ap form_in form-held)

  baseline-is : b ≡ base_by (header_of held)
  baseline-is = sym (ap base_by e ∙ ap tables_base q ∙ n.based)

  entries-are : (vs : List ℕ) → entries_of form b vs ≡ entries_of (form_in (held_form held)) (base_by (header_of held)) vs
  entries-are vs = ap (λ (x : Form). entries_of x b vs) form-is ∙ ap (λ (x : ℕ). entries_of (form_in (held_form held)) x vs) baseline-is

  -- a pixel's place
  place_same : (is : is_held held ≡ true) (pixel : ℕ) → pixel < pixel_count i → place_by i.start form b s pixel ≡ place_in held pixel
  unfolding place_by place_in
  place_same is pixel inside =
      let px : List ℕ = held_pixels held in
      let lt : pixel < length px = rw (pixels-all held h t e q is) inside in
      let st : s ≡ stored_for form b px = (show is).stored in
      let before : entries_before form (stored_for form b px) pixel ≡ entries_of form b (take pixel px) = entries-before form b px pixel (omega arith) in
      let long : length s.image ≡ held_count held = ap (λ (x : Stored). length x.image) st ∙ image-count form b px ∙ pixels-all held h t e q is ∙ sym (count_of held h e) in
      λ k. record {
        start = sym (ap start_by e) k;
        pixels = long k;
        form = form-is k;
        baseline = baseline-is k;
        entries = (ap stored_counts st ∙ entries-are px) k;
        before = (ap (λ (x : Stored). entries_before form x pixel) st ∙ before ∙ entries-are (take pixel px)) k;
        old = (ap (λ (x : Stored). pixel_at form b x (entries_before form x pixel) pixel) st ∙ ap (λ (x : Counts). pixel_at form b (stored_for form b px) x pixel) before ∙ pixel-is form b px pixel lt) k;
      }

  -- the answer where the frame is held, and where it is not
  held-answer : (is : is_held held ≡ true) (pixel : ℕ) (t₁ : Bool) → leb (pixel_count i) pixel ≡ t₁
      → if◌then◌else◌ t₁ (Err NoPixel) (Ok (place_by i.start form b s pixel)) ≡ if◌then◌else◌ t₁ (Err NoPixel) (Ok (place_in held pixel))
  held-answer is pixel true l = refl
  held-answer is pixel false l = ap Ok (place_same is pixel (leb-false (pixel_count i) pixel l))

  chosen : (a c d : Bool) (x y : Result Place Unlocated) → a ≡ true → c ≡ true → d ≡ true → x ≡ y
      → if◌then◌else◌ (not a) (Err NotCanonical) (if◌then◌else◌ (not c) (Err NotCanonical) (if◌then◌else◌ (not d) (Err NotCanonical) x)) ≡ y
  chosen a c d x y p r o z = rw (p, r, o) z

  refused_all : (a c d : Bool) (x : Result Place Unlocated) → (a ≡ true → c ≡ true → d ≡ true → ⊥)
      → if◌then◌else◌ (not a) (Err NotCanonical) (if◌then◌else◌ (not c) (Err NotCanonical) (if◌then◌else◌ (not d) (Err NotCanonical) x)) ≡ (Err NotCanonical)
  refused_all false c d x f = refl
  refused_all true false d x f = refl
  refused_all true true false x f = refl
  refused_all true true true x f = absurd (f refl refl refl)

  apart : true ≡ false → ⊥
  apart z = let y : ◌≡◌ {A = ℕ} 0 1 = cc in omega arith

  pub form-decides : (pixel : ℕ) → check_form held i t form b pixel ≡ located held pixel
  unfolding check_form located
  form-decides pixel = go (is_held held) refl
    where
      go : (x : Bool) → is_held held ≡ x
          → if◌then◌else◌ (not (parts_whole held i t)) (Err NotCanonical) (if◌then◌else◌ (not (rest_canonical held i t form)) (Err NotCanonical) (if◌then◌else◌ (not (values_canonical form b s)) (Err NotCanonical)
          (if◌then◌else◌ (leb (pixel_count i) pixel) (Err NoPixel) (Ok (place_by i.start form b s pixel)))))
          ≡ if◌then◌else◌ (not x) (Err NotCanonical) (if◌then◌else◌ (leb (held_count held) pixel) (Err NoPixel) (Ok (place_in held pixel)))
      go true is =
          chosen (parts_whole held i t) (rest_canonical held i t form) (values_canonical form b s) _ _ (passed is) (rest-passed is) (values-passed is)
          (held-answer is pixel (leb (pixel_count i) pixel) refl
          ∙ ap (λ (x : ℕ). if◌then◌else◌ (leb x pixel) (Err NoPixel) (Ok (place_in held pixel))) (sym (count_of held h e)))
      go false is = refused_all (parts_whole held i t) (rest_canonical held i t form) (values_canonical form b s) _ (λ p r o. apart (sym (is-held p r o) ∙ is))

-- a buffer that is not held
not-held : (held : List ℕ) (pixel : ℕ) → (is_held held ≡ true → ⊥) → (Err NotCanonical) ≡ located held pixel
unfolding located
not-held held pixel f = go (is_held held) refl
  where
    go : (x : Bool) → is_held held ≡ x → (Err NotCanonical) ≡ if◌then◌else◌ (not x) (Err NotCanonical) (if◌then◌else◌ (leb (held_count held) pixel) (Err NoPixel) (Ok (place_in held pixel)))
    go true is = absurd (f is)
    go false is = refl

-- the baseline of an accepted header
good-base : (u : Underflows) → BaselineGood u → baseline_of u ≤ 65535
unfolding BaselineGood
good-base H.Unused g = omega arith
good-base (H.NoWidth b) g = g
good-base (H.Counted w n b) g = g

module _ (held : List ℕ) (pixel : ℕ) (small : (k : ℕ) → get_or held k 0 < 256) where
  module _ (h : Header) (t : BinaryTables) (e : header_of held ≡ Ok h) (q : h.tables ≡ T.Format100 t) where
    low : baseline_of t.underflows ≤ 65535
    unfolding TablesGood
    low = good-base t.underflows (subst TablesGood q (accepted-bounds held h e).baseline)

    no-form : (b : ℕ) → t.underflows ≡ H.NoWidth b → is_held held ≡ true → ⊥
    unfolding held_form
    no-form b u is =
        let o = opened held is in
        let p : None ≡ Some o.form = sym (rw (e, q, u)) ∙ o.named in
        let y : ◌≡◌ {A = ℕ} 0 1 = cc in omega arith

    tables-decide : (u : Underflows) → t.underflows ≡ u → check_tables held h.image t u pixel ≡ located held pixel
    tables-decide H.Unused u =
        form-decides held h t e q small (kind_form h.image.width U.None) 0
        (record { width = refl; named = rw u; bytes = rw u; step = rw u; based = rw u; kind = refl; given = λ header. refl; low = omega arith }) pixel
    tables-decide (H.NoWidth b) u = not-held held pixel (no-form b u)
    tables-decide (H.Counted w n b) u =
        form-decides held h t e q small (kind_form h.image.width (U.Subtracted w)) b
        (record { width = refl; named = rw u; bytes = rw u; step = rw u; based = rw u; kind = tt; given = λ header. rw u; low = (let l = rw u at low in l) }) pixel

  other-tables : (h : Header) → header_of held ≡ Ok h → (n : ℕ) → h.tables ≡ T.Format86 n → is_held held ≡ true → ⊥
  other-tables h e n q is =
      let o = opened held is in
      let p : Ok h ≡ Ok o.header = sym e ∙ o.accepted in
      let r : h ≡ o.header = cc in
      let g : T.Format86 n ≡ T.Format100 o.tables = sym q ∙ ap (λ (x : Header). x.tables) r ∙ o.binary in
      let y : ◌≡◌ {A = ℕ} 0 1 = cc in omega arith

  header-decides : (h : Header) → header_of held ≡ Ok h → (t : Tables) → h.tables ≡ t → check_header held h.image t pixel ≡ located held pixel
  header-decides h e (T.Format86 n) q = not-held held pixel (other-tables h e n q)
  header-decides h e (T.Format100 t) q = tables-decide h t e q t.underflows refl

  answer-decides : (a : Result Header Refusal) → header_of held ≡ a → check_by held a pixel ≡ located held pixel
  answer-decides (Ok h) e = header-decides h e h.tables refl
  answer-decides (Err r) e =
      not-held held pixel (λ is.
      let o = opened held is in
      let p : Err r ≡ Ok o.header = sym e ∙ o.accepted in
      let y : ◌≡◌ {A = ℕ} 0 1 = cc in omega arith)

  -- the check decides 19, and finds the pixel
  pub decides : checked held pixel ≡ located held pixel
  unfolding checked
  decides = answer-decides (header_of held) refl
