-- Where 19 and 24 are not due: the pixel's place, and what the writer makes of the changed counts.
-- Assumes nothing.
use Rattle.canonical.specs.declared.Unlocated.TheVariants.{NoPixel}
use Rattle.canonical.specs.declared.Unlocated.TheVariants.{NotCanonical}
use Rattle.canonical.specs.declared.Unlocated.{Unlocated}
use Rattle.refusal.specs.declared.Refusal.{Refusal}
use mathlib.Core.Path.{◌≡◌, refl, sym, ap, ◌∙◌, subst}
use mathlib.Core.Bool.{Bool, true, false, not, ◌||◌}
use mathlib.Core.List.{List, [], ◌∷◌, ◌++◌}
use Prim.Native.Nat.{ℕ, suc, ◌*◌, ◌≤◌, ◌<◌}
use native.Mathlib.Nat.{mul-le-mul_left, mul-le-mul_right}
use native.Mathlib.Omega.{arith}
use borrow.Author.Tests.{leb-false, ltb-false}
use lib.Dec.{leb, ltb}
use lib.ListN.{length, take, drop, set, get_or, length-set}
use lib.Seq.{length-take-le}
use Rattle.std.specs.Prelude.{if◌then◌else◌, Err, Ok, Option, Result, Some, ℕ}
use Rattle.lists.specs.Bytes.{held_bytes}
use Rattle.refusal.specs.declared.Refusal.TheVariants as R
use Rattle.layout.specs.declared.Width.{Width}
use Rattle.layout.specs.declared.EntryWidth.TheVariants as E
use Rattle.layout.specs.declared.Underflow.{Underflow}
use Rattle.layout.specs.declared.Underflow.TheVariants as U
use Rattle.layout.specs.declared.Underflows.{Underflows}
use Rattle.layout.specs.declared.Underflows.TheVariants as H
use Rattle.layout.specs.declared.Form.{Form}
use Rattle.layout.specs.declared.Header.{Header}
use Rattle.header.specs.Header.{header_of}
use Rattle.header.proofs.Accepted.{BaselineGood, TablesGood, AcceptedBounds, accepted-bounds}
use Rattle.expand.specs.Expand.{baseline_of}
use Rattle.expand.specs.Steps.{Stored}
use Rattle.writer.specs.Storing.{stored_for}
use Rattle.writer.specs.Frame.{frame_bytes}
use Rattle.writer.specs.Writer.{frame, refused, base_for, underflow_too_large, made_of, made_with, writer_frame, output_of}
use Rattle.pixel_counts.specs.Counts.{any_above255}
use Rattle.readback.specs.Written.{base_of, base_number}
use Rattle.readback.specs.Held.{named_by, held_count, held_form, held_pixels, is_held}
use Rattle.readback.proofs.Facts.{Wrote, wrote, made_at}
use Rattle.readback.proofs.HeldOpened.{Opened, opened, count_of}
use Rattle.canonical.specs.declared.Place.{Place}
use Rattle.canonical.specs.Located.{form_in, base_by, place_in, located, unlocated}
use Rattle.replacement.specs.Replaced.{Placed, stored_one, replaced_bytes}
use Rattle.replacement.specs.Replace.{meets, changed_frame, replaced_as, replace_answer, replace_bytes}
use Rattle.replacement.specs.Answered.{too_large, length_after, placed_answer, placed_bytes}
use Rattle.replacement.proofs.Placed.{length-after, placed-law}
use Rattle.replacement.proofs.Values.{stored_at, stored-set}

-- the baseline of the form that a header names is the header's
none-base : (header : List ℕ) (w : Width) (form : Form) → named_by w H.Unused ≡ Some form → base_number (base_for header H.Unused form.underflow) ≡ 0
none-base header w form e =
    let g : record { width = w; underflow = U.None } ≡ form = cc in
    rw (← g)

base-is : (header : List ℕ) (w : Width) (u : Underflows) (form : Form) → named_by w u ≡ Some form → base_number (base_for header u form.underflow) ≡ baseline_of u
base-is header w H.Unused form e = none-base header w form e
base-is header w (H.NoWidth b) form e = let z : ◌≡◌ {A = ℕ} 0 1 = cc in absurd (omega arith)
base-is header w (H.Counted x n b) form e =
    let g : record { width = w; underflow = U.Subtracted x } ≡ form = cc in
    rw (← g)

good-base : (u : Underflows) → BaselineGood u → baseline_of u ≤ 65535
unfolding BaselineGood
good-base H.Unused g = omega arith
good-base (H.NoWidth b) g = g
good-base (H.Counted w n b) g = g

area-low : (m n : ℕ) → m ≤ 4096 → n ≤ 4096 → m * n ≤ 16777216
area-low m n h k = omega (arith, mul-le-mul_left m k, mul-le-mul_right 4096 h)

-- 17 is due to the new count alone
or-both : (a b : Bool) → (a || b) ≡ false → (a ≡ false) × (b ≡ false)
or-both true b e = let z : ◌≡◌ {A = ℕ} 0 1 = cc in absurd (omega arith)
or-both false b e = (refl, e)

above-append : (xs ys : List ℕ) → any_above255 (xs ++ ys) ≡ (any_above255 xs || any_above255 ys)
unfolding any_above255
above-append [] ys = refl
above-append (x ∷ xs) ys = go (ltb 255 x) (above-append xs ys)
  where
    go : (t : Bool) → any_above255 (xs ++ ys) ≡ (any_above255 xs || any_above255 ys) → (t || any_above255 (xs ++ ys)) ≡ ((t || any_above255 xs) || any_above255 ys)
    go true h = refl
    go false h = h

or-none : (a : Bool) → (a || false) ≡ a
or-none true = refl
or-none false = refl

above-set : (a o b n : List ℕ) → any_above255 (a ++ (o ++ b)) ≡ false → any_above255 (a ++ (n ++ b)) ≡ any_above255 n
above-set a o b n e =
    let x = or-both (any_above255 a) (any_above255 (o ++ b)) (sym (above-append a (o ++ b)) ∙ e) in
    let y = or-both (any_above255 o) (any_above255 b) (sym (above-append o b) ∙ x.1) in
    above-append a (n ++ b) ∙ rw (x.0, above-append n b, y.1) (or-none (any_above255 n))

large-set : (u : Underflow) (a o b n : List ℕ) → underflow_too_large u (a ++ (o ++ b)) ≡ false → underflow_too_large u (a ++ (n ++ b)) ≡ underflow_too_large u n
large-set U.None a o b n e = refl
large-set (U.Subtracted E.One) a o b n e = above-set a o b n e
large-set (U.Subtracted E.Two) a o b n e = refl

-- the place, and what the writer makes of the changed counts
pub record Found (held : List ℕ) (pixel : ℕ) : Type 0 where
  pub placed : Placed held (place_in held pixel) pixel
  pub changed : (v : ℕ) → changed_frame held pixel v
      ≡ made_of placed.header (place_in held pixel).form (stored_for (place_in held pixel).form (place_in held pixel).baseline (set placed.counts pixel v))

module _ (held : List ℕ) (pixel : ℕ) (is : is_held held ≡ true) (inside : leb (held_count held) pixel ≡ false) where
  o : Opened held
  o = opened held is

  abbrev h : Header
  h = o.header

  abbrev header : List ℕ
  header = take h.image.start held

  abbrev vs : List ℕ
  vs = held_pixels held

  abbrev base : ℕ
  base = baseline_of o.tables.underflows

  bounds : AcceptedBounds held h
  bounds = accepted-bounds held h o.accepted

  made : Wrote held h o.tables o.form vs o.bytes
  made = wrote held h o.tables o.form vs o.bytes o.accepted o.binary o.all o.written

  form-is : named_by h.image.width o.tables.underflows ≡ Some o.form
  unfolding held_form
  form-is = rw (o.accepted, o.binary) at o.named

  base-of : base_number (base_of held h o.tables o.form) ≡ base
  base-of = base-is header h.image.width o.tables.underflows o.form form-is

  low : base ≤ 65535
  unfolding TablesGood
  low = good-base o.tables.underflows (subst TablesGood o.binary bounds.baseline)

  -- the place's form and baseline
  place-form : form_in (held_form held) ≡ o.form
  place-form = rw o.named

  place_base : base_by (header_of held) ≡ base
  place_base = rw (o.accepted, o.binary)

  header-long : length header ≡ h.image.start
  header-long = length-take-le h.image.start held bounds.inside

  in_count : pixel < length vs
  in_count = omega (arith, leb-false (held_count held) pixel inside, count_of held h o.accepted, o.all)

  -- the writer's frame for other counts
  frame-of : (ws : List ℕ) → length ws ≡ length vs → writer_frame held (held_form held) ws ≡ made_of header o.form (stored_for o.form base ws)
  frame-of ws e =
      ap (λ (a : Option Form). writer_frame held a ws) o.named
      ∙ made_at held h o.tables o.form ws o.accepted o.binary (e ∙ o.all)
      ∙ ap (made_with header o.form ws) made.based
      ∙ ap (λ (b : ℕ). made_of header o.form (stored_for o.form b ws)) base-of

  unfoldable placed : Placed held (place_in held pixel) pixel
  unfolding place_in
  placed = record {
    header = header;
    counts = vs;
    starts = rw o.accepted (sym header-long);
    long = omega (arith, header-long, bounds.start-low);
    short = omega (arith, header-long, bounds.start-high);
    all = count_of held h o.accepted ∙ sym o.all;
    few = omega (arith, o.all, area-low h.image.rows h.image.columns bounds.rows-high bounds.columns-high);
    inside = in_count;
    low = rw place_base low;
    entries = refl;
    before = refl;
    old = refl;
    fits = rw (place-form, place_base, ← base-of) made.small;
    frame = o.filled ∙ ap (held_bytes (length held)) (sym (rw (place-form, place_base, ← base-of) made.bytes));
  }

  -- what the writer makes of the changed counts
  changed : (v : ℕ) → changed_frame held pixel v
      ≡ made_of placed.header (place_in held pixel).form (stored_for (place_in held pixel).form (place_in held pixel).baseline (set placed.counts pixel v))
  unfolding place_in placed
  changed v = frame-of (set vs pixel v) (length-set vs pixel v) ∙ rw (place-form, place_base)

  pub found : Found held pixel
  found = record { placed = placed; changed = changed }

-- the answer and the bytes from the place are those asked for
module _ (held : List ℕ) (pixel : ℕ) (g : Found held pixel) (expected : Option ℕ) (count : ℕ) where
  abbrev p : Place
  p = place_in held pixel

  abbrev new : List ℕ
  new = frame_bytes g.placed.header p.form (stored_for p.form p.baseline (set g.placed.counts pixel count))

  made-is : changed_frame held pixel count ≡ if◌then◌else◌ (too_large p count) (refused R.UnderflowTooLarge) (frame new)
  made-is =
      let f = g.placed in
      let a = stored_for p.form p.baseline (take pixel f.counts) in
      let b = stored_for p.form p.baseline (drop (suc pixel) f.counts) in
      let was = stored_one p.form p.baseline (get_or f.counts pixel 0) in
      let e : underflow_too_large p.form.underflow (stored_for p.form p.baseline (set f.counts pixel count)).under ≡ too_large p count =
      ap (λ (s : Stored). underflow_too_large p.form.underflow s.under) (stored-set p.form p.baseline f.counts pixel f.inside count)
      ∙ large-set p.form.underflow a.under was.under b.under (stored_one p.form p.baseline count).under
      (sym (ap (λ (s : Stored). underflow_too_large p.form.underflow s.under) (stored_at p.form p.baseline f.counts pixel f.inside)) ∙ f.fits) in
      g.changed count ∙ ap (λ (t : Bool). if◌then◌else◌ t (refused R.UnderflowTooLarge) (frame new)) e

  answer-by : (t : Bool) → if◌then◌else◌ t (Err R.UnderflowTooLarge) (if◌then◌else◌ (ltb (length held) (length_after p count)) (Err R.OutputShort) (Ok p.old))
      ≡ replaced_as (length held) p.old (if◌then◌else◌ t (refused R.UnderflowTooLarge) (frame new))
  answer-by true = refl
  answer-by false = ap (λ (n : ℕ). if◌then◌else◌ (ltb (length held) n) (Err R.OutputShort) (Ok p.old)) (length-after held p pixel g.placed count)

  bytes-by : (t : Bool) → if◌then◌else◌ t held (if◌then◌else◌ (ltb (length held) (length_after p count)) held (replaced_bytes p pixel count held))
      ≡ output_of held (if◌then◌else◌ t (refused R.UnderflowTooLarge) (frame new))
  bytes-by true = refl
  bytes-by false = go (ltb (length held) (length_after p count)) refl
    where
      go : (t : Bool) → ltb (length held) (length_after p count) ≡ t
          → if◌then◌else◌ (ltb (length held) (length_after p count)) held (replaced_bytes p pixel count held) ≡ if◌then◌else◌ (ltb (length held) (length new)) held (held_bytes (length held) new)
      go true e = rw (← length-after held p pixel g.placed count, e)
      go false e = rw (← length-after held p pixel g.placed count, e) (placed-law held p pixel g.placed count (ltb-false (length held) (length_after p count) e))

  pub answer-is : is_held held ≡ true → leb (held_count held) pixel ≡ false → placed_answer held p expected count ≡ replace_answer held pixel expected count
  unfolding placed_answer replace_answer place_in
  answer-is a b =
      rw (a, b) (ap (λ (r : Result ℕ Refusal). if◌then◌else◌ (not (meets expected p.old)) (Err R.PixelDiffers) r) (answer-by (too_large p count) ∙ ap (replaced_as (length held) p.old) (sym made-is)))

  pub bytes-are : is_held held ≡ true → leb (held_count held) pixel ≡ false → placed_bytes held p pixel expected count ≡ replace_bytes held pixel expected count
  unfolding placed_bytes replace_bytes place_in
  bytes-are a b =
      rw (a, b) (ap (λ (r : List ℕ). if◌then◌else◌ (not (meets expected p.old)) held r) (bytes-by (too_large p count) ∙ ap (output_of held) (sym made-is)))

-- What `replace` makes of the check's answer.
module _ (held : List ℕ) (pixel : ℕ) (expected : Option ℕ) (count : ℕ) where
  abbrev Same : Result ℕ Refusal → List ℕ → Type 0
  Same r b = (r ≡ replace_answer held pixel expected count) × (b ≡ replace_bytes held pixel expected count)

  -- 19 and 24
  pub refused-same : (u : Unlocated) → located held pixel ≡ Err u → Same (Err (unlocated u)) held
  unfolding located replace_answer replace_bytes
  refused-same u e = go (is_held held) (leb (held_count held) pixel) refl refl
    where
      go : (a b : Bool) → is_held held ≡ a → leb (held_count held) pixel ≡ b → Same (Err (unlocated u)) held
      go false b x y = let f : Err NotCanonical ≡ Err u = rw x at e in let g : NotCanonical ≡ u = cc in rw (← g) (rw x, rw x)
      go true true x y = let f : Err NoPixel ≡ Err u = rw (x, y) at e in let g : NoPixel ≡ u = cc in rw (← g) (rw (x, y), rw (x, y))
      go true false x y = let f : Ok (place_in held pixel) ≡ Err u = rw (x, y) at e in let z : ◌≡◌ {A = ℕ} 0 1 = cc in absurd (omega arith)

  -- the place's own
  pub at_place : (q : Place) → located held pixel ≡ Ok q
      → Placed held q pixel × (placed_answer held q expected count ≡ replace_answer held pixel expected count) × (placed_bytes held q pixel expected count ≡ replace_bytes held pixel expected count)
  unfolding located
  at_place q e = go (is_held held) (leb (held_count held) pixel) refl refl
    where
      go : (a b : Bool) → is_held held ≡ a → leb (held_count held) pixel ≡ b
          → Placed held q pixel × (placed_answer held q expected count ≡ replace_answer held pixel expected count) × (placed_bytes held q pixel expected count ≡ replace_bytes held pixel expected count)
      go false b x y = let f : (Err NotCanonical) ≡ Ok q = rw x at e in let z : ◌≡◌ {A = ℕ} 0 1 = cc in absurd (omega arith)
      go true true x y = let f : (Err NoPixel) ≡ Ok q = rw (x, y) at e in let z : ◌≡◌ {A = ℕ} 0 1 = cc in absurd (omega arith)
      go true false x y =
          let f : Ok (place_in held pixel) ≡ Ok q = rw (x, y) at e in
          let p : place_in held pixel ≡ q = cc in
          let g : Found held pixel = found held pixel x y in
          rw (← p) (g.placed, answer-is held pixel g expected count x y, bytes-are held pixel g expected count x y)
