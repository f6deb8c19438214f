-- The read-back of a frame that the writer gives, from its parts.
-- Assumes nothing.
use Rattle.layout.specs.Layout.{frame_read}
use mathlib.Core.Path.{◌≡◌, refl, sym, ap, subst, ◌∙◌}
use mathlib.Core.Bool.{true, false}
use mathlib.Core.List.{List, [], ◌++◌, append_assoc}
use Prim.Native.Nat.{ℕ, ◌+◌, ◌-◌, ◌*◌, ◌^◌, ◌≤◌, ◌<◌}
use native.Mathlib.Nat.{mul-le-mul_left, mul-le-mul_right}
use native.Mathlib.Omega.{arith}
use borrow.Author.Tests.{leb-true, le-ltb}
use lib.Dec.{leb, ltb}
use lib.ListN.{length, take, drop, length-append}
use lib.Seq.{take_at, take_all}
use Rattle.std.specs.Prelude.{if◌then◌else◌, Ok, Some}
use Rattle.lists.specs.Bytes.{zeros, held_bytes}
use Rattle.lists.proofs.Tests.{and-true-right}
use Rattle.refusal.specs.declared.Refusal.TheVariants as R
use Rattle.layout.specs.declared.Underflow.{Underflow}
use Rattle.layout.specs.declared.Underflow.TheVariants as U
use Rattle.layout.specs.declared.BinaryTables.{BinaryTables}
use Rattle.layout.specs.declared.Tables.TheVariants as T
use Rattle.layout.specs.declared.Form.{Form}
use Rattle.layout.specs.declared.Header.{Header}
use Rattle.layout.specs.Form.{width_bytes, underflow_bytes}
use Rattle.layout.specs.Layout.{pixel_count, table_bytes, binary_end}
use Rattle.header.specs.declared.Format.TheVariants as G
use Rattle.header.specs.Ranges.{is_size}
use Rattle.header.specs.Header.{header_of}
use Rattle.expand.specs.Steps.{Stored}
use Rattle.expand.specs.Expand.{binary_answer, binary_pixels}
use Rattle.reader.specs.Reader.{read_answer, read_pixels}
use Rattle.writer.specs.Storing.{stored_for}
use Rattle.writer.specs.Frame.{rewritten, body_bytes, frame_bytes, frame_length}
use Rattle.writer.specs.Writer.{Made, frame, refused, Base, base, no_base, base_for, underflow_too_large, made_with, writer_frame}
use Rattle.readback.specs.Written.{Pixels, header_bytes, base_of, base_number, stored_in, underflows_for, image_for, tables_for, header_for}
use Rattle.readback.proofs.Storing.{Below, below_all, under-count, two-count, four-count}
use Rattle.readback.proofs.Body.{length-body, end-at, body-answer, body-pixels}
use Rattle.readback.proofs.Rewriting.{rewritten-twice}
use Rattle.readback.proofs.Sound.{Opening, opening}
use Rattle.readback.proofs.HeaderBack.{Known, own-long, new-length, header-back}
use Rattle.readback.proofs.Written.{writer-is, made-inv, base-known, under-fits}

size_small : (n : ℕ) → is_size G.Format100 n ≡ true → n ≤ 4096
size_small n h = leb-true n 4096 (and-true-right (leb 1 n) (leb n 4096) h)

product_small : (m n : ℕ) → m ≤ 4096 → n ≤ 4096 → m * n < 4294967296
product_small m n h k = omega (arith, mul-le-mul_left m k, mul-le-mul_right 4096 h)

-- where the writer gives a frame for N pixels
pub record Wrote (given : List ℕ) (h : Header) (t : BinaryTables) (form : Form) (vs f : List ℕ) : Type 0 where
  pub based : base_of given h t form ≡ base (base_number (base_of given h t form))
  pub small : underflow_too_large form.underflow (stored_in given h t form vs).under ≡ false
  pub bytes : frame_bytes (header_bytes given h) form (stored_in given h t form vs) ≡ f

pub made_at : (given : List ℕ) (h : Header) (t : BinaryTables) (form : Form) (vs : List ℕ) → header_of given ≡ Ok h → h.tables ≡ T.Format100 t → length vs ≡ pixel_count h.image
    → writer_frame given (Some form) vs ≡ made_with (header_bytes given h) form vs (base_of given h t form)
made_at given h t form vs e q all =
    writer-is given h t form vs e q
    ∙ rw (le-ltb (length vs) (pixel_count h.image) (omega arith), take_all (pixel_count h.image) vs (omega arith))

pub wrote : (given : List ℕ) (h : Header) (t : BinaryTables) (form : Form) (vs f : List ℕ) → header_of given ≡ Ok h → h.tables ≡ T.Format100 t → length vs ≡ pixel_count h.image
    → writer_frame given (Some form) vs ≡ frame f → Wrote given h t form vs f
wrote given h t form vs f e q all w =
    made-inv (header_bytes given h) form vs f (base_of given h t form) (sym (made_at given h t form vs e q all) ∙ w) (λ b is small bytes.
    let n : b ≡ base_number (base_of given h t form) = sym (ap base_number is) in
    record {
      based = is ∙ ap base n;
      small = subst (λ (x : ℕ). underflow_too_large form.underflow (stored_for form x vs).under ≡ false) n small;
      bytes = subst (λ (x : ℕ). frame_bytes (header_bytes given h) form (stored_for form x vs) ≡ f) n bytes;
    })

frame_is : (header : List ℕ) (form : Form) (s : Stored) → frame_bytes header form s ≡ rewritten form s header ++ body_bytes form s
unfolding frame_bytes
frame_is header form s = refl

length-is : (n : ℕ) (form : Form) (s : Stored) → frame_length n form s
    ≡ n + length s.image * width_bytes form.width + table_bytes (underflow_bytes form.underflow) (length s.under) + table_bytes 2 (length s.two) + table_bytes 4 (length s.four)
unfolding frame_length
length-is n form s = refl

frame_same : (header : List ℕ) (form : Form) (s r : Stored) → 3200 ≤ length header → frame_bytes (rewritten form s header) form r ≡ frame_bytes header form r
frame_same header form s r long =
    frame_is (rewritten form s header) form r
    ∙ ap (λ (l : List ℕ). l ++ body_bytes form r) (rewritten-twice form s r header long)
    ∙ sym (frame_is header form r)

made-same : (header : List ℕ) (form : Form) (s : Stored) (vs : List ℕ) (given : Base) → 3200 ≤ length header → made_with (rewritten form s header) form vs given ≡ made_with header form vs given
made-same header form s vs (base b) long =
    ap (λ (l : List ℕ). if◌then◌else◌ (underflow_too_large form.underflow (stored_for form b vs).under) (refused R.UnderflowTooLarge) (frame l)) (frame_same header form s (stored_for form b vs) long)
made-same header form s vs no_base long = refl

base_same : (header new : List ℕ) (t : BinaryTables) (u : Underflow) (b n : ℕ) → base_for header t.underflows u ≡ base b → base_for new (underflows_for u b n) u ≡ base_for header t.underflows u
base_same header new t U.None b n e = refl
base_same header new t (U.Subtracted w) b n e = sym e

module _ (given : List ℕ) (h : Header) (t : BinaryTables) (e : header_of given ≡ Ok h) (q : h.tables ≡ T.Format100 t)
    (form : Form) (vs : List ℕ) (all : length vs ≡ pixel_count h.image) (fits : Pixels vs) (f : List ℕ) (w : writer_frame given (Some form) vs ≡ frame f) where
  abbrev b : ℕ
  b = base_number (base_of given h t form)

  abbrev s : Stored
  s = stored_in given h t form vs

  abbrev header : List ℕ
  header = header_bytes given h

  abbrev new : List ℕ
  new = rewritten form s header

  starts : Opening given h
  starts = opening given h t e q

  made : Wrote given h t form vs f
  made = wrote given h t form vs f e q all w

  pub known : Known header form.underflow b
  known = base-known header t.underflows form.underflow b (starts.lines.based t q) made.based

  few : length vs < 4294967296
  few = rw all (product_small h.image.rows h.image.columns (size_small _ starts.lines.rows-size) (size_small _ starts.lines.columns-size))

  frame-parts : f ≡ new ++ body_bytes form s
  frame-parts = sym made.bytes ∙ frame_is header form s

  pub held-parts : (n : ℕ) → held_bytes n f ≡ new ++ (body_bytes form s ++ zeros (n - length f))
  unfolding held_bytes
  held-parts n = ap (λ (l : List ℕ). l ++ zeros (n - length f)) frame-parts ∙ append_assoc new (body_bytes form s) _

  pub held-header : (n : ℕ) → header_of (held_bytes n f) ≡ Ok (header_for form h.image.start h.image.rows h.image.columns b s)
  held-header n =
      ap header_of (held-parts n)
      ∙ header-back given h starts form s (body_bytes form s ++ zeros (n - length f)) b known
      (omega (arith, few, under-count form b vs)) (omega (arith, few, two-count form b vs)) (omega (arith, few, four-count form b vs))

  pub start_is : length new ≡ h.image.start
  start_is = new-length given h starts form s []

  pub area : h.image.rows * h.image.columns ≡ length vs
  area = sym all

  pixels-fit : Below 4294967296 vs
  pixels-fit = below_all 4294967296 vs fits

  pub entries_fit : Below (256 ^ underflow_bytes form.underflow) s.under
  entries_fit = under-fits header form b vs known made.small

  pub frame-end : binary_end (image_for form (length new) h.image.rows h.image.columns) (tables_for form b s) ≡ length f
  frame-end =
      sym (end-at form b h.image.rows h.image.columns vs new [] area)
      ∙ sym (length-append new (body_bytes form s))
      ∙ ap length (sym frame-parts)

  pub held-answer : (n places : ℕ) → length vs ≤ places → read_answer (held_bytes n f) places ≡ Ok (frame_read h.image.rows h.image.columns (length f))
  unfolding read_answer
  held-answer n places room =
      let z : List ℕ = zeros (n - length f) in
      let i = image_for form (length new) h.image.rows h.image.columns in
      let d : binary_answer (held_bytes n f) (image_for form h.image.start h.image.rows h.image.columns) (tables_for form b s) places ≡ Ok (length f) =
      ap (λ (x : ℕ). binary_answer (held_bytes n f) (image_for form x h.image.rows h.image.columns) (tables_for form b s) places) (sym start_is)
      ∙ ap (λ (l : List ℕ). binary_answer l i (tables_for form b s) places) (held-parts n)
      ∙ body-answer form b h.image.rows h.image.columns vs new z area pixels-fit entries_fit places room
      ∙ ap Ok frame-end in
      rw (held-header n, d)

  pub held-pixels : (n : ℕ) (px : List ℕ) → length vs ≤ length px → read_pixels (held_bytes n f) px ≡ vs ++ drop (length vs) px
  unfolding read_pixels
  held-pixels n px room =
      let z : List ℕ = zeros (n - length f) in
      let i = image_for form (length new) h.image.rows h.image.columns in
      let d : binary_pixels (held_bytes n f) (image_for form h.image.start h.image.rows h.image.columns) (tables_for form b s) px ≡ vs ++ drop (length vs) px =
      ap (λ (x : ℕ). binary_pixels (held_bytes n f) (image_for form x h.image.rows h.image.columns) (tables_for form b s) px) (sym start_is)
      ∙ ap (λ (l : List ℕ). binary_pixels l i (tables_for form b s) px) (held-parts n)
      ∙ body-pixels form b h.image.rows h.image.columns vs new z area pixels-fit entries_fit px room in
      rw (held-header n, d)

  -- the writer's answer from the held frame
  pub held-writer : (n : ℕ) (px : List ℕ) → writer_frame (held_bytes n f) (Some form) px ≡ writer_frame given (Some form) px
  held-writer n px =
      let g : Header = header_for form h.image.start h.image.rows h.image.columns b s in
      let l : header_bytes (held_bytes n f) g ≡ new = ap (take h.image.start) (held-parts n) ∙ take_at new (body_bytes form s ++ zeros (n - length f)) h.image.start start_is in
      let d : base_of (held_bytes n f) g (tables_for form b s) form ≡ base_of given h t form =
      base_same header (header_bytes (held_bytes n f) g) t form.underflow b (length s.under) made.based in
      writer-is (held_bytes n f) g (tables_for form b s) form px (held-header n) refl
      ∙ ap (λ (m : Made). if◌then◌else◌ (ltb (length px) (pixel_count h.image)) (refused R.PixelArrayShort) m)
      (ap (λ (x : Base). made_with (header_bytes (held_bytes n f) g) form (take (pixel_count h.image) px) x) d
      ∙ ap (λ (x : List ℕ). made_with x form (take (pixel_count h.image) px) (base_of given h t form)) l
      ∙ made-same header form s (take (pixel_count h.image) px) (base_of given h t form) (own-long given h starts form s []))
      ∙ sym (writer-is given h t form px e q)

  pub frame-length : length f ≡ frame_length h.image.start form s
  frame-length =
      ap length frame-parts
      ∙ length-append new (body_bytes form s)
      ∙ rw (start_is, length-body form s [] []) (omega arith)
      ∙ sym (length-is h.image.start form s)
