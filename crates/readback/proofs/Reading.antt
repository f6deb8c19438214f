-- Reading, as a whole: a frame is accepted exactly where no refusal is due, and what is read does not depend on bytes past the
-- end that the answer gives.
-- Assumes nothing.
use Rattle.header.specs.Lead.{lead_read}
use Rattle.header.specs.declared.Lead.{Lead}
use Rattle.layout.specs.declared.Frame.{Frame}
use Rattle.layout.specs.Layout.{frame_read}
use Rattle.refusal.specs.declared.Refusal.{Refusal}
use mathlib.Core.Path.{◌≡◌, refl, sym, ap, ◌∙◌}
use mathlib.Core.Bool.{Bool, true, false}
use mathlib.Core.Logic.{◌↔◌}
use mathlib.Core.List.{List}
use Prim.Native.Nat.{ℕ, ◌+◌, ◌*◌, ◌-◌, ◌≤◌}
use native.Mathlib.Omega.{arith}
use borrow.Author.Tests.{le-ltb, ltb-false}
use lib.Dec.{ltb}
use lib.ListN.{length, take, drop, length-take}
use lib.Seq.{take-take, length-take-le}
use Rattle.std.specs.Prelude.{if◌then◌else◌, Err, Ok, Result, ℕ}
use Rattle.lists.proofs.Parts.{drop-take}
use Rattle.refusal.specs.declared.Refusal.TheVariants as R
use Rattle.layout.specs.declared.Image.{Image}
use Rattle.layout.specs.declared.BinaryTables.{BinaryTables}
use Rattle.layout.specs.declared.Tables.{Tables}
use Rattle.layout.specs.declared.Tables.TheVariants as T
use Rattle.layout.specs.declared.Header.{Header}
use Rattle.layout.specs.Layout.{image_end, table_bytes, text_table_bytes}
use Rattle.header.specs.declared.Format.{Format}
use Rattle.header.specs.Lead.{lead_of, on_lead}
use Rattle.header.specs.Header.{body_of, header_of}
use Rattle.expand.specs.Expand.{binary_answer}
use Rattle.expand.proofs.Facts as binary
use Rattle.overflow86.specs.Expand86.{text_answer}
use Rattle.overflow86.proofs.Frame.{table-room}
use Rattle.overflow86.proofs.Facts as text
use Rattle.reader.specs.Reader.{framed, tables_answer, tables_pixels, answer_by, pixels_by, read_answer, read_pixels}
use Rattle.readback.proofs.SameLines.{same-lead}
use Rattle.readback.proofs.Sound.{lead-large, body-start}

-- none of 10 to 15 is due, by the tables' format
abbrev pub Free : List ℕ → Image → ℕ → ℕ → Tables → Type 0
Free bytes i places end (T.Format100 t) = binary.Accepted bytes i t places end
Free bytes i places end (T.Format86 n) = text.Accepted bytes i n places end

-- none of 1 to 15 is due: the header is accepted, with these rows and columns, and the frame ends at `end`
pub record Framed (bytes : List ℕ) (places rows columns end : ℕ) : Type 0 where
  pub header : Header
  pub accepted : header_of bytes ≡ Ok header
  pub rows_are : header.image.rows ≡ rows
  pub columns-are : header.image.columns ≡ columns
  pub free : Free bytes header.image places end header.tables

-- what an answer with a frame says of the tables
record Held (bytes : List ℕ) (i : Image) (places rows columns end : ℕ) (t : Tables) : Type 0 where
  rows_are : i.rows ≡ rows
  columns-are : i.columns ≡ columns
  free : Free bytes i places end t

apart : {r : Refusal} {rows columns end : ℕ} → ◌≡◌ {A = Result Frame Refusal} (Err r) (Ok (frame_read rows columns end)) → ⊥
apart e = let z : ◌≡◌ {A = ℕ} 0 1 = cc in omega arith

-- frames that are answered alike are alike in each part
record SameFrame (rows columns end rows' columns' end' : ℕ) : Type 0 where
  rows-same : rows ≡ rows'
  columns-same : columns ≡ columns'
  end-same : end ≡ end'

frame-parts : {rows columns end rows' columns' end' : ℕ} → ◌≡◌ {A = Result Frame Refusal} (Ok (frame_read rows columns end)) (Ok (frame_read rows' columns' end'))
    → SameFrame rows columns end rows' columns' end'
frame-parts {rows = r} {columns = c} {end = n} {rows' = r'} {columns' = c'} {end' = n'} e =
    let q : frame_read r c n ≡ frame_read r' c' n' = cc in
    record { rows-same = ap (λ (f : Frame). f.rows) q; columns-same = ap (λ (f : Frame). f.columns) q; end-same = ap (λ (f : Frame). f.end) q }

module _ (bytes : List ℕ) (places rows columns end : ℕ) where
  by-binary : (i : Image) (t : BinaryTables) (a : Result ℕ Refusal) → binary_answer bytes i t places ≡ a → framed i a ≡ Ok (frame_read rows columns end)
      → Held bytes i places rows columns end (T.Format100 t)
  by-binary i t (Ok d) q p =
      let s = frame-parts p in
      record { rows_are = s.rows-same; columns-are = s.columns-same; free = (binary.accepted-iff bytes i t places end).0 (q ∙ ap Ok s.end-same) }
  by-binary i t (Err r) q p = absurd (apart p)

  by-text : (i : Image) (n : ℕ) (a : Result ℕ Refusal) → text_answer bytes i n places ≡ a → framed i a ≡ Ok (frame_read rows columns end)
      → Held bytes i places rows columns end (T.Format86 n)
  by-text i n (Ok d) q p =
      let s = frame-parts p in
      record { rows_are = s.rows-same; columns-are = s.columns-same; free = text.accepted-only bytes i n places end (q ∙ ap Ok s.end-same) }
  by-text i n (Err r) q p = absurd (apart p)

  by-tables : (i : Image) (t : Tables) → tables_answer bytes i places t ≡ Ok (frame_read rows columns end) → Held bytes i places rows columns end t
  by-tables i (T.Format100 t) p = by-binary i t (binary_answer bytes i t places) refl p
  by-tables i (T.Format86 n) p = by-text i n (text_answer bytes i n places) refl p

  to-tables : (i : Image) (t : Tables) → i.rows ≡ rows → i.columns ≡ columns → Free bytes i places end t → tables_answer bytes i places t ≡ Ok (frame_read rows columns end)
  to-tables i (T.Format100 t) r c f = rw ((binary.accepted-iff bytes i t places end).1 f, r, c)
  to-tables i (T.Format86 n) r c f = rw (text.accepted-if bytes i n places end f, r, c)

  framed-by : (a : Result Header Refusal) → header_of bytes ≡ a → answer_by bytes places a ≡ Ok (frame_read rows columns end) → Framed bytes places rows columns end
  framed-by (Ok h) q p =
      let t = by-tables h.image h.tables p in
      record { header = h; accepted = q; rows_are = t.rows_are; columns-are = t.columns-are; free = t.free }
  framed-by (Err r) q p = absurd (apart p)

  -- A frame is accepted exactly where none of the refusals 1 to 15 is due.
  pub accepted-iff : (read_answer bytes places ≡ Ok (frame_read rows columns end)) ↔ Framed bytes places rows columns end
  unfolding read_answer
  accepted-iff =
      ((λ p. framed-by (header_of bytes) refl p), (λ f. rw f.accepted (to-tables f.header.image f.header.tables f.rows_are f.columns-are f.free)))

-- bytes that begin with the same `end` ones
module _ (bytes other : List ℕ) (end : ℕ) (within : end ≤ length bytes) (same : take end other ≡ take end bytes) where
  other-long : end ≤ length other
  other-long = omega (arith, length-take end other, length-take-le end bytes within, ap length same)

  part_same : (k n : ℕ) → k + n ≤ end → take n (drop k other) ≡ take n (drop k bytes)
  part_same k n h = part_of other ∙ rw same (sym (part_of bytes))
    where
      part_of : (t : List ℕ) → take n (drop k t) ≡ take n (drop k (take end t))
      part_of t = rw (drop-take k end t, take-take n (end - k) (drop k t) (omega arith))

  module _ (h : Header) where
    body_same : (f : Format) (n : ℕ) → lead_of bytes ≡ Ok (lead_read f n) → n ≤ length bytes → body_of f (take n bytes) ≡ Ok h → h.image.start ≤ end → header_of other ≡ Ok h
    unfolding header_of
    body_same f n l r b s =
        let e : h.image.start ≡ n = body-start f (take n bytes) h b ∙ length-take-le n bytes r in
        let large = lead-large f n bytes l in
        let o = other-long in
        let lead : lead_of other ≡ Ok (lead_read f n) = same-lead other bytes (omega arith) (omega arith) (λ k m c. part_same k m (omega arith)) ∙ l in
        let t : take n other ≡ take n bytes = part_same 0 n (omega arith) in
        rw (lead, le-ltb (length other) n (omega arith), t) b

    inside : (f : Format) (n : ℕ) → lead_of bytes ≡ Ok (lead_read f n) → (t : Bool) → ltb (length bytes) n ≡ t
        → if◌then◌else◌ t (Err R.HeaderTruncated) (body_of f (take n bytes)) ≡ Ok h → h.image.start ≤ end → header_of other ≡ Ok h
    inside f n l true q p s = let z : ◌≡◌ {A = ℕ} 0 1 = cc in absurd (omega arith)
    inside f n l false q p s = body_same f n l (ltb-false (length bytes) n q) p s

    by-lead : (a : Result Lead Refusal) → lead_of bytes ≡ a
        → on_lead a Err (λ f n. if◌then◌else◌ (ltb (length bytes) n) (Err R.HeaderTruncated) (body_of f (take n bytes))) ≡ Ok h
        → h.image.start ≤ end → header_of other ≡ Ok h
    by-lead (Ok ld) l p s = inside ld.format ld.length l (ltb (length bytes) ld.length) refl p s
    by-lead (Err r) l p s = let z : ◌≡◌ {A = ℕ} 0 1 = cc in absurd (omega arith)

    -- the header is the same where it ends within them
    pub header-same : header_of bytes ≡ Ok h → h.image.start ≤ end → header_of other ≡ Ok h
    unfolding header_of
    header-same p s = by-lead (lead_of bytes) refl p s

module _ (bytes other pixels : List ℕ) (end : ℕ) (same : take end other ≡ take end bytes) where
  record Reach (i : Image) : Type 0 where
    whole : end ≤ length bytes
    start : i.start ≤ end

  reach : (i : Image) (t : Tables) → Free bytes i (length pixels) end t → Reach i
  reach i (T.Format100 t) f = let w = f.whole in let e = f.end_is in record { whole = omega arith; start = omega arith }
  reach i (T.Format86 n) f = let w = f.whole in let e = f.end in record { whole = omega arith; start = omega arith }

  tables-same : (i : Image) (t : Tables) → Free bytes i (length pixels) end t
      → (tables_answer other i (length pixels) t ≡ tables_answer bytes i (length pixels) t) × (tables_pixels other i pixels t ≡ tables_pixels bytes i pixels t)
  tables-same i (T.Format100 t) f =
      let a = (binary.accepted-iff bytes i t (length pixels) end).1 f in
      let l = binary.accepted-local bytes other i t pixels end a same in
      (ap (framed i) (l.0 ∙ sym a), l.1)
  tables-same i (T.Format86 n) f =
      let r = reach i (T.Format86 n) f in
      let a = text.accepted-if bytes i n (length pixels) end f in
      let e = f.end in
      let s : take (image_end i + n * 16) bytes ≡ take (image_end i + n * 16) other =
      sym (part_same bytes other end r.whole same 0 (image_end i + n * 16) (omega (arith, table-room n))) in
      let l = text.past-the-entries bytes other i n s pixels end a (other-long bytes other end r.whole same) in
      (ap (framed i) (l.0 ∙ sym a), l.1)

  -- What is read depends only on the bytes before the end that the answer gives.
  pub read-local : (rows columns : ℕ) → read_answer bytes (length pixels) ≡ Ok (frame_read rows columns end)
      → (read_answer other (length pixels) ≡ Ok (frame_read rows columns end)) × (read_pixels other pixels ≡ read_pixels bytes pixels)
  unfolding read_answer read_pixels
  read-local rows columns p =
      let f = (accepted-iff bytes (length pixels) rows columns end).0 p in
      let h = f.header in
      let r = reach h.image h.tables f.free in
      let o = header-same bytes other end r.whole same h f.accepted r.start in
      let t = tables-same h.image h.tables f.free in
      (rw o (t.0 ∙ to-tables bytes (length pixels) rows columns end h.image h.tables f.rows_are f.columns-are f.free), rw (o, f.accepted) t.1)
