-- Width 4 with a baseline is never the smallest form.
-- Assumes nothing.
use Rattle.refusal.specs.declared.Refusal.{Refusal}
use mathlib.Core.Path.{◌≡◌, refl, sym, ap, ◌∙◌}
use mathlib.Core.Bool.{Bool, true, false}
use mathlib.Core.List.{List}
use Prim.Native.Nat.{ℕ, ◌+◌, ◌*◌, ◌≤◌}
use native.Mathlib.Omega.{arith}
use lib.ListN.{length, take}
use lib.Dec.{ltb}
use borrow.Author.Tests.{ltb-false}
use Rattle.std.specs.Prelude.{if◌then◌else◌, Err, Ok, Result, Some}
use Rattle.refusal.specs.declared.Refusal.TheVariants as R
use Rattle.layout.specs.declared.Width.TheVariants as W
use Rattle.layout.specs.declared.EntryWidth.{EntryWidth}
use Rattle.layout.specs.declared.EntryWidth.TheVariants as E
use Rattle.layout.specs.declared.Underflow.TheVariants as U
use Rattle.layout.specs.declared.Tables.{Tables}
use Rattle.layout.specs.declared.Tables.TheVariants as T
use Rattle.layout.specs.declared.Form.{Form}
use Rattle.layout.specs.declared.Header.{Header}
use Rattle.layout.specs.Form.{form_of, entry_bytes}
use Rattle.layout.specs.Layout.{pixel_count, table_bytes}
use Rattle.layout.proofs.Laws.{table_none}
use Rattle.header.specs.Header.{header_of}
use Rattle.writer.specs.Storing.{stored_for}
use Rattle.writer.specs.Frame.{frame_bytes, frame_length}
use Rattle.writer.specs.Writer as M
use Rattle.writer.specs.Writer.{Made, writer_frame, underflow_too_large, base_for, made_by, made_as, made_with}
use Rattle.writer.proofs.Whole.{frame-length, length-image, sized_of}
use Rattle.form_choice.specs.Choosing.{rank}
use Rattle.smallest.specs.Smallest.{made_in, smallest_form}
use Rattle.smallest.specs.Theorems.{SevenForms}
use Rattle.smallest.proofs.Choices.{same-frame, never-frame}
use Rattle.smallest.proofs.Theorems.{smallest-law}

abbrev plain : Form
plain = form_of W.Four U.None

abbrev lowered : EntryWidth → Form
lowered e = form_of W.Four (U.Subtracted e)

-- a frame that is made, of at most n bytes
record AtMost (m : Made) (n : ℕ) : Type 0 where
  frame : List ℕ
  made : m ≡ M.frame frame
  short : length frame ≤ n

-- kind none has no table behind an image of the same length
plain-short : (header vs : List ℕ) (e : EntryWidth) (b : ℕ) → 3200 ≤ length header
    → length (frame_bytes header plain (stored_for plain 0 vs)) ≤ length (frame_bytes header (lowered e) (stored_for (lowered e) b vs))
unfolding frame_length stored_for
plain-short header vs e b h =
    rw (frame-length header plain (stored_for plain 0 vs) h, frame-length header (lowered e) (stored_for (lowered e) b vs) h, length-image plain 0 vs, length-image (lowered e) b vs, table_none 0)
    (omega arith)

module _ (given pixels : List ℕ) (e : EntryWidth) (f : List ℕ) where
  by-base : (header vs : List ℕ) → 3200 ≤ length header → (x : M.Base) → made_with header (lowered e) vs x ≡ M.frame f → AtMost (made_with header plain vs (M.base 0)) (length f)
  by-base header vs h M.no_base q = never-frame q
  by-base header vs h (M.base b) q = go (underflow_too_large (U.Subtracted e) (stored_for (lowered e) b vs).under) q
    where
      go : (t : Bool) → if◌then◌else◌ t (M.refused R.UnderflowTooLarge) (M.frame (frame_bytes header (lowered e) (stored_for (lowered e) b vs))) ≡ M.frame f → AtMost (made_with header plain vs (M.base 0)) (length f)
      go true z = never-frame z
      go false z = record { frame = frame_bytes header plain (stored_for plain 0 vs); made = refl; short = rw (← same-frame z) (plain-short header vs e b h) }

  by-tables : (header vs : List ℕ) → 3200 ≤ length header → (t : Tables) → made_as header t (Some (lowered e)) vs ≡ M.frame f → AtMost (made_as header t (Some plain) vs) (length f)
  by-tables header vs h (T.Format86 n) q = never-frame q
  by-tables header vs h (T.Format100 t) q = by-base header vs h (base_for header t.underflows (U.Subtracted e)) q

  by_count : (h : Header) → header_of given ≡ Ok h → (t : Bool) → ltb (length pixels) (pixel_count h.image) ≡ t
      → if◌then◌else◌ t (M.refused R.PixelArrayShort) (made_as (take h.image.start given) h.tables (Some (lowered e)) (take (pixel_count h.image) pixels)) ≡ M.frame f
      → AtMost (if◌then◌else◌ t (M.refused R.PixelArrayShort) (made_as (take h.image.start given) h.tables (Some plain) (take (pixel_count h.image) pixels))) (length f)
  by_count h a true q z = never-frame z
  by_count h a false q z =
      by-tables (take h.image.start given) (take (pixel_count h.image) pixels) (sized_of given pixels h _ _ a refl refl (ltb-false _ _ q)).long h.tables z

  by_answer : (x : Result Header Refusal) → header_of given ≡ x → made_by given (Some (lowered e)) pixels x ≡ M.frame f → AtMost (made_by given (Some plain) pixels x) (length f)
  by_answer (Ok h) a z = by_count h a (ltb (length pixels) (pixel_count h.image)) refl z
  by_answer (Err r) a z = never-frame z

  plain-made : made_in given pixels (lowered e) ≡ M.frame f → AtMost (made_in given pixels plain) (length f)
  unfolding writer_frame
  plain-made z = by_answer (header_of given) refl z

preferred-plain : (e : EntryWidth) → rank (lowered e) ≤ rank plain → ⊥
preferred-plain E.One h = omega arith
preferred-plain E.Two h = omega arith

pub seven-forms : SevenForms
seven-forms given pixels e n q =
    let s = smallest-law given pixels (lowered e) n q in
    let p = plain-made given pixels e s.made-frame s.made in
    let l = s.no-shorter plain p.frame p.made in
    preferred-plain e (s.first plain p.frame p.made (omega (arith, p.short, s.length-is)))
