-- The read-back theorem. An accepted header of FORMAT 100, N pixels of 32 bits and a form are given.
-- The writer gives a frame exactly where the form can hold the pixels. The reader then accepts that frame, in a buffer of any
-- length, and gives back the pixels, the header's rows and columns, and the frame's length as its end. The header of the frame
-- names the form, and the writer makes of it what it makes of the header given.
-- Assumes nothing.
use Rattle.layout.specs.Layout.{frame_read}
use Rattle.std.specs.Prelude.{Ok, Some}
use mathlib.Core.Path.{◌≡◌, refl, sym, ap, ◌∙◌}
use mathlib.Core.List.{List, ◌++◌}
use Prim.Native.Nat.{ℕ, ◌≤◌}
use lib.ListN.{length, drop}
use Rattle.refusal.specs.declared.Refusal.TheVariants as R
use Rattle.layout.specs.declared.BinaryTables.{BinaryTables}
use Rattle.layout.specs.declared.Tables.TheVariants as T
use Rattle.layout.specs.declared.Form.{Form}
use Rattle.layout.specs.declared.Header.{Header}
use Rattle.layout.specs.Layout.{pixel_count}
use Rattle.header.specs.Header.{header_of}
use Rattle.reader.specs.Reader.{read_answer, read_pixels}
use Rattle.lists.specs.Bytes.{held_bytes}
use Rattle.writer.specs.Frame.{frame_bytes, frame_length}
use Rattle.writer.specs.Writer.{frame, refused, base, no_base, made_with, writer_frame}
use Rattle.readback.specs.Written.{Pixels, header_bytes, base_of, base_number, stored_in, header_for, CanHold}
use Rattle.readback.proofs.Written.{made_held, held-made, made-refused}
use Rattle.readback.proofs.Facts as facts

module _ (given : List ℕ) (h : Header) (t : BinaryTables) (accepted : header_of given ≡ Ok h) (binary : h.tables ≡ T.Format100 t)
    (form : Form) (vs : List ℕ) (all : length vs ≡ pixel_count h.image) where
  -- the form can hold the pixels: the writer gives the frame
  pub held-is-written : CanHold form.underflow (base_of given h t form) vs
      → writer_frame given (Some form) vs ≡ frame (frame_bytes (header_bytes given h) form (stored_in given h t form vs))
  held-is-written c =
      facts.made_at given h t form vs accepted binary all ∙ made_held (header_bytes given h) t.underflows form vs (base_of given h t form) refl c

  -- and only then
  pub written-is-held : (f : List ℕ) → writer_frame given (Some form) vs ≡ frame f → CanHold form.underflow (base_of given h t form) vs
  written-is-held f w =
      held-made (header_bytes given h) form vs f (base_of given h t form) (sym (facts.made_at given h t form vs accepted binary all) ∙ w)

  -- 16: a baseline is asked for, and none is given
  pub refused-16 : base_of given h t form ≡ no_base → writer_frame given (Some form) vs ≡ refused R.FormUnavailable
  refused-16 e = facts.made_at given h t form vs accepted binary all ∙ ap (made_with (header_bytes given h) form vs) e

  -- 17: there is a baseline, and the form cannot hold the pixels
  pub refused-17 : (b : ℕ) → base_of given h t form ≡ base b → (CanHold form.underflow (base b) vs → ⊥) → writer_frame given (Some form) vs ≡ refused R.UnderflowTooLarge
  refused-17 b e n =
      facts.made_at given h t form vs accepted binary all
      ∙ ap (made_with (header_bytes given h) form vs) e
      ∙ made-refused (header_bytes given h) form vs b n

  module _ (fits : Pixels vs) (f : List ℕ) (written : writer_frame given (Some form) vs ≡ frame f) (n : ℕ) where
    -- the frame's header has the rows and columns of the header given, the form's width, and the numbers of entries
    pub header-back : header_of (held_bytes n f)
        ≡ Ok (header_for form h.image.start h.image.rows h.image.columns (base_number (base_of given h t form)) (stored_in given h t form vs))
    header-back = facts.held-header given h t accepted binary form vs all fits f written n

    -- the frame is accepted, and ends where it ends
    pub answer_back : (places : ℕ) → pixel_count h.image ≤ places → read_answer (held_bytes n f) places ≡ Ok (frame_read h.image.rows h.image.columns (length f))
    answer_back places room = facts.held-answer given h t accepted binary form vs all fits f written n places (rw all room)

    -- the pixels are read back
    pub pixels-back : (px : List ℕ) → pixel_count h.image ≤ length px → read_pixels (held_bytes n f) px ≡ vs ++ drop (pixel_count h.image) px
    pixels-back px room =
        facts.held-pixels given h t accepted binary form vs all fits f written n px (rw all room) ∙ ap (λ (k : ℕ). vs ++ drop k px) all

    -- the writer makes of the frame's header what it makes of the header given, for any pixels
    pub writer-back : (px : List ℕ) → writer_frame (held_bytes n f) (Some form) px ≡ writer_frame given (Some form) px
    writer-back px = facts.held-writer given h t accepted binary form vs all fits f written n px

    -- so the frame is the writer's for what is read from it
    pub frame_back : writer_frame (held_bytes n f) (Some form) vs ≡ frame f
    frame_back = writer-back vs ∙ written

    -- the frame's length is the length foretold
    pub length_back : length f ≡ frame_length h.image.start form (stored_in given h t form vs)
    length_back = facts.frame-length given h t accepted binary form vs all fits f written
