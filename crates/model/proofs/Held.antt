-- What a held buffer with a written frame gives, by the read-back.
-- Assumes nothing.
use Rattle.std.specs.Prelude.{Ok, Some}
use mathlib.Core.Path.{◌≡◌, refl, sym, ap, ◌∙◌}
use mathlib.Core.Bool.{Bool, true, false}
use mathlib.Core.List.{List, [], ◌∷◌}
use Prim.Native.Nat.{ℕ, zero, suc, ◌-◌, ◌≤◌, ◌<◌}
use native.Mathlib.Omega.{arith}
use lib.ListN.{length, get_or, set, length-set, length-append, length-replicate}
use lib.Seq.{get_or-set_same, get_or-set_other}
use lib.Dec.{eqb, leb}
use borrow.Author.Tests.{eqb-true, eqb-false, leb-true, leb-false}
use Rattle.lists.specs.Bytes.{zeros, held_bytes}
use Rattle.layout.specs.declared.BinaryTables.{BinaryTables}
use Rattle.layout.specs.declared.Tables.TheVariants as T
use Rattle.layout.specs.declared.Header.{Header}
use Rattle.layout.specs.Layout.{pixel_count}
use Rattle.header.specs.Header.{header_of}
use Rattle.writer.specs.Writer.{frame, writer_frame}
use Rattle.readback.specs.Held.{held_count, held_form, held_pixels, is_held}
use Rattle.readback.proofs.ReadBack.{writer-back}
use Rattle.readback.proofs.HeldFrame.{form-held, count_held, pixels-held, frame-held}
use Rattle.archive.specs.Calls.{changed}
use Rattle.model.specs.Model.{Opening}

-- so many pixels of 32 bits
pub record Pixels (n : ℕ) (vs : List ℕ) : Type 0 where
  pub size : length vs ≡ n
  pub small : (i : ℕ) → get_or vs i 0 < 4294967296

-- with one count put in
pub pixels-set : {n : ℕ} {vs : List ℕ} → Pixels n vs → (p c : ℕ) → c < 4294967296 → Pixels n (set vs p c)
pixels-set {n} {vs} v p c h = record { size = length-set vs p c ∙ v.size; small = small }
  where
    go : (i : ℕ) (b t : Bool) → eqb i p ≡ b → leb (length vs) p ≡ t → get_or (set vs p c) i 0 < 4294967296
    go i false t e f = rw (get_or-set_other vs p i c 0 (eqb-false i p e)) (v.small i)
    go i true false e f = rw (eqb-true i p e, get_or-set_same vs p c 0 (leb-false (length vs) p f)) h
    go i true true e f = rw (set_past vs p (leb-true (length vs) p f)) (v.small i)
      where
        set_past : (l : List ℕ) (k : ℕ) → length l ≤ k → set l k c ≡ l
        set_past [] k q = refl
        set_past (x ∷ l) zero q = absurd (omega arith)
        set_past (x ∷ l) (suc k) q = ap (λ (r : List ℕ). x ∷ r) (set_past l k (omega arith))

    small : (i : ℕ) → get_or (set vs p c) i 0 < 4294967296
    small i = go i (eqb i p) (leb (length vs) p) refl refl

-- f is the writer's frame for the pixels, and the held buffer has room for it
pub record Fits (o : Opening) (vs f : List ℕ) : Type 0 where
  pub made : writer_frame o.header (Some o.form) vs ≡ frame f
  pub room : length f ≤ o.held_length

-- the pixels decide the frame
pub same-frame : (o : Opening) (vs f g : List ℕ) → Fits o vs f → Fits o vs g → f ≡ g
same-frame o vs f g a b = let e : frame f ≡ frame g = sym a.made ∙ b.made in cc

-- the opened header is accepted as one of FORMAT 100 with as many pixels as were opened
pub record Given (o : Opening) : Type 0 where
  pub header : Header
  pub tables : BinaryTables
  pub accepted : header_of o.header ≡ Ok header
  pub binary : header.tables ≡ T.Format100 tables
  pub count : length o.pixels ≡ pixel_count header.image

pub length-held : (n : ℕ) (f : List ℕ) → length f ≤ n → length (held_bytes n f) ≡ n
unfolding held_bytes
length-held n f h = length-append f (zeros (n - length f)) ∙ rw length-replicate (omega arith)

module _ (o : Opening) (vs f : List ℕ) (p : Pixels (length o.pixels) vs) (fits : Fits o vs f) (g : Given o) where
  abbrev held_now : List ℕ
  held_now = held_bytes o.held_length f

  all : length vs ≡ pixel_count g.header.image
  all = p.size ∙ g.count

  pub held-length : length held_now ≡ o.held_length
  held-length = length-held o.held_length f fits.room

  pub held-count : held_count held_now ≡ length o.pixels
  held-count = count_held o.header g.header g.tables g.accepted g.binary o.form vs all p.small f fits.made o.held_length ∙ sym g.count

  pub held-pixels : held_pixels held_now ≡ vs
  held-pixels = pixels-held o.header g.header g.tables g.accepted g.binary o.form vs all p.small f fits.made o.held_length

  pub held-form : held_form held_now ≡ Some o.form
  held-form = form-held o.header g.header g.tables g.accepted g.binary o.form vs all p.small f fits.made o.held_length

  -- 19 is not due
  pub is-held : is_held held_now ≡ true
  is-held = frame-held o.header g.header g.tables g.accepted g.binary o.form vs all p.small f fits.made o.held_length

  -- the frame with another count in one pixel
  pub changed-is : (ledger : List ℕ) (lines pixel count : ℕ) → changed held_now ledger lines pixel count ≡ writer_frame o.header (Some o.form) (set vs pixel count)
  changed-is ledger lines pixel count =
      rw (held-form, held-pixels)
      (writer-back o.header g.header g.tables g.accepted g.binary o.form vs all p.small f fits.made o.held_length (set vs pixel count))
