-- Where 19 is not due: the held buffer's header, form and pixels, as the read-back theorem takes them.
-- Assumes nothing.
use mathlib.Core.Path.{◌≡◌, refl, sym, ap, subst, ◌∙◌}
use mathlib.Core.Bool.{Bool, true, false, not}
use mathlib.Core.List.{List, [], ◌∷◌, ◌++◌, append-nil}
use Prim.Native.Nat.{ℕ, zero, suc, ◌<◌}
use native.Mathlib.Omega.{arith}
use lib.Dec.{ltb}
use lib.ListN.{length, drop, get_or, length-replicate, drop_of_length-le}
use Rattle.std.specs.Prelude.{if◌then◌else◌, Err, None, Ok, Option, Result, Some}
use Rattle.lists.specs.Bytes.{zeros, held_bytes}
use Rattle.lists.proofs.Tests.{and-true-left}
use Rattle.refusal.specs.declared.Refusal.{Refusal}
use Rattle.refusal.specs.declared.Refusal.TheVariants as R
use Rattle.layout.specs.declared.Image.{Image}
use Rattle.layout.specs.declared.BinaryTables.{BinaryTables}
use Rattle.layout.specs.declared.Tables.{Tables}
use Rattle.layout.specs.declared.Tables.TheVariants as T
use Rattle.layout.specs.declared.Form.{Form}
use Rattle.layout.specs.declared.Header.{Header}
use Rattle.layout.specs.Layout.{pixel_count, binary_end}
use Rattle.header.specs.Header.{header_of}
use Rattle.expand.specs.Expand.{padding_zero, tables_exhausted, baseline_too_large, frame_pixels, binary_answer, binary_pixels}
use Rattle.reader.specs.Reader.{framed, read_answer, read_pixels}
use Rattle.writer.specs.Writer.{frame, refused, writer_frame}
use Rattle.readback.specs.Written.{Pixels}
use Rattle.readback.specs.Held.{held_count, held_form, held_pixels, is_read, is_held}
use Rattle.readback.proofs.Storing.{Below}
use Rattle.readback.proofs.Reached.{length-frame, frame_below}
use Rattle.readback.proofs.HeldFrame.{held-pixels-are, held-is, held-frame}

apart : false ≡ true → ⊥
apart e = let z : ◌≡◌ {A = ℕ} 0 1 = cc in omega arith

-- none of 10 to 15 is due
pub record Passed (a b c d e : Bool) : Type 0 where
  pub room : a ≡ false
  pub whole : b ≡ false
  pub padded : c ≡ true
  pub taken : d ≡ true
  pub small : e ≡ false

passed : (i : Image) (a b c d e : Bool) (p q r s t : Refusal) (end : ℕ)
    → is_read (framed i (if◌then◌else◌ a (Err p) (if◌then◌else◌ b (Err q) (if◌then◌else◌ (not c) (Err r) (if◌then◌else◌ (not d) (Err s) (if◌then◌else◌ e (Err t) (Ok end))))))) ≡ true
    → Passed a b c d e
passed i true b c d e p q r s t end h = absurd (apart h)
passed i false true c d e p q r s t end h = absurd (apart h)
passed i false false false d e p q r s t end h = absurd (apart h)
passed i false false true false e p q r s t end h = absurd (apart h)
passed i false false true true true p q r s t end h = absurd (apart h)
passed i false false true true false p q r s t end h = record { room = refl; whole = refl; padded = refl; taken = refl; small = refl }

module _ (bytes : List ℕ) (i : Image) (t : BinaryTables) where
  all-passed : (places : ℕ) → is_read (framed i (binary_answer bytes i t places)) ≡ true
      → Passed (ltb places (pixel_count i)) (ltb (length bytes) (binary_end i t)) (padding_zero bytes i t) (tables_exhausted bytes i t) (baseline_too_large bytes i t)
  unfolding binary_answer
  all-passed places h = passed i _ _ _ _ _ _ _ _ _ _ _ h

  chosen : (a b c d e : Bool) (x px rest z : List ℕ) → Passed a b c d e
      → if◌then◌else◌ a px (if◌then◌else◌ b px (if◌then◌else◌ (not c) x (if◌then◌else◌ (not d) x (if◌then◌else◌ e x z)) ++ rest)) ≡ z ++ rest
  chosen a b c d e x px rest z p = rw (p.room, p.whole, p.padded, p.taken, p.small)

  pub frame-pixels : (px : List ℕ) → is_read (framed i (binary_answer bytes i t (length px))) ≡ true
      → binary_pixels bytes i t px ≡ frame_pixels bytes i t ++ drop (pixel_count i) px
  unfolding binary_pixels
  frame-pixels px h = chosen _ _ _ _ _ _ px (drop (pixel_count i) px) (frame_pixels bytes i t) (all-passed (length px) h)

-- the header, the form and the frame of a held buffer
pub record Opened (held : List ℕ) : Type 0 where
  pub header : Header
  pub tables : BinaryTables
  pub form : Form
  pub bytes : List ℕ
  pub accepted : header_of held ≡ Ok header
  pub binary : header.tables ≡ T.Format100 tables
  pub named : held_form held ≡ Some form
  pub written : writer_frame held (Some form) (held_pixels held) ≡ frame bytes
  pub filled : held ≡ held_bytes (length held) bytes
  pub all : length (held_pixels held) ≡ pixel_count header.image

pub count_of : (held : List ℕ) (h : Header) → header_of held ≡ Ok h → held_count held ≡ pixel_count h.image
unfolding held_count
count_of held h e = rw e

-- a buffer that is read as FORMAT 100
module _ (held : List ℕ) (h : Header) (t : BinaryTables) (e : header_of held ≡ Ok h) (q : h.tables ≡ T.Format100 t) (r : is_read (read_answer held (held_count held)) ≡ true) where
  read_is : is_read (framed h.image (binary_answer held h.image t (length (zeros (held_count held))))) ≡ true
  unfolding read_answer
  read_is = rw length-replicate (rw (e, q) at r)

  pub read-passed : Passed (ltb (length (zeros (held_count held))) (pixel_count h.image)) (ltb (length held) (binary_end h.image t)) (padding_zero held h.image t) (tables_exhausted held h.image t) (baseline_too_large held h.image t)
  read-passed = all-passed held h.image t (length (zeros (held_count held))) read_is

  pub pixels-read : held_pixels held ≡ frame_pixels held h.image t
  unfolding read_pixels
  pixels-read =
      held-pixels-are held
      ∙ rw (e, q) (frame-pixels held h.image t (zeros (held_count held)) read_is)
      ∙ ap (λ (l : List ℕ). frame_pixels held h.image t ++ l)
      (drop_of_length-le (zeros (held_count held)) {i = pixel_count h.image} (rw length-replicate (omega (arith, count_of held h e))))
      ∙ append-nil (frame_pixels held h.image t)

module _ (held : List ℕ) (h : Header) (t : BinaryTables) (e : header_of held ≡ Ok h) (q : h.tables ≡ T.Format100 t) (i : is_held held ≡ true) where
  pub read_held : is_read (read_answer held (held_count held)) ≡ true
  read_held = and-true-left _ _ (sym (held-is held) ∙ i)

  pub pixels-of : held_pixels held ≡ frame_pixels held h.image t
  pixels-of = pixels-read held h t e q read_held

  pub pixels-all : length (held_pixels held) ≡ pixel_count h.image
  pixels-all = ap length pixels-of ∙ length-frame held h.image t

  below_get : (n : ℕ) (vs : List ℕ) → 0 < n → Below n vs → (k : ℕ) → get_or vs k 0 < n
  below_get n [] z b k = z
  below_get n (v ∷ vs) z b zero = b.0
  below_get n (v ∷ vs) z b (suc k) = below_get n vs z b.1 k

  -- pixels read from bytes have 32 bits
  pub pixels-fit : ((k : ℕ) → get_or held k 0 < 256) → Pixels (held_pixels held)
  pixels-fit small =
      let p = read-passed held h t e q read_held in
      subst Pixels (sym pixels-of) (below_get 4294967296 (frame_pixels held h.image t) (omega arith) (frame_below held small h.image t p.small))

-- a refusal is no frame
unmade : {r : Refusal} {f : List ℕ} → refused r ≡ frame f → ⊥
unmade e = let z : ◌≡◌ {A = ℕ} 0 1 = cc in omega arith

unmade-either : (t : Bool) (p q : Refusal) (f : List ℕ) → if◌then◌else◌ t (refused p) (refused q) ≡ frame f → ⊥
unmade-either true p q f e = unmade e
unmade-either false p q f e = unmade e

module _ (held px f : List ℕ) (a : Option Form) (w : writer_frame held a px ≡ frame f) where
  no_header : (r : Refusal) → header_of held ≡ Err r → ⊥
  unfolding writer_frame
  no_header r e = unmade (rw e at w)

  no-86 : (h : Header) (n : ℕ) → header_of held ≡ Ok h → h.tables ≡ T.Format86 n → ⊥
  unfolding writer_frame
  no-86 h n e q = unmade-either (ltb (length px) (pixel_count h.image)) R.PixelArrayShort R.FormUnavailable f (rw (e, q) at w)

  no-form : (h : Header) (t : BinaryTables) → header_of held ≡ Ok h → h.tables ≡ T.Format100 t → a ≡ None → ⊥
  unfolding writer_frame
  no-form h t e q n = unmade-either (ltb (length px) (pixel_count h.image)) R.PixelArrayShort R.FormUnavailable f (rw (e, q, n) at w)

-- a buffer that is held has a header of FORMAT 100, and a form
pub opened : (held : List ℕ) → is_held held ≡ true → Opened held
opened held i = held-frame held i (λ f w filled. accept f filled (header_of held) refl w)
  where
    named : (f : List ℕ) → held ≡ held_bytes (length held) f → (h : Header) → header_of held ≡ Ok h → (t : BinaryTables) → h.tables ≡ T.Format100 t
        → (a : Option Form) → held_form held ≡ a → writer_frame held a (held_pixels held) ≡ frame f → Opened held
    named f filled h e t q (Some form) n w =
        record { header = h; tables = t; form = form; bytes = f; accepted = e; binary = q; named = n; written = w; filled = filled; all = pixels-all held h t e q i }
    named f filled h e t q None n w = absurd (no-form held (held_pixels held) f None w h t e q refl)

    binary : (f : List ℕ) → held ≡ held_bytes (length held) f → (h : Header) → header_of held ≡ Ok h → (t : Tables) → h.tables ≡ t
        → writer_frame held (held_form held) (held_pixels held) ≡ frame f → Opened held
    binary f filled h e (T.Format86 n) q w = absurd (no-86 held (held_pixels held) f (held_form held) w h n e q)
    binary f filled h e (T.Format100 t) q w = named f filled h e t q (held_form held) refl w

    accept : (f : List ℕ) → held ≡ held_bytes (length held) f → (a : Result Header Refusal) → header_of held ≡ a → writer_frame held (held_form held) (held_pixels held) ≡ frame f → Opened held
    accept f filled (Ok h) e w = binary f filled h e h.tables refl w
    accept f filled (Err r) e w = absurd (no_header held (held_pixels held) f (held_form held) w r e)
