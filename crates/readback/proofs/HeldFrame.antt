-- A written frame in a held buffer: 19 is not due, and the buffer's form, number of pixels and pixels are those written.
-- Assumes nothing.
use Rattle.std.specs.Prelude.{Ok, Some}
use mathlib.Core.Path.{◌≡◌, refl, sym, ap, ◌∙◌}
use mathlib.Core.Bool.{true, ◌&&◌}
use mathlib.Core.List.{List, ◌++◌, append-nil}
use Prim.Native.Nat.{ℕ, ◌-◌}
use native.Mathlib.Omega.{arith}
use lib.ListN.{length, length-append, length-replicate, drop_of_length-le}
use Rattle.lists.specs.Bytes.{zeros, held_bytes}
use Rattle.lists.proofs.Tests.{and-true-right}
use Rattle.lists.proofs.Same.{same_refl, same-eq}
use Rattle.layout.specs.declared.Width.{Width}
use Rattle.layout.specs.declared.Underflow.{Underflow}
use Rattle.layout.specs.declared.Underflow.TheVariants as U
use Rattle.layout.specs.declared.BinaryTables.{BinaryTables}
use Rattle.layout.specs.declared.Tables.TheVariants as T
use Rattle.layout.specs.declared.Form.{Form}
use Rattle.layout.specs.declared.Header.{Header}
use Rattle.layout.specs.Layout.{pixel_count}
use Rattle.header.specs.Header.{header_of}
use Rattle.reader.specs.Reader.{read_answer, read_pixels}
use Rattle.writer.specs.Writer.{Made, frame, refused, writer_frame}
use Rattle.readback.specs.Written.{Pixels, underflows_for}
use Rattle.readback.specs.Held.{named_by, held_count, held_form, held_pixels, is_frame, is_read, is_held}
use Rattle.readback.proofs.ReadBack.{header-back, answer_back, pixels-back, frame_back}

named : (w : Width) (u : Underflow) (b n : ℕ) → named_by w (underflows_for u b n) ≡ Some (record { width = w; underflow = u })
named w U.None b n = refl
named w (U.Subtracted e) b n = refl

pub held-pixels-are : (held : List ℕ) → held_pixels held ≡ read_pixels held (zeros (held_count held))
unfolding held_pixels
held-pixels-are held = refl

pub held-is : (held : List ℕ) → is_held held ≡ (is_read (read_answer held (held_count held)) && is_frame held (writer_frame held (held_form held) (held_pixels held)))
unfolding is_held
held-is held = refl

-- a frame fills its own buffer again
again : (n : ℕ) (f : List ℕ) → held_bytes (length (held_bytes n f)) f ≡ held_bytes n f
unfolding held_bytes
again n f =
    let e : length (f ++ zeros (n - length f)) - length f ≡ n - length f = rw (length-append, length-replicate) (omega arith) in
    rw e

module _ (given : List ℕ) (h : Header) (t : BinaryTables) (accepted : header_of given ≡ Ok h) (binary : h.tables ≡ T.Format100 t)
    (form : Form) (vs : List ℕ) (all : length vs ≡ pixel_count h.image) (fits : Pixels vs) (f : List ℕ) (written : writer_frame given (Some form) vs ≡ frame f) (n : ℕ) where
  pub form-held : held_form (held_bytes n f) ≡ Some form
  unfolding held_form
  form-held = rw (header-back given h t accepted binary form vs all fits f written n) (named form.width form.underflow _ _)

  pub count_held : held_count (held_bytes n f) ≡ pixel_count h.image
  unfolding held_count
  count_held = rw (header-back given h t accepted binary form vs all fits f written n)

  pub pixels-held : held_pixels (held_bytes n f) ≡ vs
  pixels-held =
      let k : ℕ = pixel_count h.image in
      held-pixels-are (held_bytes n f)
      ∙ ap (λ (m : ℕ). read_pixels (held_bytes n f) (zeros m)) count_held
      ∙ pixels-back given h t accepted binary form vs all fits f written n (zeros k) (rw length-replicate (omega arith))
      ∙ ap (λ (l : List ℕ). vs ++ l) (drop_of_length-le (zeros k) {i = k} (rw length-replicate (omega arith)))
      ∙ append-nil vs

  -- 19 is not due
  pub frame-held : is_held (held_bytes n f) ≡ true
  frame-held =
      held-is (held_bytes n f)
      ∙ rw (
        count_held,
        answer_back given h t accepted binary form vs all fits f written n (pixel_count h.image) (omega arith),
        form-held,
        pixels-held,
        frame_back given h t accepted binary form vs all fits f written n,
        again n f,
      )
      (same_refl (held_bytes n f))

-- where 19 is not due, the buffer is the writer's frame for its own pixels in the form that its header names
pub held-frame : {P : Type 0} (held : List ℕ) → is_held held ≡ true
    → ((f : List ℕ) → writer_frame held (held_form held) (held_pixels held) ≡ frame f → held ≡ held_bytes (length held) f → P) → P
held-frame {P} held h k = go (writer_frame held (held_form held) (held_pixels held)) refl (and-true-right (is_read (read_answer held (held_count held))) _ (sym (held-is held) ∙ h))
  where
    go : (m : Made) → writer_frame held (held_form held) (held_pixels held) ≡ m → is_frame held m ≡ true → P
    go (frame f) e q = k f e (same-eq held (held_bytes (length held) f) q)
    go (refused r) e q = let z : ◌≡◌ {A = ℕ} 0 1 = cc in absurd (omega arith)
