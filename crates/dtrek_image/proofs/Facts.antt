-- What reading a d*TREK image leaves in the pixel array.
-- Assumes nothing.
use Rattle.layout.specs.Layout.{frame_read}
use mathlib.Core.Path.{◌≡◌, refl, sym, ap, ◌∙◌}
use mathlib.Core.Bool.{Bool, true, false}
use mathlib.Core.List.{List, ◌++◌}
use Prim.Native.Nat.{ℕ}
use native.Mathlib.Omega.{arith}
use lib.ListN.{length, take, drop}
use lib.Seq.{take_at, drop_at}
use lib.Dec.{ltb}
use Rattle.std.specs.Prelude.{if◌then◌else◌, Err, Ok, Result}
use Rattle.lists.specs.Chain.{on_ok}
use Rattle.refusal.specs.declared.Refusal.{Refusal}
use Rattle.refusal.specs.declared.Refusal.TheVariants as R
use Rattle.layout.specs.Form.{width_bytes}
use Rattle.layout.specs.Layout.{pixel_count, image_end}
use Rattle.byte_order.proofs.Laws.{length-numbers}
use Rattle.dtrek_header.specs.declared.DtrekHeader.{DtrekHeader}
use Rattle.dtrek_header.specs.DtrekHeader.{dtrek_header}
use Rattle.dtrek_image.specs.DtrekImage.{stored_pixels, image_answer, image_pixels, dtrek_answer, dtrek_pixels}
use Rattle.dtrek_image.specs.Theorems.{RefusedKept, Loaded, AcceptedLoaded}

module _ (bytes px : List ℕ) where
  kept_if : (h : DtrekHeader) {r : Refusal} (s t : Bool) (xs : List ℕ) (rows columns end : ℕ)
      → if◌then◌else◌ s (Err R.PixelArrayShort) (if◌then◌else◌ t (Err R.DataTruncated) (Ok (frame_read rows columns end))) ≡ Err r
      → if◌then◌else◌ s px (if◌then◌else◌ t px xs) ≡ px
  kept_if h true t xs a b e p = refl
  kept_if h false true xs a b e p = refl
  kept_if h false false xs a b e p = let z : ◌≡◌ {A = ℕ} 0 1 = cc in absurd (omega arith)

  kept_by : {r : Refusal} (a : Result DtrekHeader Refusal) → on_ok a Err (λ h. image_answer bytes h (length px)) ≡ Err r → on_ok a (λ r. px) (λ h. image_pixels bytes h px) ≡ px
  unfolding image_answer image_pixels
  kept_by (Ok h) p = kept_if h (ltb (length px) (pixel_count h.image)) (ltb (length bytes) (image_end h.image)) (stored_pixels bytes h ++ drop (pixel_count h.image) px) h.image.rows h.image.columns (image_end h.image) p
  kept_by (Err r) p = refl

  pub refused-kept : RefusedKept bytes px
  unfolding dtrek_answer dtrek_pixels
  refused-kept r p = kept_by (dtrek_header bytes) p

  stored-length : (h : DtrekHeader) → length (stored_pixels bytes h) ≡ pixel_count h.image
  stored-length h = length-numbers h.order (width_bytes h.image.width) (pixel_count h.image) (drop h.image.start bytes)

  loaded-is : (h : DtrekHeader) → dtrek_pixels bytes px ≡ stored_pixels bytes h ++ drop (pixel_count h.image) px → Loaded bytes px h
  loaded-is h e = record {
    front = ap (take (pixel_count h.image)) e ∙ take_at (stored_pixels bytes h) (drop (pixel_count h.image) px) (pixel_count h.image) (stored-length h);
    rest = ap (drop (pixel_count h.image)) e ∙ drop_at (stored_pixels bytes h) (drop (pixel_count h.image) px) (pixel_count h.image) (stored-length h);
  }

  loaded-if : (h : DtrekHeader) {rows columns end : ℕ} (s t : Bool) (xs : List ℕ)
      → if◌then◌else◌ s (Err R.PixelArrayShort) (if◌then◌else◌ t (Err R.DataTruncated) (Ok (frame_read h.image.rows h.image.columns (image_end h.image)))) ≡ Ok (frame_read rows columns end)
      → if◌then◌else◌ s px (if◌then◌else◌ t px xs) ≡ xs
  loaded-if h true t xs p = let z : ◌≡◌ {A = ℕ} 0 1 = cc in absurd (omega arith)
  loaded-if h false true xs p = let z : ◌≡◌ {A = ℕ} 0 1 = cc in absurd (omega arith)
  loaded-if h false false xs p = refl

  pub accepted-loaded : AcceptedLoaded bytes px
  unfolding dtrek_answer dtrek_pixels image_answer image_pixels
  accepted-loaded h rows columns end e p =
      loaded-is h
      (ap (λ (a : Result DtrekHeader Refusal). on_ok a (λ r. px) (λ h. image_pixels bytes h px)) e
      ∙ loaded-if h (ltb (length px) (pixel_count h.image)) (ltb (length bytes) (image_end h.image)) (stored_pixels bytes h ++ drop (pixel_count h.image) px) (ap (λ (a : Result DtrekHeader Refusal). on_ok a Err (λ h. image_answer bytes h (length px))) (sym e) ∙ p))
