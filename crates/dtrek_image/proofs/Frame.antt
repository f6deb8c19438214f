-- The ways through an image: refusals 10 and 11, and the part that is loaded.
-- Assumes nothing.
use Rattle.std.specs.Prelude.{Err, Ok}
use Rattle.layout.specs.Layout.{frame_read}
use mathlib.Core.Path.{◌≡◌}
use mathlib.Core.List.{List, ◌++◌}
use Prim.Native.Nat.{ℕ, ◌+◌, ◌-◌, ◌*◌, ◌≤◌, ◌<◌}
use native.Mathlib.Omega.{arith}
use lib.ListN.{length, take, drop, length-drop}
use lib.Seq.{length-take-le}
use borrow.Author.Tests.{lt-ltb, le-ltb}
use Rattle.layout.specs.declared.Width.{Width}
use Rattle.layout.specs.declared.Width.TheVariants as W
use Rattle.layout.specs.Form.{width_bytes}
use Rattle.layout.specs.Layout.{pixel_count}
use Rattle.byte_order.specs.Numbers.{numbers}
use Rattle.byte_order.proofs.Laws.{numbers-take}
use Rattle.dtrek_header.specs.declared.DtrekHeader.{DtrekHeader}
use Rattle.refusal.specs.declared.Refusal.TheVariants as R
use Rattle.dtrek_image.specs.DtrekImage.{stored_pixels, image_answer, image_pixels}

-- n numbers are at most four times as many bytes
pub bytes_le : (n : ℕ) {w : ℕ} (v : Width) → w ≡ width_bytes v → n * w ≤ n * 4
bytes_le n W.One e = rw e (omega arith)
bytes_le n W.Two e = rw e (omega arith)
bytes_le n W.Four e = rw e (omega arith)

module _ (bytes px : List ℕ) (h : DtrekHeader) where
  pub short : (n : ℕ) → n ≡ pixel_count h.image → length px < n → (Err R.PixelArrayShort ≡ image_answer bytes h (length px)) × (px ≡ image_pixels bytes h px)
  unfolding image_answer image_pixels
  short n e l = (rw (← e, lt-ltb _ _ l), rw (← e, lt-ltb _ _ l))

  module _ (n w : ℕ) (e : n ≡ pixel_count h.image) (f : w ≡ width_bytes h.image.width) (l : n ≤ length px) where
    pub truncated : length bytes < h.image.start + n * w → (Err R.DataTruncated ≡ image_answer bytes h (length px)) × (px ≡ image_pixels bytes h px)
    unfolding image_answer image_pixels
    truncated k = (rw (← e, ← f, le-ltb _ _ l, lt-ltb _ _ k), rw (← e, ← f, le-ltb _ _ l, lt-ltb _ _ k))

    module _ (k : (h.image.start + n * w) ≤ length bytes) where
      abbrev part : List ℕ
      part = take (h.image.start + n * w - h.image.start) (drop h.image.start bytes)

      pub room : length (take n px) * width_bytes h.image.width ≤ length part
      room =
          let s : h.image.start + n * w - h.image.start ≡ n * w = omega arith in
          let m : n * w ≤ length (drop h.image.start bytes) = simp length-drop (omega arith) in
          rw (← f, length-take-le n px l, s, length-take-le (n * w) (drop h.image.start bytes) m) (omega arith)

      stored : numbers h.order (width_bytes h.image.width) (length (take n px)) part ≡ stored_pixels bytes h
      stored =
          let s : h.image.start + n * w - h.image.start ≡ n * w = omega arith in
          rw (← e, ← f, length-take-le n px l, s, numbers-take h.order w n (n * w) (drop h.image.start bytes) (omega arith))

      pub framed : (out : List ℕ) → out ≡ numbers h.order (width_bytes h.image.width) (length (take n px)) part
          → (Ok (frame_read h.image.rows h.image.columns (h.image.start + n * w)) ≡ image_answer bytes h (length px)) × (out ++ drop n px ≡ image_pixels bytes h px)
      unfolding image_answer image_pixels
      framed out q =
          (rw (← e, ← f, le-ltb _ _ l, le-ltb _ _ k), rw (q, stored, ← e, ← f, le-ltb _ _ l, le-ltb _ _ k))
