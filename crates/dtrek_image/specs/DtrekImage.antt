-- Request A9: what reading a d*TREK image answers and leaves in the pixel array, for any bytes.
use Rattle.layout.specs.Layout.{frame_read}
use Rattle.layout.specs.declared.Frame.{Frame}
use Rattle.refusal.specs.declared.Refusal.{Refusal}
use Rattle.std.specs.Prelude.{ℕ, List, ◌++◌, length, drop, ltb, if◌then◌else◌, Err, Ok, Result}
use Rattle.lists.specs.Chain.{on_ok}
use Rattle.layout.specs.Form.{width_bytes}
use Rattle.layout.specs.Layout.{pixel_count, image_end}
use Rattle.byte_order.specs.Numbers.{numbers}
use Rattle.dtrek_header.specs.declared.DtrekHeader.{DtrekHeader}
use Rattle.refusal.specs.declared.Refusal.TheVariants as R
use Rattle.dtrek_header.specs.DtrekHeader.{dtrek_header}

-- the pixels right behind the header, each of the type's bytes in the byte order
abbrev pub stored_pixels : List ℕ → DtrekHeader → List ℕ
stored_pixels bytes h = numbers h.order (width_bytes h.image.width) (pixel_count h.image) (drop h.image.start bytes)

-- 10 and then 11, for an array of so many places
unfoldable pub image_answer : List ℕ → DtrekHeader → ℕ → Result Frame Refusal
image_answer bytes h places =
    if ltb places (pixel_count h.image) then Err R.PixelArrayShort else
    if ltb (length bytes) (image_end h.image) then Err R.DataTruncated else
    Ok (frame_read h.image.rows h.image.columns (image_end h.image))

-- the array afterwards: every refusal leaves it as it was, and places past N are never written
unfoldable pub image_pixels : List ℕ → DtrekHeader → List ℕ → List ℕ
image_pixels bytes h px =
    if ltb (length px) (pixel_count h.image) then px else
    if ltb (length bytes) (image_end h.image) then px else
    stored_pixels bytes h ++ drop (pixel_count h.image) px

-- 32, 1, 33, 34, 35, then 10 and 11
unfoldable pub dtrek_answer : List ℕ → ℕ → Result Frame Refusal
dtrek_answer bytes places = on_ok (dtrek_header bytes) Err (λ h. image_answer bytes h places)

unfoldable pub dtrek_pixels : List ℕ → List ℕ → List ℕ
dtrek_pixels bytes px = on_ok (dtrek_header bytes) (λ r. px) (λ h. image_pixels bytes h px)
