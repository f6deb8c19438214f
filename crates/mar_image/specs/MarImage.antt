-- Request A2: what reading a mar image plate answers and leaves in the pixel array, for any bytes.
use Rattle.lists.specs.Chain.{on_ok}
use Rattle.layout.specs.Layout.{frame_read}
use Rattle.layout.specs.declared.Frame.{Frame}
use Rattle.marks.specs.declared.Entry.{Entry}
use Rattle.refusal.specs.declared.Refusal.{Refusal}
use Rattle.std.specs.Prelude.{ℕ, ◌+◌, ◌*◌, List, [], ◌++◌, length, drop, ltb, if◌then◌else◌, Err, Ok, Result, Option}
use Rattle.refusal.specs.declared.Refusal.TheVariants as R
use Rattle.layout.specs.declared.Width.TheVariants as W
use Rattle.marks.specs.Marks.{first_bad, with_entries, pixels_by}
use Rattle.byte_order.specs.Numbers.{numbers}
use Rattle.mar_header.specs.declared.Side.{Side}
use Rattle.mar_header.specs.declared.MarHeader.{MarHeader}
use Rattle.mar_header.specs.Plate.{side_pixels, plate_pixel_count, record_bytes, records_for}
use Rattle.mar_header.specs.MarHeader.{mar_header}
use Rattle.mar_image.specs.Pairs.{pair_entries}

-- one header record, the unsigned 16-bit image, the records of pairs
abbrev pub image_start : Side → ℕ
image_start s = record_bytes s

abbrev pub image_end : Side → ℕ
image_end s = image_start s + plate_pixel_count s * 2

abbrev pub plate_end : MarHeader → ℕ
plate_end h = image_end h.side + records_for h.side h.pairs * record_bytes h.side

abbrev pub stored_image : List ℕ → MarHeader → List ℕ
stored_image bytes h = numbers h.order 2 (plate_pixel_count h.side) (drop (image_start h.side) bytes)

-- the rest of the last record is not examined
abbrev pub stored_pairs : List ℕ → MarHeader → List (Option Entry)
stored_pairs bytes h = pair_entries h.order h.pairs (drop (image_end h.side) bytes)

-- a pair stands only at a pixel of 65535, one at most; the first bad one decides
abbrev pub checked_pairs : List ℕ → List (Option Entry) → Result (Unit {0}) Refusal
checked_pairs vs es = first_bad W.Two vs [] 0 es

-- a 65535 without a pair stays; 13 sets the pixels to 0
unfoldable pub plate_pixels : List ℕ → List (Option Entry) → List ℕ
unfolding first_bad with_entries
plate_pixels vs es = pixels_by (checked_pairs vs es) (with_entries 65535 W.Two es 0 vs)

abbrev pub answer_by : Side → ℕ → Result (Unit {0}) Refusal → Result Frame Refusal
answer_by s end c = on_ok c Err (λ u. Ok (frame_read (side_pixels s) (side_pixels s) end))

-- 10, 11 and 13 in this order, for an array of so many places
unfoldable pub image_answer : List ℕ → MarHeader → ℕ → Result Frame Refusal
image_answer bytes h places =
    if ltb places (plate_pixel_count h.side) then Err R.PixelArrayShort else
    if ltb (length bytes) (plate_end h) then Err R.DataTruncated else
    answer_by h.side (plate_end h) (checked_pairs (stored_image bytes h) (stored_pairs bytes h))

-- the array after it: 10 and 11 leave it as it was, and places past N are never written
unfoldable pub image_pixels : List ℕ → MarHeader → List ℕ → List ℕ
unfolding plate_pixels
image_pixels bytes h px =
    if ltb (length px) (plate_pixel_count h.side) then px else
    if ltb (length bytes) (plate_end h) then px else
    plate_pixels (stored_image bytes h) (stored_pairs bytes h) ++ drop (plate_pixel_count h.side) px

-- the answer: 28, 1, 29, then 10, 11 and 13
unfoldable pub mar_answer : List ℕ → ℕ → Result Frame Refusal
mar_answer bytes places = on_ok (mar_header bytes) Err (λ h. image_answer bytes h places)

-- the array afterwards: the header's refusals leave it as it was
unfoldable pub mar_pixels : List ℕ → List ℕ → List ℕ
mar_pixels bytes px = on_ok (mar_header bytes) (λ r. px) (λ h. image_pixels bytes h px)
