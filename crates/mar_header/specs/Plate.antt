-- Request A2 and source document 003: the sizes of a mar image plate.
use Rattle.std.specs.Prelude.{ℕ, ◌+◌, ◌-◌, ◌*◌, ◌/◌, eqb, if◌then◌else◌, None, Option, Some}
use Rattle.mar_header.specs.declared.Side.{Side}
use Rattle.mar_header.specs.declared.Side.TheVariants as S

-- images are 1200 or 2000 square
abbrev pub side_pixels : Side → ℕ
side_pixels S.Small = 1200
side_pixels S.Large = 2000

unfoldable pub side_from : ℕ → Option Side
side_from n =
    if eqb n 1200 then Some S.Small else
    if eqb n 2000 then Some S.Large else
    None

-- N, the number of pixels
abbrev pub plate_pixel_count : Side → ℕ
plate_pixel_count s = side_pixels s * side_pixels s

-- a record is as long as a row: 16 bits for each pixel
abbrev pub record_bytes : Side → ℕ
record_bytes s = side_pixels s * 2

-- 8 bytes for each high-intensity pair: 300 or 500 in a record
abbrev pub pairs_per_record : Side → ℕ
pairs_per_record s = record_bytes s / 8

-- the fewest records that hold n pairs
unfoldable pub records_for : Side → ℕ → ℕ
records_for s n = (n + (pairs_per_record s - 1)) / pairs_per_record s
