-- Request A2 and source document 003: the header record of a mar image plate, refusals 28, 1 and 29.
use Rattle.mar_header.specs.declared.Start.{Start}
use Rattle.refusal.specs.declared.Refusal.{Refusal}
use Rattle.std.specs.Prelude.{ℕ, ◌-◌, Bool, ◌&&◌, List, length, eqb, ltb, if◌then◌else◌, Err, None, Ok, Option, Result, Some}
use Rattle.refusal.specs.declared.Refusal.TheVariants as R
use Rattle.byte_order.specs.declared.ByteOrder.{ByteOrder}
use Rattle.byte_order.specs.declared.ByteOrder.TheVariants as O
use Rattle.byte_order.specs.Numbers.{number_at}
use Rattle.mar_header.specs.declared.Side.{Side}
use Rattle.mar_header.specs.declared.MarHeader.{MarHeader}
use Rattle.mar_header.specs.Plate.{side_pixels, side_from, record_bytes, records_for}

-- number k of the header, counted from 1 as document 003 does
abbrev pub header_number : ByteOrder → ℕ → List ℕ → ℕ
header_number o k bytes = number_at o 4 (k - 1) bytes

abbrev pub start_read : ByteOrder → Side → Start
start_read order side = record { order = order; side = side }

-- the byte order is the one that makes the first number a size
abbrev pub start_by : Option Side → Option Side → Option Start
start_by (Some s) big = Some (start_read O.Little s)
start_by None (Some s) = Some (start_read O.Big s)
start_by None None = None

unfoldable pub start_of : List ℕ → Option Start
unfolding side_from number_at
start_of bytes =
    if ltb (length bytes) 4 then None else
    start_by (side_from (header_number O.Little 1 bytes)) (side_from (header_number O.Big 1 bytes))

-- the second number is the first again, the third a record's bytes, the sixth the records that the fifth's pairs take
unfoldable pub consistent : ByteOrder → Side → List ℕ → Bool
unfolding number_at records_for
consistent o s bytes =
    eqb (header_number o 2 bytes) (side_pixels s)
    && (eqb (header_number o 3 bytes) (record_bytes s)
    && eqb (header_number o 6 bytes) (records_for s (header_number o 5 bytes)))

-- an accepted header's byte order, size and number of high-intensity pairs
abbrev pub plate_header : ByteOrder → Side → List ℕ → MarHeader
plate_header o s bytes = record { order = o; side = s; pairs = header_number o 5 bytes }

-- 28, 1 and 29 in this order
unfoldable pub header_by : List ℕ → Option Start → Result MarHeader Refusal
unfolding consistent
header_by bytes None = Err R.BadPlateSize
header_by bytes (Some st) =
    if ltb (length bytes) (record_bytes st.side) then Err R.HeaderTruncated else
    if consistent st.order st.side bytes then Ok (plate_header st.order st.side bytes) else
    Err R.PlateMismatch

unfoldable pub mar_header : List ℕ → Result MarHeader Refusal
unfolding start_of header_by
mar_header bytes = header_by bytes (start_of bytes)
