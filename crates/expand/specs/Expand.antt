-- Document 01, "Expanding pixels" and "Numbers given back": FORMAT 100 from bytes to pixels.
use Rattle.refusal.specs.declared.Refusal.{Refusal}
use Rattle.std.specs.Prelude.{ℕ, ◌+◌, ◌-◌, ◌*◌, Bool, true, false, not, ◌&&◌, List, ◌++◌, length, take, drop, nat_le, nat_lt, if◌then◌else◌, Err, Ok, Result}
use Rattle.lists.specs.Bytes.{zeros}
use Rattle.refusal.specs.declared.Refusal.TheVariants as R
use Rattle.layout.specs.declared.Image.{Image}
use Rattle.layout.specs.declared.Underflows.{Underflows}
use Rattle.layout.specs.declared.Underflows.TheVariants.{Unused, NoWidth, Counted}
use Rattle.layout.specs.declared.BinaryTables.{BinaryTables}
use Rattle.layout.specs.Form.{width_bytes}
use Rattle.layout.specs.Layout.{pixel_count, image_end, table_bytes, underflow_count, underflow_width, two_start, four_start, binary_end}
use Rattle.table.specs.Table.{entries, all_zero}
use Rattle.expand.specs.Steps.{Stored, after_c, exhausted, sums_too_large, fill_by, any_too_large}

-- the frame in values: underflow, two-byte and four-byte tables follow the image in that order
unfoldable pub stored_of : List ℕ → Image → BinaryTables → Stored
unfolding entries table_bytes
stored_of bytes i t = record {
  image = entries (width_bytes i.width) (pixel_count i) (drop i.start bytes);
  under = entries (underflow_width t.underflows) (underflow_count t.underflows) (drop (image_end i) bytes);
  two = entries 2 t.two (drop (two_start i t) bytes);
  four = entries 4 t.four (drop (four_start i t) bytes);
}

-- the padding is zero that follows n entries of w bytes of a table at start
unfoldable pub table_padding_zero : ℕ → ℕ → ℕ → List ℕ → Bool
unfolding all_zero table_bytes
table_padding_zero w n start bytes = all_zero (take (table_bytes w n - n * w) (drop (start + n * w) bytes))

-- 12 is not due: the padding of each table is zero
unfoldable pub padding_zero : List ℕ → Image → BinaryTables → Bool
unfolding table_padding_zero
padding_zero bytes i t =
    table_padding_zero (underflow_width t.underflows) (underflow_count t.underflows) (image_end i) bytes
    && table_padding_zero 2 t.two (two_start i t) bytes
    && table_padding_zero 4 t.four (four_start i t) bytes

-- the parts of a frame of at most 4,294,967,296 pixels are there, and the padding of each table is zero
unfoldable pub parts_whole : List ℕ → Image → BinaryTables → Bool
unfolding padding_zero
parts_whole bytes i t = nat_le (pixel_count i) 4294967296 && nat_le (binary_end i t) (length bytes) && padding_zero bytes i t

-- step c applies if the underflow count is not -1
abbrev pub applies_c : Underflows → Bool
applies_c Unused = false
applies_c (NoWidth b) = true
applies_c (Counted e n b) = true

-- the baseline; 0 where none is read
abbrev pub baseline_of : Underflows → ℕ
baseline_of Unused = 0
baseline_of (NoWidth b) = b
baseline_of (Counted e n b) = b

-- 14 is not due
abbrev pub tables_exhausted : List ℕ → Image → BinaryTables → Bool
tables_exhausted bytes i t = exhausted (width_bytes i.width) (applies_c t.underflows) (stored_of bytes i t)

-- 15 is due
abbrev pub baseline_too_large : List ℕ → Image → BinaryTables → Bool
baseline_too_large bytes i t =
    sums_too_large (width_bytes i.width) (applies_c t.underflows) (baseline_of t.underflows) (stored_of bytes i t)

-- an accepted frame's pixels
abbrev pub frame_pixels : List ℕ → Image → BinaryTables → List ℕ
frame_pixels bytes i t =
    after_c (width_bytes i.width) (applies_c t.underflows) (baseline_of t.underflows) (stored_of bytes i t)

-- the answer: 10, 11, 12, 14 and 15 in that order, or where the frame ends
unfoldable pub binary_answer : List ℕ → Image → BinaryTables → ℕ → Result ℕ Refusal
unfolding padding_zero stored_of exhausted any_too_large
binary_answer bytes i t places =
    if nat_lt places (pixel_count i) then Err R.PixelArrayShort else
    if nat_lt (length bytes) (binary_end i t) then Err R.DataTruncated else
    if not (padding_zero bytes i t) then Err R.PaddingNotZero else
    if not (tables_exhausted bytes i t) then Err R.CountMismatch else
    if baseline_too_large bytes i t then Err R.SumTooLarge else
    Ok (binary_end i t)

-- the first N places afterwards: 12, 14 and 15 set them to 0
abbrev pub first_pixels : List ℕ → Image → BinaryTables → List ℕ
first_pixels bytes i t =
    if not (padding_zero bytes i t) then zeros (pixel_count i) else
    if not (tables_exhausted bytes i t) then zeros (pixel_count i) else
    if baseline_too_large bytes i t then zeros (pixel_count i) else
    frame_pixels bytes i t

-- the pixel array afterwards: 10 and 11 leave it as it was, and places past N are never written
unfoldable pub binary_pixels : List ℕ → Image → BinaryTables → List ℕ → List ℕ
unfolding padding_zero stored_of exhausted any_too_large fill_by
binary_pixels bytes i t pixels =
    if nat_lt (length pixels) (pixel_count i) then pixels else
    if nat_lt (length bytes) (binary_end i t) then pixels else
    (first_pixels bytes i t ++ drop (pixel_count i) pixels)
