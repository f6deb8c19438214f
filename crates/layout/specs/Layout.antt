-- Document 01, "Expanding pixels": where a frame's parts lie. The image starts right after the header and has no padding.
use Rattle.layout.specs.declared.Frame.{Frame}
use Rattle.std.specs.Prelude.{ℕ, ◌+◌, ◌*◌}
use Rattle.lists.specs.Bytes.{padded_to}
use Rattle.layout.specs.declared.Image.{Image}
use Rattle.layout.specs.declared.Underflows.{Underflows}
use Rattle.layout.specs.declared.Underflows.TheVariants.{Unused, NoWidth, Counted}
use Rattle.layout.specs.declared.BinaryTables.{BinaryTables}
use Rattle.layout.specs.Form.{width_bytes, entry_bytes}

-- N, the number of pixels
abbrev pub pixel_count : Image → ℕ
pixel_count i = i.rows * i.columns

abbrev pub image_bytes : Image → ℕ
image_bytes i = pixel_count i * width_bytes i.width

abbrev pub image_end : Image → ℕ
image_end i = i.start + image_bytes i

-- what reading an image answers: its size, and where the frame ends
abbrev pub frame_read : ℕ → ℕ → ℕ → Frame
frame_read rows columns end = record { rows = rows; columns = columns; end = end }

-- FORMAT 100: the bytes of a table of n entries of w bytes, padded to a multiple of 16; an empty table takes none
unfoldable pub table_bytes : ℕ → ℕ → ℕ
unfolding padded_to
table_bytes w n = padded_to 16 (n * w)

-- FORMAT 86: the bytes of a table of n entries of 16 characters, padded to a multiple of 512
unfoldable pub text_table_bytes : ℕ → ℕ
unfolding padded_to
text_table_bytes n = padded_to 512 (n * 16)

-- the entries of the underflow table, and the bytes of each; a count of -1 has none
abbrev pub underflow_count : Underflows → ℕ
underflow_count Unused = 0
underflow_count (NoWidth b) = 0
underflow_count (Counted e n b) = n

abbrev pub underflow_width : Underflows → ℕ
underflow_width Unused = 0
underflow_width (NoWidth b) = 0
underflow_width (Counted e n b) = entry_bytes e

-- FORMAT 100: underflow, two-byte and four-byte tables follow the image in that order
abbrev pub two_start : Image → BinaryTables → ℕ
two_start i t = image_end i + table_bytes (underflow_width t.underflows) (underflow_count t.underflows)

abbrev pub four_start : Image → BinaryTables → ℕ
four_start i t = two_start i t + table_bytes 2 t.two

-- where a frame of FORMAT 100 ends
abbrev pub binary_end : Image → BinaryTables → ℕ
binary_end i t = four_start i t + table_bytes 4 t.four

-- where a frame of FORMAT 86 with so many entries ends
abbrev pub text_end : Image → ℕ → ℕ
text_end i n = image_end i + text_table_bytes n
