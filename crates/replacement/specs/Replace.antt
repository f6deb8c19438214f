-- One pixel of a held frame replaced: what is answered, and the buffer afterwards.
use Rattle.refusal.specs.declared.Refusal.{Refusal}
use Rattle.std.specs.Prelude.{ℕ, Bool, true, not, List, eqb, leb, ltb, length, get_or, set, if◌then◌else◌, Err, None, Ok, Option, Result, Some}
use Rattle.refusal.specs.declared.Refusal.TheVariants as R
use Rattle.writer.specs.Writer.{Made, frame, refused, writer_frame, output_of}
use Rattle.readback.specs.Held.{held_count, held_form, held_pixels, is_held}

-- what the pixel must hold
abbrev pub meets : Option ℕ → ℕ → Bool
meets None v = true
meets (Some n) v = eqb v n

-- the frame held, with another count in one pixel
abbrev pub changed_frame : List ℕ → ℕ → ℕ → Made
changed_frame held pixel count = writer_frame held (held_form held) (set (held_pixels held) pixel count)

-- 17, 18
abbrev pub replaced_as : (room old : ℕ) → Made → Result ℕ Refusal
replaced_as room old (frame f) = if ltb room (length f) then Err R.OutputShort else Ok old
replaced_as room old (refused r) = Err r

-- 19, 24, 23, 17, 18
unfoldable pub replace_answer : List ℕ → ℕ → Option ℕ → ℕ → Result ℕ Refusal
replace_answer held pixel expected count =
    if not (is_held held) then Err R.HeldNotCanonical else
    if leb (held_count held) pixel then Err R.NoSuchPixel else
    if not (meets expected (get_or (held_pixels held) pixel 0)) then Err R.PixelDiffers else
    replaced_as (length held) (get_or (held_pixels held) pixel 0) (changed_frame held pixel count)

-- a refusal leaves every byte
unfoldable pub replace_bytes : List ℕ → ℕ → Option ℕ → ℕ → List ℕ
replace_bytes held pixel expected count =
    if not (is_held held) then held else
    if leb (held_count held) pixel then held else
    if not (meets expected (get_or (held_pixels held) pixel 0)) then held else
    output_of held (changed_frame held pixel count)
