-- Document 01, "Writing and holding" and "Numbers given back": what writing answers and leaves in the output.
use Rattle.std.specs.Prelude.{ℕ, Bool, false, List, length, take, nat_le, nat_lt, if◌then◌else◌, Err, None, Ok, Option, Result, Some}
use Rattle.refusal.specs.declared.Refusal.{Refusal}
use Rattle.refusal.specs.declared.Refusal.TheVariants as R
use Rattle.layout.specs.declared.EntryWidth.TheVariants as E
use Rattle.layout.specs.declared.Underflow.{Underflow}
use Rattle.layout.specs.declared.Underflow.TheVariants as U
use Rattle.layout.specs.declared.Underflows.{Underflows}
use Rattle.layout.specs.declared.Underflows.TheVariants as H
use Rattle.layout.specs.declared.Tables.{Tables}
use Rattle.layout.specs.declared.Tables.TheVariants as T
use Rattle.layout.specs.declared.Form.{Form}
use Rattle.layout.specs.declared.Header.{Header}
use Rattle.layout.specs.Layout.{pixel_count}
use Rattle.header.specs.Body.{baseline_of}
use Rattle.header.specs.Header.{header_of}
use Rattle.expand.specs.Steps.{Stored}
use Rattle.pixel_counts.specs.Counts.{any_above255}
use Rattle.writer.specs.Storing.{stored_for}
use Rattle.lists.specs.Bytes.{held_bytes}
use Rattle.writer.specs.Frame.{frame_bytes}

-- what the writer makes: a frame, or the refusal that is due, 18 apart
pub data Made : Type 0 where
  frame : List ℕ → Made
  refused : Refusal → Made

-- a baseline, or none
pub data Base : Type 0 where
  base : ℕ → Base
  no_base : Base

-- line 79 where the header has -1: everything wrong with it is 16
abbrev pub line_base : Result ℕ Refusal → Base
line_base (Ok n) = if nat_le n 65535 then base n else no_base
line_base (Err r) = no_base

-- the baseline that an accepted header gives to a form; kind none needs none
abbrev pub base_for : List ℕ → Underflows → Underflow → Base
base_for header h U.None = base 0
base_for header H.Unused (U.Subtracted e) = line_base (baseline_of header)
base_for header (H.NoWidth b) (U.Subtracted e) = base b
base_for header (H.Counted w n b) (U.Subtracted e) = base b

-- the same as it is answered
abbrev pub base_answer : Base → Option ℕ
base_answer (base b) = Some b
base_answer no_base = None

-- 17: an underflow entry too large for its width; two bytes hold every baseline
abbrev pub underflow_too_large : Underflow → List ℕ → Bool
underflow_too_large U.None vs = false
underflow_too_large (U.Subtracted E.One) vs = any_above255 vs
underflow_too_large (U.Subtracted E.Two) vs = false

-- 17, or the frame of a form for the pixels vs
abbrev pub made_of : List ℕ → Form → Stored → Made
made_of header form s =
    if underflow_too_large form.underflow s.under then refused R.UnderflowTooLarge else
    frame (frame_bytes header form s)

abbrev pub made_with : List ℕ → Form → List ℕ → Base → Made
made_with header form vs (base b) = made_of header form (stored_for form b vs)
made_with header form vs no_base = refused R.FormUnavailable

-- 16: FORMAT 86, a form that is not listed, or a baseline that the header does not give
abbrev pub made_as : List ℕ → Tables → Option Form → List ℕ → Made
made_as header (T.Format86 n) asked vs = refused R.FormUnavailable
made_as header (T.Format100 t) None vs = refused R.FormUnavailable
made_as header (T.Format100 t) (Some form) vs = made_with header form vs (base_for header t.underflows form.underflow)

-- 10, and then the frame from the header's own bytes for its N pixels
abbrev pub made_from : List ℕ → Option Form → List ℕ → Header → Made
made_from given asked pixels h =
    if nat_lt (length pixels) (pixel_count h.image) then refused R.PixelArrayShort else
    made_as (take h.image.start given) h.tables asked (take (pixel_count h.image) pixels)

abbrev pub made_by : List ℕ → Option Form → List ℕ → Result Header Refusal → Made
made_by given asked pixels (Ok h) = made_from given asked pixels h
made_by given asked pixels (Err r) = refused r

-- the writer's frame: the header's refusals, 10, 16, 17
unfoldable pub writer_frame : List ℕ → Option Form → List ℕ → Made
unfolding stored_for frame_bytes any_above255
writer_frame given asked pixels = made_by given asked pixels (header_of given)

-- 18, in a buffer of so many bytes
abbrev pub answer_of : ℕ → Made → Result ℕ Refusal
answer_of room (frame f) = if nat_lt room (length f) then Err R.OutputShort else Ok (length f)
answer_of room (refused r) = Err r

-- the buffer afterwards: a refusal leaves every byte
abbrev pub output_of : List ℕ → Made → List ℕ
output_of out (frame f) = if nat_lt (length out) (length f) then out else held_bytes (length out) f
output_of out (refused r) = out

unfoldable pub write_answer : List ℕ → Option Form → List ℕ → ℕ → Result ℕ Refusal
unfolding writer_frame
write_answer given asked pixels room = answer_of room (writer_frame given asked pixels)

unfoldable pub write_bytes : List ℕ → Option Form → List ℕ → List ℕ → List ℕ
unfolding writer_frame held_bytes
write_bytes given asked pixels out = output_of out (writer_frame given asked pixels)
