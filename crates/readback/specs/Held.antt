-- Document 01, refusal 19: the held buffer can be read, and is to its end the writer's frame for its own pixels in the form
-- that its header names.
use Rattle.layout.specs.declared.Frame.{Frame}
use Rattle.refusal.specs.declared.Refusal.{Refusal}
use Rattle.layout.specs.declared.Form.{Form}
use Rattle.std.specs.Prelude.{ℕ, Bool, true, false, ◌&&◌, List, length, Err, None, Ok, Option, Result, Some}
use Rattle.lists.specs.Bytes.{zeros, held_bytes, same_bytes}
use Rattle.layout.specs.declared.Width.{Width}
use Rattle.layout.specs.declared.Underflow.{Underflow}
use Rattle.layout.specs.declared.Underflow.TheVariants as U
use Rattle.layout.specs.declared.Underflows.{Underflows}
use Rattle.layout.specs.declared.Underflows.TheVariants as H
use Rattle.layout.specs.declared.Tables.{Tables}
use Rattle.layout.specs.declared.Tables.TheVariants as T
use Rattle.layout.specs.declared.Header.{Header}
use Rattle.layout.specs.Form.{form_of}
use Rattle.layout.specs.Layout.{pixel_count}
use Rattle.header.specs.Header.{header_of}
use Rattle.reader.specs.Reader.{read_answer, read_pixels}
use Rattle.writer.specs.Writer.{Made, frame, refused, writer_frame}

-- the form that a header names: -1 is kind none, a count with an underflow width is that kind; a count with the width 0
-- names no form, and neither does FORMAT 86
abbrev pub form_with : Width → Underflow → Option Form
form_with w u = Some (form_of w u)

abbrev pub named_by : Width → Underflows → Option Form
named_by w H.Unused = form_with w U.None
named_by w (H.NoWidth b) = None
named_by w (H.Counted e n b) = form_with w (U.Subtracted e)

abbrev pub named_in : Width → Tables → Option Form
named_in w (T.Format86 n) = None
named_in w (T.Format100 t) = named_by w t.underflows

abbrev pub form_named : Header → Option Form
form_named h = named_in h.image.width h.tables

abbrev pub form_by : Result Header Refusal → Option Form
form_by (Ok h) = form_named h
form_by (Err r) = None

abbrev pub count_by : Result Header Refusal → ℕ
count_by (Ok h) = pixel_count h.image
count_by (Err r) = 0

-- the number of pixels of the held frame, its form and its pixels
unfoldable pub held_count : List ℕ → ℕ
held_count held = count_by (header_of held)

unfoldable pub held_form : List ℕ → Option Form
held_form held = form_by (header_of held)

unfoldable pub held_pixels : List ℕ → List ℕ
unfolding held_count
held_pixels held = read_pixels held (zeros (held_count held))

abbrev pub is_frame : List ℕ → Made → Bool
is_frame held (frame f) = same_bytes held (held_bytes (length held) f)
is_frame held (refused r) = false

abbrev pub is_read : Result Frame Refusal → Bool
is_read (Ok f) = true
is_read (Err r) = false

-- 19 is not due
unfoldable pub is_held : List ℕ → Bool
unfolding held_count held_form held_pixels same_bytes
is_held held = is_read (read_answer held (held_count held)) && is_frame held (writer_frame held (held_form held) (held_pixels held))
