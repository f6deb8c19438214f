-- The C interface: the form asked for, and what reading, writing and opening a frame answer, as plain numbers.
use Rattle.layout.specs.declared.Frame.{Frame}
use Rattle.layout.specs.declared.EntryWidth.{EntryWidth}
use Rattle.std.specs.Prelude.{ℕ, eqb, if◌then◌else◌, Err, None, Ok, Option, Result, Some}
use Rattle.layout.specs.declared.Width.{Width}
use Rattle.layout.specs.declared.Underflow.{Underflow}
use Rattle.layout.specs.declared.Underflow.TheVariants as U
use Rattle.layout.specs.declared.Form.{Form}
use Rattle.layout.specs.Form.{width_from, entry_from}
use Rattle.refusal.specs.declared.Refusal.{Refusal}
use Rattle.refusal.specs.Codes.{refusal_number, refusal_place}
use Rattle.opening.specs.declared.Opened.{Opened}
use Rattle.layout.specs.Layout.{frame_read}
use Rattle.frame_report.specs.declared.OpenResult.{OpenResult}
use Rattle.frame_report.specs.declared.WriteResult.{WriteResult}

abbrev pub form : Width → Underflow → Form
form w u = record { width = w; underflow = u }

-- underflow 0 is kind none, 1 and 2 the baseline subtracted with entries of that many bytes; any other number is no form
abbrev pub by_entry : Width → Option EntryWidth → Option Form
by_entry w (Some e) = Some (form w (U.Subtracted e))
by_entry w None = None

abbrev pub as_form : Width → ℕ → Option Form
as_form w underflow = if eqb underflow 0 then Some (form w U.None) else by_entry w (entry_from underflow)

abbrev pub by_width : ℕ → Option Width → Option Form
by_width underflow (Some w) = as_form w underflow
by_width underflow None = None

abbrev pub asked_form : ℕ → ℕ → Option Form
asked_form width underflow = by_width underflow (width_from width)

-- the length of the frame written, or the refusal's number and value
abbrev pub write_result : Result ℕ Refusal → WriteResult
write_result (Ok n) = record { refusal = 0; place = 0; column = 0; length = n }
write_result (Err r) = record { refusal = refusal_number r; place = refusal_place r; column = 0; length = 0 }

-- what was read, with what writing it answers
abbrev pub held_result : Frame → WriteResult → OpenResult
held_result f w =
    record { refusal = w.refusal; place = w.place; column = w.column; rows = f.rows; columns = f.columns; end = f.end; length = w.length }

-- the frame read and the length of the frame held; a refusal to write leaves what was read
abbrev pub open_result : Result Opened Refusal → OpenResult
open_result (Ok o) = held_result o.frame (write_result o.held)
open_result (Err r) = held_result (frame_read 0 0 0) (write_result (Err r))
