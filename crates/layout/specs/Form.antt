-- The form of a frame, in bytes.
use Rattle.std.specs.Prelude.{ℕ, eqb, if◌then◌else◌, None, Option, Some}
use Rattle.layout.specs.declared.Width.{Width}
use Rattle.layout.specs.declared.Width.TheVariants as W
use Rattle.layout.specs.declared.EntryWidth.{EntryWidth}
use Rattle.layout.specs.declared.EntryWidth.TheVariants as E
use Rattle.layout.specs.declared.Underflow.{Underflow}
use Rattle.layout.specs.declared.Underflow.TheVariants as U
use Rattle.layout.specs.declared.Form.{Form}

abbrev pub width_bytes : Width → ℕ
width_bytes W.One = 1
width_bytes W.Two = 2
width_bytes W.Four = 4

abbrev pub entry_bytes : EntryWidth → ℕ
entry_bytes E.One = 1
entry_bytes E.Two = 2

-- the same width, as that of a table's entry
abbrev pub entry_width : EntryWidth → Width
entry_width E.One = W.One
entry_width E.Two = W.Two

abbrev pub form_of : Width → Underflow → Form
form_of w u = record { width = w; underflow = u }

-- the bytes of an underflow entry; kind none has none
abbrev pub underflow_bytes : Underflow → ℕ
underflow_bytes U.None = 0
underflow_bytes (U.Subtracted e) = entry_bytes e

-- a pixel width is 1, 2 or 4
unfoldable pub width_from : ℕ → Option Width
width_from n =
    if eqb n 1 then Some W.One else
    if eqb n 2 then Some W.Two else
    if eqb n 4 then Some W.Four else
    None

-- the width of an underflow entry is 1 or 2
unfoldable pub entry_from : ℕ → Option EntryWidth
entry_from n =
    if eqb n 1 then Some E.One else
    if eqb n 2 then Some E.Two else
    None
