-- Document 01, "Writing and holding": what the header of a written frame says, and which pixels a form can hold.
use Rattle.std.specs.Prelude.{ℕ, ◌≤◌, ◌<◌, List, length, get_or, take}
use Rattle.layout.specs.declared.EntryWidth.TheVariants as E
use Rattle.layout.specs.declared.Underflow.{Underflow}
use Rattle.layout.specs.declared.Underflow.TheVariants as U
use Rattle.layout.specs.declared.Underflows.{Underflows}
use Rattle.layout.specs.declared.Underflows.TheVariants as H
use Rattle.layout.specs.declared.Image.{Image}
use Rattle.layout.specs.declared.BinaryTables.{BinaryTables}
use Rattle.layout.specs.declared.Tables.TheVariants as T
use Rattle.layout.specs.declared.Form.{Form}
use Rattle.layout.specs.declared.Header.{Header}
use Rattle.expand.specs.Steps.{Stored}
use Rattle.writer.specs.Storing.{stored_for}
use Rattle.writer.specs.Writer.{Base, base, no_base, base_for}

-- a pixel has 32 bits
abbrev pub Pixels : List ℕ → Type 0
Pixels vs = (i : ℕ) → get_or vs i 0 < 4294967296

-- the bytes of a header that is accepted from `given`
abbrev pub header_bytes : List ℕ → Header → List ℕ
header_bytes given h = take h.image.start given

-- the baseline that an accepted header gives to a form, or none
abbrev pub base_of : List ℕ → Header → BinaryTables → Form → Base
base_of given h t form = base_for (header_bytes given h) t.underflows form.underflow

-- its number, 0 for none
abbrev pub base_number : Base → ℕ
base_number (base b) = b
base_number no_base = 0

-- what is stored of the pixels vs
abbrev pub stored_in : List ℕ → Header → BinaryTables → Form → List ℕ → Stored
stored_in given h t form vs = stored_for form (base_number (base_of given h t form)) vs

-- the header of a written frame: kind none has -1, another kind a count, its entry width and the baseline
abbrev pub underflows_for : Underflow → ℕ → ℕ → Underflows
underflows_for U.None b n = H.Unused
underflows_for (U.Subtracted e) b n = H.Counted e n b

-- the form's width, with the start and the size of the header given
abbrev pub image_for : Form → ℕ → ℕ → ℕ → Image
image_for form start rows columns = record { start = start; rows = rows; columns = columns; width = form.width }

-- the numbers of entries
abbrev pub tables_for : Form → ℕ → Stored → BinaryTables
tables_for form b s = record { underflows = underflows_for form.underflow b (length s.under); two = length s.two; four = length s.four }

abbrev pub header_for : Form → ℕ → ℕ → ℕ → ℕ → Stored → Header
header_for form start rows columns b s = record { image = image_for form start rows columns; tables = T.Format100 (tables_for form b s) }

-- a form can hold pixels where 16 and 17 are not due: kind none holds every pixel; another kind needs a baseline,
-- and an underflow entry of one byte holds at most 255
abbrev pub CanHold : Underflow → Base → List ℕ → Type 0
CanHold U.None given vs = Unit {0}
CanHold (U.Subtracted e) no_base vs = ⊥
CanHold (U.Subtracted E.One) (base b) vs = (i : ℕ) → i < length vs → get_or vs i 0 ≤ b → get_or vs i 0 ≤ 255
CanHold (U.Subtracted E.Two) (base b) vs = Unit {0}
