-- Document 01, "Writing and holding": the text of the two header lines that are rewritten.
use Rattle.std.specs.Prelude.{ℕ, ◌+◌, ◌-◌, ◌*◌, Bool, ◌&&◌, List, ◌++◌, length, take, drop, replicate, leb}
use Rattle.lists.specs.Text.{codes}
use Rattle.lists.specs.Bytes.{same_bytes}
use Rattle.lists.specs.Digits.{digits_up_to, decimal}
use Rattle.layout.specs.declared.Underflow.{Underflow}
use Rattle.layout.specs.declared.Underflow.TheVariants as U
use Rattle.layout.specs.declared.Form.{Form}
use Rattle.layout.specs.Form.{width_bytes, underflow_bytes}
use Rattle.header_lines.specs.declared.LineId.{LineId}
use Rattle.header_lines.specs.declared.LineId.TheVariants as I
use Rattle.header_lines.specs.Lines.{position_of}
use Rattle.header_text.specs.declared.Counts.{Counts}

-- so many spaces
abbrev pub spaces : ℕ → List ℕ
spaces n = replicate n 32

-- a text with spaces behind it, up to the 24 characters of a cell
unfoldable pub cell : List ℕ → List ℕ
cell text = text ++ spaces (24 - length text)

-- kind none writes -1 for its count
abbrev pub underflow_text : Underflow → ℕ → List ℕ
underflow_text U.None n = codes "-1"
underflow_text (U.Subtracted e) n = decimal n

-- the data of NOVERFL for these counts: three cells
unfoldable pub counts_data : Underflow → Counts → List ℕ
unfolding cell digits_up_to
counts_data u c = cell (underflow_text u c.under) ++ (cell (decimal c.two) ++ cell (decimal c.four))

-- the data of NPIXELB: two cells, and spaces in the third
unfoldable pub npixelb_data : Form → List ℕ
unfolding cell digits_up_to
npixelb_data form = cell (decimal (width_bytes form.width)) ++ (cell (decimal (underflow_bytes form.underflow)) ++ spaces 24)

-- the header with other data in one line
unfoldable pub with_data : LineId → List ℕ → List ℕ → List ℕ
with_data id text header = take (position_of id * 80 + 8) header ++ (text ++ drop (position_of id * 80 + 80) header)

-- the header with the two lines for these counts
unfoldable pub relined : Form → Counts → List ℕ → List ℕ
unfolding with_data counts_data npixelb_data
relined form c header = with_data I.Npixelb (npixelb_data form) (with_data I.Noverfl (counts_data form.underflow c) header)

-- the data of a line
abbrev pub data_of : LineId → List ℕ → List ℕ
data_of id header = take 72 (drop (position_of id * 80 + 8) header)

-- the two lines are there, as the writer writes them for these counts
unfoldable pub lines_written : Form → Counts → List ℕ → Bool
unfolding same_bytes counts_data npixelb_data
lines_written form c header =
    leb 3200 (length header) && same_bytes (data_of I.Noverfl header) (counts_data form.underflow c) && same_bytes (data_of I.Npixelb header) (npixelb_data form)
