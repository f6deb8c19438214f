-- Document 01, "Writing and holding": the bytes of the writer's frame.
use Rattle.std.specs.Prelude.{ℕ, ◌+◌, ◌*◌, List, ◌++◌, length}
use Rattle.lists.specs.Digits.{digits_up_to, decimal}
use Rattle.layout.specs.declared.Form.{Form}
use Rattle.layout.specs.Form.{width_bytes, underflow_bytes}
use Rattle.layout.specs.Layout.{table_bytes}
use Rattle.table.specs.Writing.{table_of, padded_table}
use Rattle.expand.specs.Steps.{Stored}
use Rattle.header_lines.specs.declared.LineId.TheVariants as I
use Rattle.header_text.specs.declared.Counts.{Counts}
use Rattle.header_text.specs.Text.{cell, underflow_text, npixelb_data, with_data}

-- the entries of each table
abbrev pub stored_counts : Stored → Counts
stored_counts s = record { under = length s.under; two = length s.two; four = length s.four }

-- the data of NOVERFL for what is stored
unfoldable pub noverfl_data : Form → Stored → List ℕ
unfolding cell digits_up_to
noverfl_data form s =
    cell (underflow_text form.underflow (length s.under)) ++ (cell (decimal (length s.two)) ++ cell (decimal (length s.four)))

-- the header is copied but for two lines
unfoldable pub rewritten : Form → Stored → List ℕ → List ℕ
unfolding with_data noverfl_data npixelb_data
rewritten form s header = with_data I.Npixelb (npixelb_data form) (with_data I.Noverfl (noverfl_data form s) header)

-- the image, and the three tables with their padding
unfoldable pub body_bytes : Form → Stored → List ℕ
unfolding table_of padded_table
body_bytes form s =
    table_of (width_bytes form.width) s.image
    ++ (padded_table (underflow_bytes form.underflow) s.under ++ (padded_table 2 s.two ++ padded_table 4 s.four))

-- the frame: the rewritten header and the body
unfoldable pub frame_bytes : List ℕ → Form → Stored → List ℕ
unfolding rewritten body_bytes
frame_bytes header form s = rewritten form s header ++ body_bytes form s

-- the length of that frame, for a header of so many bytes
unfoldable pub frame_length : ℕ → Form → Stored → ℕ
unfolding table_bytes
frame_length header form s =
    header + length s.image * width_bytes form.width
    + table_bytes (underflow_bytes form.underflow) (length s.under) + table_bytes 2 (length s.two) + table_bytes 4 (length s.four)
