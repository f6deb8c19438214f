-- Document 01, "The header" and "Numbers given back": what reading a header answers, for any bytes.
use Rattle.lists.specs.Chain.{on_ok}
use Rattle.layout.specs.declared.Header.{Header}
use Rattle.refusal.specs.declared.Refusal.{Refusal}
use Rattle.std.specs.Prelude.{ℕ, List, Bool, true, false, length, take, ltb, if◌then◌else◌, Err, Ok, Result}
use Rattle.refusal.specs.declared.Refusal.TheVariants as R
use Rattle.header_lines.specs.declared.LineId.TheVariants as I
use Rattle.header_lines.specs.Lines.{on_line}
use Rattle.header.specs.declared.Format.{Format}
use Rattle.header.specs.declared.Counts.{Counts}
use Rattle.header.specs.declared.Widths.{Widths}
use Rattle.header.specs.declared.Numbers.{Numbers}
use Rattle.header.specs.Steps.{number_in}
use Rattle.header.specs.Lead.{lead_of, on_lead}
use Rattle.header.specs.Body.{counts_in, widths_in, baseline_in, is_linear}
use Rattle.header.specs.Ranges.{ranged_of}

-- 9 comes after 8
abbrev pub scaled_of : Result Header Refusal → Bool → Result Header Refusal
scaled_of (Ok h) true = Ok h
scaled_of (Ok h) false = Err R.NotLinear
scaled_of (Err r) linear = Err r

abbrev pub numbers : Counts → Widths → ℕ → ℕ → ℕ → Numbers
numbers counts widths rows columns baseline =
    record { counts = counts; widths = widths; rows = rows; columns = columns; baseline = baseline }

-- lines 20, 39, 40, 41, 58 and 79, each 7 then 3 (58 only 7); then 8 and 9
unfoldable pub body_of : Format → List ℕ → Result Header Refusal
body_of format header =
    on_ok (counts_in format header) Err (λ counts.
    on_ok (widths_in format header) Err (λ widths.
    on_ok (number_in I.Nrows header) Err (λ rows.
    on_ok (number_in I.Ncols header) Err (λ columns.
    on_line header I.Linear (Err R.BadLine) (λ linear.
    on_ok (baseline_in counts header) Err (λ baseline.
    scaled_of (ranged_of format (length header) (numbers counts widths rows columns baseline)) (is_linear linear)))))))

-- lines 0 to 2; then 1 again, where the bytes end before the header; then its other lines
unfoldable pub header_of : List ℕ → Result Header Refusal
header_of bytes =
    on_lead (lead_of bytes) Err (λ format end.
    if ltb (length bytes) end then Err R.HeaderTruncated else
    body_of format (take end bytes))
