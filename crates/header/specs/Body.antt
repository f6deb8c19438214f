-- Document 01: lines 20, 39, 58 and 79.
use Rattle.field.specs.declared.Field.{Field}
use Rattle.std.specs.Prelude.{ℕ, List, Bool, true, false, Err, None, Ok, Option, Result, Some}
use Rattle.refusal.specs.declared.Refusal.{Refusal}
use Rattle.refusal.specs.declared.Refusal.TheVariants as R
use Rattle.field.specs.declared.Cursor.{Cursor}
use Rattle.field.specs.Fields.{field_from, number_field, count_field, decimal_field}
use Rattle.header_lines.specs.declared.LineId.TheVariants as I
use Rattle.header_lines.specs.Lines.{position_of, on_line}
use Rattle.header.specs.declared.Format.{Format}
use Rattle.header.specs.declared.Format.TheVariants as F
use Rattle.header.specs.declared.Counts.{Counts}
use Rattle.header.specs.declared.Counts.TheVariants as C
use Rattle.header.specs.declared.Widths.{Widths}
use Rattle.header.specs.Steps.{line_number, on_number, value_of}

-- NOVERFL of FORMAT 86: one number
unfoldable pub counts86 : List ℕ → Result Counts Refusal
counts86 text = on_number (line_number I.Noverfl (number_field text 0)) Err (λ n _. Ok (C.Format86 n))

-- the two-byte and the four-byte entries
unfoldable pub binary_counts : List ℕ → ℕ → Option ℕ → Result Counts Refusal
binary_counts text after underflows =
    on_number (line_number I.Noverfl (number_field text after)) Err (λ two next.
    on_number (line_number I.Noverfl (number_field text next.at)) Err (λ four _.
    Ok (C.Format100 underflows two four)))

abbrev pub after_underflows : List ℕ → Option (Option ℕ × Cursor) → Result Counts Refusal
after_underflows text (Some (Some n, next)) = binary_counts text next.at (Some n)
after_underflows text (Some (None, next)) = binary_counts text next.at None
after_underflows text None = Err (R.BadField (position_of I.Noverfl))

-- NOVERFL of FORMAT 100: underflow count or -1, two-byte entries, four-byte entries
unfoldable pub counts100 : List ℕ → Result Counts Refusal
counts100 text = after_underflows text (count_field text 0)

abbrev pub counts_for : Format → List ℕ → Result Counts Refusal
counts_for F.Format86 text = counts86 text
counts_for F.Format100 text = counts100 text

-- line 20: 7, then 3
unfoldable pub counts_in : Format → List ℕ → Result Counts Refusal
counts_in format header = on_line header I.Noverfl (Err R.BadLine) (λ text. counts_for format text)

abbrev pub widths : ℕ → ℕ → Widths
widths pixel underflow = record { pixel = pixel; underflow = underflow }

-- NPIXELB of FORMAT 86: the pixel width
unfoldable pub widths86 : List ℕ → Result Widths Refusal
widths86 text = on_number (line_number I.Npixelb (number_field text 0)) Err (λ n _. Ok (widths n 0))

-- NPIXELB of FORMAT 100: the pixel width and the underflow width
unfoldable pub widths100 : List ℕ → Result Widths Refusal
widths100 text =
    on_number (line_number I.Npixelb (number_field text 0)) Err (λ pixel next.
    on_number (line_number I.Npixelb (number_field text next.at)) Err (λ underflow _.
    Ok (widths pixel underflow)))

abbrev pub widths_for : Format → List ℕ → Result Widths Refusal
widths_for F.Format86 text = widths86 text
widths_for F.Format100 text = widths100 text

-- line 39: 7, then 3
unfoldable pub widths_in : Format → List ℕ → Result Widths Refusal
widths_in format header = on_line header I.Npixelb (Err R.BadLine) (λ text. widths_for format text)

abbrev pub on_field : {A : Type 0} → Option Field → A → (ℕ → A) → A
on_field (Some fl) missing go = go fl.next.at
on_field None missing go = missing

-- NEXP: the third field is a number, the first two may be anything
unfoldable pub baseline_text : List ℕ → Result ℕ Refusal
baseline_text text =
    on_field (field_from text 0) (Err (R.BadField (position_of I.Nexp))) (λ second.
    on_field (field_from text second) (Err (R.BadField (position_of I.Nexp))) (λ third.
    value_of (line_number I.Nexp (number_field text third))))

-- line 79: 7, then 3
unfoldable pub baseline_of : List ℕ → Result ℕ Refusal
baseline_of header = on_line header I.Nexp (Err R.BadLine) (λ text. baseline_text text)

-- line 79 is read only for FORMAT 100 whose first NOVERFL number is not -1
abbrev pub baseline_in : Counts → List ℕ → Result ℕ Refusal
baseline_in (C.Format86 n) header = Ok 0
baseline_in (C.Format100 None two four) header = Ok 0
baseline_in (C.Format100 (Some n) two four) header = baseline_of header

abbrev pub on_decimal : Option Cursor → (ℕ → Bool) → Bool
on_decimal (Some next) go = go next.at
on_decimal None go = false

-- LINEAR: two fields, equal to 1 and 0
unfoldable pub is_linear : List ℕ → Bool
is_linear text = on_decimal (decimal_field 1 text 0) (λ next. on_decimal (decimal_field 0 text next) (λ _. true))
