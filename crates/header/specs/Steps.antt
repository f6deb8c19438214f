-- A number of a header line, or the refusal: 7 where the line does not stand, 3 with its position where a field is bad.
use Rattle.std.specs.Prelude.{ℕ, List, Err, Ok, Result, None, Option, Some}
use Rattle.refusal.specs.declared.Refusal.{Refusal}
use Rattle.refusal.specs.declared.Refusal.TheVariants.{BadField, BadLine, OutOfRange}
use Rattle.field.specs.declared.Cursor.{Cursor}
use Rattle.field.specs.Fields.{number_field}
use Rattle.header_lines.specs.declared.LineId.{LineId}
use Rattle.header_lines.specs.Lines.{position_of, on_line}

-- 3: a field that is missing or no such number, with its line
abbrev pub line_number : {A : Type 0} → LineId → Option A → Result A Refusal
line_number id (Some a) = Ok a
line_number id None = Err (BadField (position_of id))

-- go on with the number and the cursor behind it, or hand the refusal up
abbrev pub on_number : {A : Type 0} → Result (ℕ × Cursor) Refusal → (Refusal → A) → (ℕ → Cursor → A) → A
on_number (Ok (n, next)) up go = go n next
on_number (Err r) up go = up r

abbrev pub value_of : Result (ℕ × Cursor) Refusal → Result ℕ Refusal
value_of (Ok (n, next)) = Ok n
value_of (Err r) = Err r

-- the first number of a needed line: 7, then 3
unfoldable pub number_in : LineId → List ℕ → Result ℕ Refusal
number_in id header = on_line header id (Err BadLine) (λ text. value_of (line_number id (number_field text 0)))
