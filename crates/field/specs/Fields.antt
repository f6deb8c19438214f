-- Document 01, "The header": fields are runs of characters other than space, taken in order.
use Rattle.field.specs.declared.Field.{Field}
use Rattle.std.specs.Prelude.{ℕ, ◌-◌, List, take, drop, eqb, if◌then◌else◌, None, Option, Some}
use Rattle.numeral.specs.Runs.{in_class, leading, passed}
use Rattle.numeral.specs.Numerals.{number_of, version_of, is_minus_one, decimal_is}
use Rattle.numeral.specs.declared.Class.TheVariants.{Space, Other}
use Rattle.field.specs.declared.Cursor.{Cursor}

abbrev pub field_found : ℕ → ℕ → Cursor → Field
field_found start end next = record { start = start; end = end; next = next }

-- the field from start to end, if it has a character; the next one is read from where it ended
abbrev pub field_between : ℕ → ℕ → Option Field
field_between start end = if eqb start end then None else Some (field_found start end (record { at = end }))

-- the next field of the line from at on: past the spaces, up to the next space or the line's end
unfoldable pub field_from : List ℕ → ℕ → Option Field
unfolding leading
field_from line at =
    field_between (passed (in_class Space) line at) (passed (in_class Other) line (passed (in_class Space) line at))

-- the characters of a field
abbrev pub between : ℕ → ℕ → List ℕ → List ℕ
between start end line = take (end - start) (drop start line)

abbrev pub number_read : Cursor → Option ℕ → Option (ℕ × Cursor)
number_read next (Some n) = Some (n, next)
number_read next None = None

-- what a rule for numbers makes of a field
abbrev pub field_number : (List ℕ → Option ℕ) → List ℕ → Option Field → Option (ℕ × Cursor)
field_number rule line (Some fl) = number_read fl.next (rule (between fl.start fl.end line))
field_number rule line None = None

-- the next field as a number, and as a version
unfoldable pub number_field : List ℕ → ℕ → Option (ℕ × Cursor)
number_field line at = field_number number_of line (field_from line at)

unfoldable pub version_field : List ℕ → ℕ → Option (ℕ × Cursor)
version_field line at = field_number version_of line (field_from line at)

abbrev pub count_read : Cursor → Option ℕ → Option (Option ℕ × Cursor)
count_read next (Some n) = Some (Some n, next)
count_read next None = None

abbrev pub field_count : List ℕ → Option Field → Option (Option ℕ × Cursor)
field_count line (Some fl) =
    if is_minus_one (between fl.start fl.end line) then Some (None, fl.next) else count_read fl.next (number_of (between fl.start fl.end line))
field_count line None = None

-- the next field as a number or -1
unfoldable pub count_field : List ℕ → ℕ → Option (Option ℕ × Cursor)
count_field line at = field_count line (field_from line at)

abbrev pub field_decimal : ℕ → List ℕ → Option Field → Option Cursor
field_decimal n line (Some fl) = if decimal_is n (between fl.start fl.end line) then Some fl.next else None
field_decimal n line None = None

-- the next field as a decimal number equal to n
unfoldable pub decimal_field : ℕ → List ℕ → ℕ → Option Cursor
decimal_field n line at = field_decimal n line (field_from line at)
