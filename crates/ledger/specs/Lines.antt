-- Document 01, "The ledger": a line's 128 bits from the highest down, 2 of the kind, 12, 4 and 5 of the date, 24 of the pixel, 32 each of the old and the new count, 17 spare.
use Rattle.std.specs.Prelude.{ℕ, zero, suc, ◌+◌, ◌*◌, ◌/◌, ◌%◌, ◌^◌, Bool, true, false, ◌&&◌, ◌||◌, List, [], ◌∷◌, ◌++◌, length, take, drop, eqb, ltb, if◌then◌else◌, None, Option, Some}
use Rattle.lists.specs.Bytes.{big, big_bytes}
use Rattle.calendar.specs.declared.Date.{Date}
use Rattle.calendar.specs.Calendar.{is_date}
use Rattle.ledger.specs.declared.Kind.{Kind}
use Rattle.ledger.specs.declared.Kind.TheVariants.{Correction, Keep, Withdrawal}
use Rattle.ledger.specs.declared.Line.{Line}

-- the number of a kind
abbrev pub kind_number : Kind → ℕ
kind_number Correction = 0
kind_number Keep = 1
kind_number Withdrawal = 2

-- the kind of a number below 3
unfoldable pub kind_from : ℕ → Kind
kind_from k =
    if eqb k 0 then Correction else
    if eqb k 1 then Keep else
    Withdrawal

-- the date of a line that has none
abbrev pub is_no_date : Date → Bool
is_no_date d = eqb d.year 0 && (eqb d.month 0 && eqb d.day 0)

-- pixel, old and new are 0
abbrev pub no_counts : Line → Bool
no_counts l = eqb l.pixel 0 && (eqb l.old 0 && eqb l.new 0)

-- what each kind asks of the other fields
unfoldable pub right_for : Kind → Line → Bool
unfolding is_date
right_for Correction l = is_no_date l.date
right_for Keep l = is_date l.date && no_counts l
right_for Withdrawal l = is_no_date l.date && no_counts l

-- the fields of a number of 128 bits, but for the spare ones
unfoldable pub fields_of : ℕ → Line
unfolding kind_from
fields_of n = record {
  kind = kind_from (n / 2 ^ 126);
  date = record { year = n / 2 ^ 114 % 2 ^ 12; month = n / 2 ^ 110 % 2 ^ 4; day = n / 2 ^ 105 % 2 ^ 5 };
  pixel = n / 2 ^ 81 % 2 ^ 24;
  old = n / 2 ^ 49 % 2 ^ 32;
  new = n / 2 ^ 17 % 2 ^ 32;
}

-- such a number is a line: kind 3 is none, the spare bits are 0, and the fields are right for the kind
unfoldable pub is_line : ℕ → Bool
unfolding right_for fields_of
is_line n = ltb (n / 2 ^ 126) 3 && (eqb (n % 2 ^ 17) 0 && right_for (fields_of n).kind (fields_of n))

unfoldable pub line_from : ℕ → Option Line
unfolding is_line fields_of
line_from n = if is_line n then Some (fields_of n) else None

-- the line of 16 bytes
unfoldable pub line_of : List ℕ → Option Line
unfolding line_from
line_of t = if eqb (length t) 16 then line_from (big t) else None

-- the number of a line; a field that is too large loses its upper bits
unfoldable pub line_number : Line → ℕ
line_number l =
    kind_number l.kind * 2 ^ 126
    + l.date.year % 2 ^ 12 * 2 ^ 114
    + l.date.month % 2 ^ 4 * 2 ^ 110
    + l.date.day % 2 ^ 5 * 2 ^ 105
    + l.pixel % 2 ^ 24 * 2 ^ 81
    + l.old % 2 ^ 32 * 2 ^ 49
    + l.new % 2 ^ 32 * 2 ^ 17

-- the bytes of a line
unfoldable pub line_bytes : Line → List ℕ
unfolding line_number
line_bytes l = big_bytes 16 (line_number l)

-- the bytes of lines, one after the other
unfoldable pub lines_bytes : List Line → List ℕ
unfolding line_bytes
lines_bytes [] = []
lines_bytes (l ∷ ls) = line_bytes l ++ lines_bytes ls

-- the bytes of the line with this index
abbrev pub bytes_at : List ℕ → ℕ → List ℕ
bytes_at t index = take 16 (drop (index * 16) t)

-- the first n lines
unfoldable pub lines_of : ℕ → List ℕ → List Line
unfolding fields_of
lines_of zero t = []
lines_of (suc n) t = fields_of (big (take 16 t)) ∷ lines_of n (drop 16 t)

abbrev pub is_malformed : Option Line → Bool
is_malformed (Some l) = false
is_malformed None = true

-- one of the first n lines is malformed
unfoldable pub some_malformed : ℕ → List ℕ → Bool
unfolding line_of
some_malformed zero t = false
some_malformed (suc n) t = is_malformed (line_of (take 16 t)) || some_malformed n (drop 16 t)
