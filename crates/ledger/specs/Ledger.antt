-- Document 01, "The ledger" and "Numbers given back": what the calls on a ledger answer and leave.
use Rattle.ledger.specs.declared.Found.{Found}
use Rattle.refusal.specs.declared.Refusal.{Refusal}
use Rattle.std.specs.Prelude.{ℕ, ◌+◌, ◌*◌, ◌/◌, Bool, not, ◌||◌, List, [], ◌++◌, length, take, drop, leb, ltb, if◌then◌else◌, Err, None, Ok, Option, Result, Some}
use Rattle.refusal.specs.declared.Refusal.TheVariants as R
use Rattle.calendar.specs.declared.Date.{Date}
use Rattle.calendar.specs.Calendar.{is_date, before}
use Rattle.ledger.specs.declared.Kind.TheVariants.{Keep}
use Rattle.ledger.specs.declared.Line.{Line}
use Rattle.ledger.specs.declared.Sought.{Sought}
use Rattle.ledger.specs.declared.Sought.TheVariants as S
use Rattle.ledger.specs.declared.Summary.{Summary}
use Rattle.ledger.specs.Lines.{lines_of, some_malformed, line_bytes}
use Rattle.ledger.specs.Standing.{keeps, corrects, standing, overdrawn, last_standing, any_line}

-- the lines that the bytes hold whole
abbrev pub capacity : List ℕ → ℕ
capacity t = length t / 16

-- 20: more lines claimed than the bytes hold, a line malformed, or a withdrawal with nothing standing
unfoldable pub ledger_malformed : List ℕ → ℕ → Bool
unfolding lines_of some_malformed overdrawn
ledger_malformed t lines = ltb (capacity t) lines || (some_malformed lines t || overdrawn [] (lines_of lines t))

-- 21: the bytes hold no further line
abbrev pub ledger_full : List ℕ → ℕ → Bool
ledger_full t lines = leb (capacity t) lines

-- whether a line is looked for
abbrev pub is_sought : Sought → Line → Bool
is_sought S.Keep l = keeps l
is_sought (S.Correction pixel) l = corrects pixel l

-- the last line that stands, the last of those looked for that stands, and how many lines stand
unfoldable pub summary_for : Sought → List Line → Summary
unfolding standing last_standing
summary_for sought ls = record { last = last_standing any_line 0 ls; sought = last_standing (is_sought sought) 0 ls; count = length (standing ls) }

unfoldable pub survey_for : Sought → List ℕ → ℕ → Option Summary
unfolding ledger_malformed lines_of summary_for
survey_for sought t lines = if ledger_malformed t lines then None else Some (summary_for sought (lines_of lines t))

-- with the last keep line
abbrev pub survey_of : List ℕ → ℕ → Option Summary
survey_of t lines = survey_for S.Keep t lines

-- the bytes with the line written after the first `lines` lines
unfoldable pub with_line : List ℕ → ℕ → Line → List ℕ
unfolding line_bytes
with_line t lines l = take (lines * 16) t ++ (line_bytes l ++ drop (lines * 16 + 16) t)

-- a line appended: the answer, and the bytes after it
unfoldable pub append_answer : List ℕ → ℕ → Result ℕ Refusal
append_answer t lines = if ledger_full t lines then Err R.LedgerFull else Ok (lines + 1)

unfoldable pub append_bytes : List ℕ → ℕ → Line → List ℕ
unfolding with_line
append_bytes t lines l = if ledger_full t lines then t else with_line t lines l

-- the keep line of a date
abbrev pub keep_line : Date → Line
keep_line d = record { kind = Keep; date = d; pixel = 0; old = 0; new = 0 }

-- the keep entry: 20, 25, 21; a refused one leaves every byte
unfoldable pub keep_answer : List ℕ → ℕ → Date → Result ℕ Refusal
unfolding ledger_malformed is_date append_answer
keep_answer t lines d =
    if ledger_malformed t lines then Err R.LedgerMalformed else
    if not (is_date d) then Err R.NotADate else
    append_answer t lines

unfoldable pub keep_bytes : List ℕ → ℕ → Date → List ℕ
unfolding ledger_malformed is_date append_bytes
keep_bytes t lines d =
    if ledger_malformed t lines then t else
    if not (is_date d) then t else
    append_bytes t lines (keep_line d)

-- the purge question, by the last keep line that stands: 26, 27
unfoldable pub purge_by : Date → Option Found → Result (Unit {0}) Refusal
unfolding before
purge_by day None = Err R.NoKeepLine
purge_by day (Some fd) = if before fd.line.date day then (Ok tt) else Err R.NotYet

-- the purge question: 20, 25, 26, 27
unfoldable pub purge_answer : List ℕ → ℕ → Date → Result (Unit {0}) Refusal
unfolding ledger_malformed is_date purge_by lines_of last_standing
purge_answer t lines day =
    if ledger_malformed t lines then Err R.LedgerMalformed else
    if not (is_date day) then Err R.NotADate else
    purge_by day (last_standing keeps 0 (lines_of lines t))
