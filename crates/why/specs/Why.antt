-- Request A11: the ledger's line that decides a purge question, and the one that set a pixel.
use Rattle.ledger.specs.declared.Found.{Found}
use Rattle.refusal.specs.declared.Refusal.{Refusal}
use Rattle.std.specs.Prelude.{ℕ, ◌+◌, not, List, if◌then◌else◌, Err, None, Ok, Option, Result, Some}
use Rattle.refusal.specs.declared.Refusal.TheVariants as R
use Rattle.calendar.specs.declared.Date.{Date}
use Rattle.calendar.specs.Calendar.{is_date, before}
use Rattle.ledger.specs.declared.Line.{Line}
use Rattle.ledger.specs.Lines.{lines_of}
use Rattle.ledger.specs.Standing.{keeps, corrects, last_standing}
use Rattle.ledger.specs.Ledger.{ledger_malformed}
use Rattle.why.specs.declared.Numbered.{Numbered}
use Rattle.why.specs.declared.DayAnswer.{DayAnswer}
use Rattle.why.specs.declared.DayAnswer.TheVariants as D

-- a line by its index, numbered from 1 as in the listing
abbrev pub numbered : ℕ → Line → Numbered
numbered index line = record { number = index + 1; line = line }

-- for a day, by the last keep line that stands: 26 if there is none; yes if its date is before the day, else 27, and both name it
abbrev pub day_by : Date → Option Found → Result DayAnswer Refusal
day_by day None = Err R.NoKeepLine
day_by day (Some fd) =
    if before fd.line.date day then Ok (D.Allowed (numbered fd.index fd.line)) else Ok (D.NotYet (numbered fd.index fd.line))

-- for a day: 20, 25, 26, 27
unfoldable pub day_reason : List ℕ → ℕ → Date → Result DayAnswer Refusal
unfolding ledger_malformed is_date before lines_of last_standing
day_reason t lines day =
    if ledger_malformed t lines then Err R.LedgerMalformed else
    if not (is_date day) then Err R.NotADate else
    day_by day (last_standing keeps 0 (lines_of lines t))

-- for a pixel, by the last correction of it that stands
abbrev pub pixel_by : Option Found → Result (Option Numbered) Refusal
pixel_by None = Ok None
pixel_by (Some fd) = Ok (Some (numbered fd.index fd.line))

-- for a pixel: 20 alone, whatever its number
unfoldable pub pixel_reason : List ℕ → ℕ → ℕ → Result (Option Numbered) Refusal
unfolding ledger_malformed lines_of last_standing
pixel_reason t lines pixel =
    if ledger_malformed t lines then Err R.LedgerMalformed else
    pixel_by (last_standing (corrects pixel) 0 (lines_of lines t))
