-- The C interface: what calls on a ledger, a purge question, its reason, a pixel's and the listing answer, as plain numbers.
use Rattle.why.specs.declared.Numbered.{Numbered}
use Rattle.refusal.specs.declared.Refusal.{Refusal}
use Rattle.std.specs.Prelude.{ℕ, Err, None, Ok, Option, Result, Some}
use Rattle.refusal.specs.Codes.{refusal_number}
use Rattle.refusal.specs.declared.Refusal.TheVariants as R
use Rattle.why.specs.declared.DayAnswer.{DayAnswer}
use Rattle.why.specs.declared.DayAnswer.TheVariants as D
use Rattle.ledger_report.specs.declared.LedgerResult.{LedgerResult}
use Rattle.ledger_report.specs.declared.WhyResult.{WhyResult}
use Rattle.ledger_report.specs.declared.ListResult.{ListResult}

-- the new number of lines, and after a refusal the same one
abbrev pub ledger_result : ℕ → Result ℕ Refusal → LedgerResult
ledger_result lines (Ok next) = record { refusal = 0; lines = next }
ledger_result lines (Err r) = record { refusal = refusal_number r; lines = lines }

abbrev pub purge_result : Result (Unit {0}) Refusal → ℕ
purge_result (Ok done) = 0
purge_result (Err r) = refusal_number r

-- for a day: 0 for yes and 27 for not yet, with the number of the line that decides
abbrev pub day_result : Result DayAnswer Refusal → WhyResult
day_result (Ok (D.Allowed d)) = record { refusal = 0; line = d.number }
day_result (Ok (D.NotYet d)) = record { refusal = refusal_number R.NotYet; line = d.number }
day_result (Err r) = record { refusal = refusal_number r; line = 0 }

-- for a pixel: the number of the correction, or 0 where it is as opened
abbrev pub pixel_result : Result (Option Numbered) Refusal → WhyResult
pixel_result (Ok (Some d)) = record { refusal = 0; line = d.number }
pixel_result (Ok None) = record { refusal = 0; line = 0 }
pixel_result (Err r) = record { refusal = refusal_number r; line = 0 }

-- the text's bytes at the end of the buffer
abbrev pub list_result : Option ℕ → ListResult
list_result (Some used) = record { short = 0; length = used }
list_result None = record { short = 1; length = 0 }
