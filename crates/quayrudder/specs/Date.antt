-- The C interface: a date as the three numbers that a caller gives.
use Rattle.std.specs.Prelude.{ℕ}
use Rattle.calendar.specs.declared.Date.{Date}

abbrev pub date : ℕ → ℕ → ℕ → Date
date year month day = record { year = year; month = month; day = day }
