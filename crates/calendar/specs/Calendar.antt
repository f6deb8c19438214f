-- Document 01, "The ledger": dates are Gregorian, years 1 to 4095.
use Rattle.std.specs.Prelude.{ℕ, ◌+◌, ◌/◌, ◌%◌, Bool, not, ◌&&◌, ◌||◌, eqb, leb, ltb, if◌then◌else◌}
use Rattle.calendar.specs.declared.Date.{Date}

-- every fourth year, but of the full centuries only every fourth
unfoldable pub is_leap : ℕ → Bool
is_leap year = eqb (year % 4) 0 && (not (eqb (year % 100) 0) || eqb (year % 400) 0)

-- the days of a month: 31 and 30 by turns, and again from August on; February by the leap rule
unfoldable pub month_length : ℕ → ℕ → ℕ
unfolding is_leap
month_length year month =
    if eqb month 2 then (if is_leap year then 29 else 28) else
    30 + (month + month / 8) % 2

-- a calendar date
unfoldable pub is_date : Date → Bool
unfolding month_length
is_date d =
    (leb 1 d.year && leb d.year 4095)
    && ((leb 1 d.month && leb d.month 12)
    && (leb 1 d.day && leb d.day (month_length d.year d.month)))

-- the first date is earlier than the second: by the year, then the month, then the day
unfoldable pub before : Date → Date → Bool
before a b =
    if not (eqb a.year b.year) then ltb a.year b.year else
    if not (eqb a.month b.month) then ltb a.month b.month else
    ltb a.day b.day
