-- The rule for the length of a month gives the calendar's twelve lengths.
use mathlib.Core.Path.{◌≡◌, refl, ap, ◌∙◌}
use mathlib.Core.Bool.{Bool, true, false}
use mathlib.Core.List.{List, [], ◌∷◌, map}
use Prim.Native.Nat.{ℕ, ◌+◌}
use Rattle.std.specs.Prelude.{if◌then◌else◌}
use Rattle.calendar.specs.Calendar.{is_leap, month_length}

abbrev pub months : List ℕ
months = 1 ∷ 2 ∷ 3 ∷ 4 ∷ 5 ∷ 6 ∷ 7 ∷ 8 ∷ 9 ∷ 10 ∷ 11 ∷ 12 ∷ []

abbrev pub sum : List ℕ → ℕ
sum [] = 0
sum (n ∷ ns) = n + sum ns

-- the lengths, with February's given
abbrev pub lengths : ℕ → List ℕ
lengths february = 31 ∷ february ∷ 31 ∷ 30 ∷ 31 ∷ 30 ∷ 31 ∷ 31 ∷ 30 ∷ 31 ∷ 30 ∷ 31 ∷ []

pub month-lengths : (year : ℕ) → map (month_length year) months ≡ lengths (if◌then◌else◌ (is_leap year) 29 28)
unfolding month_length
month-lengths year = refl

-- a leap year has 366 days and any other 365
pub year-length : (year : ℕ) → sum (map (month_length year) months) ≡ if◌then◌else◌ (is_leap year) 366 365
year-length year = ap sum (month-lengths year) ∙ go (is_leap year)
  where
    go : (t : Bool) → sum (lengths (if◌then◌else◌ t 29 28)) ≡ if◌then◌else◌ t 366 365
    go true = refl
    go false = refl
