-- Decimal digits and the number that they make.
use Rattle.std.specs.Prelude.{ℕ, zero, suc, ◌+◌, ◌-◌, ◌*◌, ◌/◌, ◌%◌, List, [], ◌∷◌, ◌++◌, Bool, true, ◌&&◌, leb, ltb, if◌then◌else◌}

abbrev pub is_digit : ℕ → Bool
is_digit b = leb 48 b && leb b 57

abbrev pub all_digits : List ℕ → Bool
all_digits [] = true
all_digits (b ∷ bs) = is_digit b && all_digits bs

-- the number that v becomes when the digits follow it
abbrev pub value_from : ℕ → List ℕ → ℕ
value_from v [] = v
value_from v (b ∷ bs) = value_from (v * 10 + (b - 48)) bs

-- the last k digits of n, with no zeros at the left
unfoldable pub digits_up_to : ℕ → ℕ → List ℕ
digits_up_to zero n = []
digits_up_to (suc k) n = (if ltb n 10 then [] else digits_up_to k (n / 10)) ++ ((48 + n % 10) ∷ [])

-- a number of 32 bits has at most ten digits
abbrev pub decimal : ℕ → List ℕ
decimal n = digits_up_to 10 n
