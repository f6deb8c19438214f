-- Document 01, "The header": numbers, versions and decimal numbers as they are written.
use Rattle.std.specs.Prelude.{ℕ, ◌+◌, List, [], ◌∷◌, Bool, true, ◌&&◌, length, take, drop, get_or, eqb, leb, if◌then◌else◌, None, Option, Some}
use Rattle.lists.specs.Digits.{all_digits, value_from}
use Rattle.numeral.specs.declared.Class.TheVariants.{Digit, Plus}
use Rattle.numeral.specs.Runs.{in_class, leading, passed}

-- digits alone that make v a number of at most 4,294,967,295
unfoldable pub number_from : ℕ → List ℕ → Option ℕ
number_from v bs = if all_digits bs && leb (value_from v bs) 4294967295 then Some (value_from v bs) else None

-- a number is one to ten digits, at most 4,294,967,295
unfoldable pub number_of : List ℕ → Option ℕ
unfolding number_from
number_of f = if leb 1 (length f) && leb (length f) 10 then number_from 0 f else None

-- where the digits at the front end, and where the plus signs after them end
abbrev pub digits_end : List ℕ → ℕ
digits_end f = passed (in_class Digit) f 0

abbrev pub plus_end : List ℕ → ℕ
plus_end f = passed (in_class Plus) f (digits_end f)

-- a version is one or two digits, then none, one or two plus signs
unfoldable pub version_of : List ℕ → Option ℕ
unfolding leading number_of
version_of f =
    if leb (digits_end f) 2 && (leb (length f) (plus_end f) && leb (plus_end f) (digits_end f + 2))
    then number_of (take (digits_end f) f)
    else None

-- the two characters -1
unfoldable pub is_minus_one : List ℕ → Bool
is_minus_one f = eqb (length f) 2 && (eqb (get_or f 0 0) 45 && eqb (get_or f 1 0) 49)

-- at least one digit and digits alone, of the value n
unfoldable pub is_whole : ℕ → List ℕ → Bool
is_whole n f = leb 1 (length f) && (all_digits f && eqb (value_from 0 f) n)

-- nothing, or a point and at least one digit, of the value 0
unfoldable pub fraction_is_zero : List ℕ → Bool
unfolding is_whole
fraction_is_zero [] = true
fraction_is_zero (b ∷ bs) = eqb b 46 && is_whole 0 bs

-- digits alone, or digits, a point and digits, equal to n
unfoldable pub decimal_is : ℕ → List ℕ → Bool
unfolding leading is_whole fraction_is_zero
decimal_is n f = is_whole n (take (digits_end f) f) && fraction_is_zero (drop (digits_end f) f)
