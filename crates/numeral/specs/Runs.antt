-- Runs of characters of one class.
use Rattle.std.specs.Prelude.{ℕ, suc, ◌+◌, List, [], ◌∷◌, Bool, not, drop, eqb, if◌then◌else◌}
use Rattle.lists.specs.Digits.{is_digit}
use Rattle.numeral.specs.declared.Class.{Class}
use Rattle.numeral.specs.declared.Class.TheVariants.{Space, Other, Digit, Plus}

-- only the byte 32 is a space; every other byte is a character of a field
abbrev pub in_class : Class → ℕ → Bool
in_class Space b = eqb b 32
in_class Other b = not (eqb b 32)
in_class Digit b = is_digit b
in_class Plus b = eqb b 43

-- how many elements at the front of the list pass the test p
unfoldable pub leading : (ℕ → Bool) → List ℕ → ℕ
leading p [] = 0
leading p (b ∷ bs) = if p b then suc (leading p bs) else 0

-- where the elements that pass the test p, from at on, end
abbrev pub passed : (ℕ → Bool) → List ℕ → ℕ → ℕ
passed p text at = at + leading p (drop at text)
