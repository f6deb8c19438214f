-- Document 01, "Expanding pixels", FORMAT 86: the characters of the table.
use Rattle.marks.specs.Steps.{entry_read}
use Rattle.marks.specs.declared.Entry.{Entry}
use Rattle.std.specs.Prelude.{ℕ, zero, suc, ◌&&◌, List, [], ◌∷◌, length, take, drop, eqb, ltb, if◌then◌else◌, None, Option, Some}
use Rattle.lists.specs.Digits.{all_digits, value_from}

-- what follows the spaces at the front
unfoldable pub after_spaces : List ℕ → List ℕ
after_spaces [] = []
after_spaces (b ∷ bs) = if eqb b 32 then after_spaces bs else b ∷ bs

-- at least one digit, and digits to the end
unfoldable pub digits_number : List ℕ → Option ℕ
digits_number t = if ltb 0 (length t) && all_digits t then Some (value_from 0 t) else None

-- spaces, perhaps none, then at least one digit, and digits to the end
unfoldable pub text_number : List ℕ → Option ℕ
unfolding after_spaces digits_number
text_number t = digits_number (after_spaces t)

abbrev pub entry_from : Option ℕ → Option ℕ → Option Entry
entry_from (Some v) (Some p) = Some (entry_read v p)
entry_from (Some v) None = None
entry_from None p = None

-- an entry has 16 characters: 9 of intensity, then 7 of pixel number
unfoldable pub entry_of : List ℕ → Option Entry
unfolding text_number
entry_of t = entry_from (text_number (take 9 t)) (text_number (take 7 (drop 9 t)))

-- the first n entries of a table
unfoldable pub text_entries : ℕ → List ℕ → List (Option Entry)
unfolding entry_of
text_entries zero t = []
text_entries (suc n) t = entry_of t ∷ text_entries n (drop 16 t)
