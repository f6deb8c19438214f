-- Document 01, "Expanding pixels": the entries of a table, and its padding.
use Rattle.std.specs.Prelude.{ℕ, zero, suc, ◌/◌, Bool, true, ◌&&◌, List, [], ◌∷◌, length, drop, ◌==◌}
use Rattle.lists.specs.Bytes.{little}

-- the first n entries of w bytes each at the front of t, least significant byte first
unfoldable pub entries : ℕ → ℕ → List ℕ → List ℕ
unfolding little
entries w zero t = []
entries w (suc n) t = little w t ∷ entries w n (drop w t)

-- all whole entries of t
abbrev pub whole_entries : ℕ → List ℕ → List ℕ
whole_entries w t = entries w (length t / w) t

-- every byte is 0
unfoldable pub all_zero : List ℕ → Bool
all_zero [] = true
all_zero (b ∷ t) = b == 0 && all_zero t
