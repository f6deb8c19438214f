-- The numbers of a table, counted.
use Rattle.std.specs.Prelude.{ℕ, ◌+◌, Bool, ◌||◌, List, length, ltb}
use Rattle.expand.specs.Steps.{count}
use Rattle.lists.specs.Only.{only}
use Rattle.tally.specs.declared.Tally.{Tally}

-- below low or above high
abbrev pub is_outside : ℕ → ℕ → ℕ → Bool
is_outside low high x = ltb x low || ltb high x

-- how many of the numbers are 0, are the mark, and lie outside the range
unfoldable pub tally_of : ℕ → ℕ → ℕ → List ℕ → Tally
unfolding count only
tally_of mark low high xs = record { zeros = count 0 xs; marks = count mark xs; outside = length (only (is_outside low high) xs) }

-- the counts of two lists, added
unfoldable pub tally_more : Tally → Tally → Tally
tally_more a b = record { zeros = a.zeros + b.zeros; marks = a.marks + b.marks; outside = a.outside + b.outside }

-- the counts of bytes in a range that holds every byte
abbrev pub bytes_tally : ℕ → List ℕ → Tally
bytes_tally mark bytes = record { zeros = count 0 bytes; marks = count mark bytes; outside = 0 }
