-- Document 01: the entries of a table as bytes, least significant first, and the padding behind them.
use Rattle.std.specs.Prelude.{ℕ, ◌+◌, ◌-◌, ◌*◌, ◌%◌, List, [], ◌∷◌, ◌++◌, length}
use Rattle.lists.specs.Bytes.{little_bytes, zeros}
use Rattle.layout.specs.Layout.{table_bytes}

-- the entries, w bytes each; the image is such a table without padding
unfoldable pub table_of : ℕ → List ℕ → List ℕ
unfolding little_bytes
table_of w [] = []
table_of w (v ∷ vs) = little_bytes w v ++ table_of w vs

-- the entries and zeros up to a multiple of 16; an empty table takes no bytes
unfoldable pub padded_table : ℕ → List ℕ → List ℕ
unfolding table_of table_bytes
padded_table w vs = table_of w vs ++ zeros (table_bytes w (length vs) - length vs * w)

-- v less base, modulo 2 ^ 32
abbrev pub less_wrapped : ℕ → ℕ → ℕ
less_wrapped base v = (v + (4294967296 - base)) % 4294967296
