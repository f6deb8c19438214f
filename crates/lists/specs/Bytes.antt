-- Numbers as bytes, in both orders; padding; bytes in a buffer.
use Rattle.std.specs.Prelude.{ℕ, zero, suc, ◌+◌, ◌-◌, ◌*◌, ◌/◌, ◌%◌, Bool, true, false, ◌&&◌, List, [], ◌∷◌, ◌++◌, length, get_or, take, drop, replicate, eqb}

-- the number in the first w bytes of t, least significant first; a byte past the end counts as 0
unfoldable pub little : ℕ → List ℕ → ℕ
little zero t = 0
little (suc w) t = get_or t 0 0 + 256 * little w (drop 1 t)

-- the first n numbers at the front of t, of w bytes each, as `read` takes one from a front
unfoldable pub chunked : (List ℕ → ℕ) → ℕ → ℕ → List ℕ → List ℕ
chunked read w zero t = []
chunked read w (suc n) t = read t ∷ chunked read w n (drop w t)

-- the w bytes of v, least significant first
unfoldable pub little_bytes : ℕ → ℕ → List ℕ
little_bytes zero v = []
little_bytes (suc w) v = (v % 256) ∷ little_bytes w (v / 256)

-- the number that v becomes when the bytes follow it, most significant first
unfoldable pub big_from : ℕ → List ℕ → ℕ
big_from v [] = v
big_from v (b ∷ bs) = big_from (v * 256 + b) bs

-- the number in the bytes, most significant first
abbrev pub big : List ℕ → ℕ
big t = big_from 0 t

-- the w bytes of v, most significant first
unfoldable pub big_bytes : ℕ → ℕ → List ℕ
big_bytes zero v = []
big_bytes (suc w) v = big_bytes w (v / 256) ++ (v % 256 ∷ [])

-- n zero bytes
abbrev pub zeros : ℕ → List ℕ
zeros n = replicate n 0

-- the least multiple of m, which is above 0, that is at least n
unfoldable pub padded_to : ℕ → ℕ → ℕ
padded_to m n = (n + (m - 1)) / m * m

-- bytes put over a buffer from place `at` on
unfoldable pub over : ℕ → List ℕ → List ℕ → List ℕ
over at bytes d = take at d ++ (bytes ++ drop (at + length bytes) d)

-- a frame in a buffer of n bytes: the bytes past its end are 0
unfoldable pub held_bytes : ℕ → List ℕ → List ℕ
held_bytes n frame = frame ++ zeros (n - length frame)

-- the two lists have the same elements
unfoldable pub same_bytes : List ℕ → List ℕ → Bool
same_bytes [] [] = true
same_bytes [] (b ∷ bs) = false
same_bytes (a ∷ s) [] = false
same_bytes (a ∷ s) (b ∷ t) = eqb a b && same_bytes s t
