-- Bytes moved within a buffer, and one entry of a padded table put in, taken out or replaced there.
use Rattle.std.specs.Prelude.{ℕ, ◌+◌, ◌-◌, Bool, ◌&&◌, List, ◌++◌, ltb, leb, length, take, drop, if◌then◌else◌}
use Rattle.lists.specs.Bytes.{zeros, padded_to, over}

-- b with its n bytes from index `from` copied to index `to`
unfoldable pub moved : List ℕ → ℕ → ℕ → ℕ → List ℕ
moved b from to n = take to b ++ (take n (drop from b) ++ drop (to + n) b)

-- the same where both places lie in b; else b
unfoldable pub copied : List ℕ → ℕ → ℕ → ℕ → List ℕ
unfolding moved
copied b from to n = if leb (from + n) (length b) && leb (to + n) (length b) then moved b from to n else b

-- b with the n bytes at `at` moved up by k, and the k bytes before them 0
unfoldable pub opened : List ℕ → ℕ → ℕ → ℕ → List ℕ
opened b at n k = over at (zeros k) (moved b at (at + k) n)

-- b with the k bytes at `at` taken out, the n bytes after them moved down, and the k bytes after those 0
unfoldable pub closed : List ℕ → ℕ → ℕ → ℕ → List ℕ
closed b at n k = over (at + n) (zeros k) (moved b (at + k) at n)

-- b without its first k bytes, and k zeros behind; where it has fewer, b
unfoldable pub without_front : List ℕ → ℕ → List ℕ
without_front b k = if leb k (length b) then drop k b ++ zeros k else b

-- the zeros that bring n bytes to a multiple of 16
abbrev pub fill : ℕ → ℕ
fill n = padded_to 16 n - n

-- a table's bytes and the zeros behind them
unfoldable pub padded : List ℕ → List ℕ
padded xs = xs ++ zeros (fill (length xs))

-- k zeros put in at `at`, in a table of which `tail` bytes follow and then z of padding, and after it `post` bytes of the frame
unfoldable pub grown : List ℕ → ℕ → ℕ → ℕ → ℕ → ℕ → List ℕ
grown b at tail z post k =
    if ltb z k then opened (opened b (at + tail + z) post 16) at tail k else opened b at tail k

-- k bytes taken out at `at`, the rest as for `grown`
unfoldable pub shrunk : List ℕ → ℕ → ℕ → ℕ → ℕ → ℕ → List ℕ
shrunk b at tail z post k =
    if leb 16 (z + k) then closed (closed b at tail k) (at + tail + (z + k - 16)) post 16 else closed b at tail k

-- the `old` bytes at `at` of a table become `new` bytes, whatever they then are
unfoldable pub resized : List ℕ → ℕ → ℕ → ℕ → ℕ → ℕ → ℕ → List ℕ
resized b at old new tail z post =
    if ltb old new then grown b (at + old) tail z post (new - old) else
    if ltb new old then shrunk b at (new + tail) z post (old - new) else
    b

-- in a table of n bytes that starts at s, xs in the place of the `old` bytes that stand after `before`; `post` bytes of the frame
-- follow the table's padding
unfoldable pub table_edited : List ℕ → ℕ → ℕ → ℕ → ℕ → ℕ → List ℕ → List ℕ
table_edited b s n before old post xs =
    over (s + before) xs (resized b (s + before) old (length xs) (n - (before + old)) (fill n) post)

-- the entry lies within the table, both entries are short, and a buffer of `room` bytes holds all of it before and after
unfoldable pub edit_fits : (room s n before old post w : ℕ) → Bool
edit_fits room s n before old post w =
    leb (before + old) n && leb old 16 && leb w 16 && leb (s + padded_to 16 n + post) room && leb (s + padded_to 16 (n - old + w) + post) room

-- w bytes, at most 4, lie at `at` in a buffer of `room` bytes
unfoldable pub put_fits : (room at w : ℕ) → Bool
put_fits room at w = leb w 4 && leb (at + w) room
