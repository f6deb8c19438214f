-- Laws of numbers in either byte order.
-- Assumes nothing.
use mathlib.Core.Path.{◌≡◌, refl, sym, ap, ◌∙◌}
use mathlib.Core.Bool.{Bool, true, false}
use mathlib.Core.List.{List, [], ◌∷◌}
use Prim.Native.Nat.{ℕ, zero, suc, ◌+◌, ◌*◌, ◌-◌, ◌/◌, ◌%◌, ◌≤◌, ◌<◌}
use native.Mathlib.Nat.{add-zero, le_of_suc-le-suc, not-suc-le-zero, suc-mul, div-lt_iff_lt-mul}
use native.Mathlib.Omega.{arith}
use lib.ListN.{length, take, drop, get_or, length-take}
use lib.Seq.{drop-drop, take_all, take-take, get_or-drop}
use lib.Dec.{leb}
use borrow.Author.Tests.{le-leb, lt-leb, leb-true, leb-false}
use Rattle.std.specs.Prelude.{if◌then◌else◌}
use Rattle.std.specs.Int.{w16, w32, from_le_bytes, swap_bytes}
use Rattle.lists.specs.Bytes.{little, big_from, big, chunked}
use Rattle.lists.proofs.Parts.{drop-take}
use Rattle.lists.proofs.Chunks.{chunked-length, chunked-at, chunked-part, chunked-front}
use Rattle.table.specs.Table.{entries}
use Rattle.table.proofs.Laws.{whole-within, entries-chunked, little-take}
use Rattle.byte_order.specs.declared.ByteOrder.{ByteOrder}
use Rattle.byte_order.specs.declared.ByteOrder.TheVariants as O
use Rattle.byte_order.specs.Numbers.{number, numbers, number_at}

pub length-numbers : (o : ByteOrder) (w n : ℕ) (t : List ℕ) → length (numbers o w n t) ≡ n
unfolding numbers
length-numbers o w n t = chunked-length (number o w) w n t

pub numbers-at : (o : ByteOrder) (w n : ℕ) (t : List ℕ) (k : ℕ) → k < n → get_or (numbers o w n t) k 0 ≡ number o w (drop (k * w) t)
unfolding numbers
numbers-at o w n t k h = chunked-at (number o w) w n t k h

pub numbers-part : (o : ByteOrder) (w n p s : ℕ) (t : List ℕ) → p + s ≤ n → take s (drop p (numbers o w n t)) ≡ numbers o w s (drop (p * w) t)
unfolding numbers
numbers-part o w n p s t h = chunked-part (number o w) w n p s t h

-- least significant byte first: the entries of a table
pub numbers-little : (w n : ℕ) (t : List ℕ) → numbers O.Little w n t ≡ entries w n t
unfolding numbers number
numbers-little w n t = sym (entries-chunked w n t)

-- bytes past the numbers do not count
number-take : (o : ByteOrder) (w m : ℕ) (t : List ℕ) → w ≤ m → number o w (take m t) ≡ number o w t
unfolding number
number-take O.Little w m t h = little-take w m t h
number-take O.Big w m t h = ap big (take-take w m t h)

pub numbers-take : (o : ByteOrder) (w n m : ℕ) (t : List ℕ) → n * w ≤ m → numbers o w n (take m t) ≡ numbers o w n t
unfolding numbers
numbers-take o w n m t h = chunked-front (number o w) w (number-take o w) n m t h

-- number k, by how many whole ones t has
pub number-whole : (o : ByteOrder) (w k : ℕ) (t : List ℕ) → k < length t / w → number_at o w k t ≡ number o w (drop (k * w) t)
unfolding number_at
number-whole o w k t h = rw (le-leb (suc k * w) (length t) (omega (arith, suc-mul k w, whole-within w k t h)))

pub number-none : (o : ByteOrder) (w k : ℕ) (t : List ℕ) → 0 < w → length t / w ≤ k → number_at o w k t ≡ 0
unfolding number_at
number-none o w k t p h = rw (lt-leb (suc k * w) (length t) ((div-lt_iff_lt-mul p).0 (omega arith)))

pub number-at-take : (o : ByteOrder) (w k m : ℕ) (t : List ℕ) → suc k * w ≤ m → number_at o w k (take m t) ≡ number_at o w k t
unfolding number_at
number-at-take o w k m t h = go (leb (suc k * w) (length t)) refl
  where
    go : (b : Bool) → leb (suc k * w) (length t) ≡ b → number_at o w k (take m t) ≡ number_at o w k t
    go true q =
        let l : suc k * w ≤ length (take m t) = omega (arith, length-take m t, leb-true (suc k * w) (length t) q) in
        rw (q, le-leb _ _ l, drop-take (k * w) m t, number-take o w (m - k * w) (drop (k * w) t) (omega (arith, suc-mul k w)))
    go false q = rw (take_all m t (omega (arith, leb-false (suc k * w) (length t) q)))

-- the bytes from `at` on, least significant first
pub little-two : (at : ℕ) (t : List ℕ) → from_le_bytes w16 (get_or t at 0 ∷ get_or t (at + 1) 0 ∷ []) ≡ little 2 (drop at t)
unfolding little
little-two at t =
    let a : get_or (drop at t) 0 0 ≡ get_or t at 0 = rw (get_or-drop, add-zero) in
    let b : get_or (drop 1 (drop at t)) 0 0 ≡ get_or t (at + 1) 0 = rw (drop-drop, get_or-drop, add-zero) in
    omega arith

little-digits : (u : List ℕ) → little 4 u ≡ get_or u 0 0 + 256 * (get_or u 1 0 + 256 * (get_or u 2 0 + 256 * get_or u 3 0))
unfolding little
little-digits u =
    let b : get_or (drop 1 u) 0 0 ≡ get_or u 1 0 = rw get_or-drop in
    let c : get_or (drop 1 (drop 1 u)) 0 0 ≡ get_or u 2 0 = rw (drop-drop, get_or-drop) in
    let d : get_or (drop 1 (drop 1 (drop 1 u))) 0 0 ≡ get_or u 3 0 = rw (drop-drop, drop-drop, get_or-drop) in
    omega arith

pub little-four : (at : ℕ) (t : List ℕ) → from_le_bytes w32 (get_or t at 0 ∷ get_or t (at + 1) 0 ∷ get_or t (at + 2) 0 ∷ get_or t (at + 3) 0 ∷ []) ≡ little 4 (drop at t)
little-four at t =
    let a : get_or (drop at t) 0 0 ≡ get_or t at 0 = rw (get_or-drop, add-zero) in
    omega (arith, little-digits (drop at t), get_or-drop at t 1 0, get_or-drop at t 2 0, get_or-drop at t 3 0)

-- two bytes in either order, and the one order from the other
two : (u : List ℕ) → 2 ≤ length u → big (take 2 u) ≡ get_or u 0 0 * 256 + get_or u 1 0
unfolding big_from
two [] h = absurd (not-suc-le-zero h)
two (a ∷ []) h = absurd (not-suc-le-zero (le_of_suc-le-suc h))
two (a ∷ b ∷ u) h = omega arith

pub big-exchanged : (u : List ℕ) → 2 ≤ length u → get_or u 0 0 < 256 → get_or u 1 0 < 256 → big (take 2 u) ≡ little 2 u % 256 * 256 + little 2 u / 256
unfolding little
big-exchanged u h p q =
    let b : get_or (drop 1 u) 0 0 ≡ get_or u 1 0 = rw get_or-drop in
    omega (arith, two u h)

-- four bytes in either order, and the one order from the other
four : (u : List ℕ) → 4 ≤ length u → big (take 4 u) ≡ get_or u 0 0 * 16777216 + get_or u 1 0 * 65536 + get_or u 2 0 * 256 + get_or u 3 0
unfolding big_from
four [] h = absurd (not-suc-le-zero h)
four (a ∷ []) h = absurd (not-suc-le-zero (le_of_suc-le-suc h))
four (a ∷ b ∷ []) h = absurd (not-suc-le-zero (le_of_suc-le-suc (le_of_suc-le-suc h)))
four (a ∷ b ∷ c ∷ []) h = absurd (not-suc-le-zero (le_of_suc-le-suc (le_of_suc-le-suc (le_of_suc-le-suc h))))
four (a ∷ b ∷ c ∷ d ∷ u) h = omega arith

digit : (a m : ℕ) → a < 256 → (a + 256 * m) % 256 ≡ a
digit a m p = omega arith

digits : (a b c d : ℕ) {v : ℕ} → a < 256 → b < 256 → c < 256 → d < 256 → v ≡ a + 256 * (b + 256 * (c + 256 * d))
    → a * 16777216 + b * 65536 + c * 256 + d ≡ swap_bytes w32 v
digits a b c d {v} p q r s e =
    let m : v / 256 ≡ b + 256 * (c + 256 * d) = omega arith in
    let n : v / 65536 ≡ c + 256 * d = omega arith in
    let w : v % 256 ≡ a = omega arith in
    let x : v / 256 % 256 ≡ b = rw m (digit b (c + 256 * d) q) in
    let y : v / 65536 % 256 ≡ c = rw n (digit c d r) in
    let z : v / 16777216 % 256 ≡ d = omega arith in
    omega arith

pub big-swapped : (u : List ℕ) → 4 ≤ length u → ((i : ℕ) → get_or u i 0 < 256) → big (take 4 u) ≡ swap_bytes w32 (little 4 u)
big-swapped u h b = four u h ∙ digits (get_or u 0 0) (get_or u 1 0) (get_or u 2 0) (get_or u 3 0) (b 0) (b 1) (b 2) (b 3) (little-digits u)

-- a number of one byte is the same in both orders
one_byte : (t : List ℕ) → number O.Big 1 t ≡ number O.Little 1 t
unfolding number little big_from
one_byte [] = refl
one_byte (b ∷ bs) = omega arith

all-bytes : (n : ℕ) (t : List ℕ) → chunked (number O.Big 1) 1 n t ≡ chunked (number O.Little 1) 1 n t
unfolding chunked
all-bytes zero t = refl
all-bytes (suc n) t = rw (one_byte t, all-bytes n (drop 1 t))

bytes_same : (n : ℕ) (t : List ℕ) → numbers O.Big 1 n t ≡ numbers O.Little 1 n t
unfolding numbers
bytes_same n t = all-bytes n t

pub bytes-any : (o : ByteOrder) (n : ℕ) (t : List ℕ) → numbers o 1 n t ≡ entries 1 n t
bytes-any O.Little n t = numbers-little 1 n t
bytes-any O.Big n t = bytes_same n t ∙ numbers-little 1 n t

-- what a loading leaves where there are bytes enough
pub loaded : (m l : ℕ) (xs px : List ℕ) {out : List ℕ} → m ≤ l → out ≡ if◌then◌else◌ (leb m l) xs px → out ≡ xs
loaded m l xs px h q = q ∙ rw (le-leb m l h)
