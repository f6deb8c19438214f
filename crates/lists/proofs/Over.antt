-- Bytes put over a buffer.
-- Assumes nothing.
use mathlib.Core.Path.{◌≡◌}
use mathlib.Core.List.{List, [], ◌++◌, append_assoc}
use Prim.Native.Nat.{ℕ, ◌+◌, ◌-◌, ◌≤◌}
use native.Mathlib.Nat.{add-zero, add_assoc}
use native.Mathlib.Omega.{arith}
use lib.ListN.{length, drop, length-append, length-take, length-drop, take-append-drop}
use lib.Seq.{take-append_seam, take-append-le, drop-append-le, take-append-add, drop-append-add, drop-drop}
use Rattle.lists.specs.Bytes.{over}

pub over_none : (at : ℕ) (d : List ℕ) → over at [] d ≡ d
unfolding over
over_none at d = rw add-zero (take-append-drop at d)

pub length_over : (at : ℕ) (ys d : List ℕ) → at + length ys ≤ length d → length (over at ys d) ≡ length d
unfolding over
length_over at ys d h = simp (length-append, length-take, length-drop) (omega arith)

pub over_skip : (a b ys : List ℕ) (k at : ℕ) → at ≡ length a + k → over at ys (a ++ b) ≡ a ++ over k ys b
unfolding over
over_skip a b ys k at e = rw (e, take-append-add, add_assoc, drop-append-add, append_assoc)

pub over_first : (a b ys : List ℕ) (at : ℕ) → at + length ys ≤ length a → over at ys (a ++ b) ≡ over at ys a ++ b
unfolding over
over_first a b ys at h = rw (take-append-le at a b (omega arith), drop-append-le (at + length ys) a b h, append_assoc, append_assoc)

-- a region whose front is written
abbrev pub front : List ℕ → List ℕ → List ℕ
front xs r = xs ++ drop (length xs) r

pub length_front : (xs r : List ℕ) → length xs ≤ length r → length (front xs r) ≡ length r
length_front xs r h = simp (length-append, length-drop) (omega arith)

pub over-front : (xs ys r : List ℕ) → over (length xs) ys (front xs r) ≡ front (xs ++ ys) r
unfolding over
over-front xs ys r = rw (take-append_seam, drop-append-add, drop-drop, length-append, append_assoc)
