-- Moves by the slice's own method.
-- Assumes nothing.
use Rattle.std.proofs.Common.{◌≡◌, ℕ, ◌+◌, ◌-◌, ◌≤◌, List, length, take, drop, append_assoc, arith, length-drop, length-take-le, drop-drop}
use borrow.Rule.Slice.PartMut.{put_mid}
use Rattle.std.specs.List.{copy_within}
use Rattle.lists.specs.Bytes.{little_bytes, over}
use Rattle.table.proofs.Storing.{length-little_bytes}
use Rattle.splice.specs.Moves.{moved}

-- what the slice's own `copy_within` leaves
pub within_moved : (b : List ℕ) (from to n : ℕ) → copy_within b from (from + n) to ≡ moved b from to n
unfolding moved
within_moved b from to n = let e : from + n - from ≡ n = omega arith in rw e (simp append_assoc)

-- a number's bytes put into a part
pub put-part : (d ys : List ℕ) (at e w v : ℕ) → e ≡ at + w → e ≤ length d → ys ≡ little_bytes (length (take (e - at) (drop at d))) v → put_mid at (e - at) d ys ≡ over at (little_bytes w v) d
unfolding over
put-part d ys at e w v q h k =
    let n : e - at ≡ w = omega arith in
    let l : length (take w (drop at d)) ≡ w = length-take-le w (drop at d) (simp length-drop (omega arith)) in
    rw (k, n, l, length-little_bytes, drop-drop)
