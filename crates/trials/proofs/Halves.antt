-- A number of the ledger's bytes, most significant first, in two halves.
-- Assumes nothing.
use mathlib.Core.Path.{◌≡◌, ◌∙◌}
use mathlib.Core.List.{List}
use Prim.Native.Nat.{ℕ, ◌+◌, ◌*◌, ◌^◌, ◌≤◌}
use native.Mathlib.Omega.{arith}
use lib.ListN.{length, take, drop, length-drop}
use lib.Seq.{length-take-le, take-add, drop-drop}
use Rattle.lists.specs.Bytes.{big}
use Rattle.lists.proofs.BigEndian.{big-append, big-from}

pub big-halves : (w : ℕ) (t : List ℕ) (at : ℕ) → at + (w + w) ≤ length t → big (take (w + w) (drop at t)) ≡ big (take w (drop at t)) * 256 ^ w + big (take w (drop (at + w) t))
big-halves w t at h =
    let e : length (take w (drop (at + w) t)) ≡ w = length-take-le w (drop (at + w) t) (rw length-drop (omega arith)) in
    rw (take-add w w (drop at t), drop-drop w at t)
    (big-append 0 (take w (drop at t)) (take w (drop (at + w) t)) ∙ big-from (big (take w (drop at t))) (take w (drop (at + w) t)) ∙ rw e)
