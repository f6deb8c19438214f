-- Bytes that are read as entries, written again.
-- Assumes nothing.
use mathlib.Core.Path.{◌≡◌, refl, sym, ap, ◌∙◌}
use mathlib.Core.Bool.{true}
use mathlib.Core.List.{List, [], ◌∷◌, ◌++◌}
use Prim.Native.Nat.{ℕ, zero, suc, ◌+◌, ◌-◌, ◌*◌, ◌/◌, ◌%◌, ◌^◌, ◌≤◌, ◌<◌}
use native.Mathlib.Nat.{suc-mul, zero-mul, not-suc-le-zero}
use native.Mathlib.Omega.{arith}
use borrow.Author.Tests.{eqb-true}
use lib.Dec.{eqb}
use lib.ListN.{length, take, drop, get_or, length-drop}
use lib.Seq.{get_or-drop, take-add, drop-drop, length-take-le}
use Rattle.lists.specs.Bytes.{little, little_bytes, zeros, padded_to}
use Rattle.lists.proofs.Tests.{and-true-left, and-true-right}
use Rattle.lists.proofs.Below.{little-below}
use Rattle.layout.specs.Layout.{table_bytes}
use Rattle.table.specs.Table.{entries, all_zero}
use Rattle.table.specs.Writing.{table_of, padded_table}
use Rattle.table.proofs.Laws.{length-entries}
use Rattle.expand.specs.Expand.{table_padding_zero}
use Rattle.readback.proofs.Storing.{Below}

-- bytes
abbrev pub Bytes : List ℕ → Type 0
Bytes t = (i : ℕ) → get_or t i 0 < 256

pub bytes_drop : (n : ℕ) (t : List ℕ) → Bytes t → Bytes (drop n t)
bytes_drop n t h = λ i. rw get_or-drop (h (n + i))

little-again : (w : ℕ) (t : List ℕ) → Bytes t → w ≤ length t → little_bytes w (little w t) ≡ take w t
unfolding little little_bytes
little-again zero t b h = refl
little-again (suc w) [] b h = absurd (not-suc-le-zero h)
little-again (suc w) (x ∷ t) b h =
    let first : (x + 256 * little w t) % 256 ≡ x = omega (arith, b 0) in
    let rest : (x + 256 * little w t) / 256 ≡ little w t = omega (arith, b 0) in
    rw (first, rest, little-again w t (λ i. b (suc i)) (omega arith))

pub table-again : (w n : ℕ) (t : List ℕ) → Bytes t → n * w ≤ length t → table_of w (entries w n t) ≡ take (n * w) t
unfolding table_of entries
table-again w zero t b h = rw zero-mul
table-again w (suc n) t b h =
    let e = suc-mul n w in
    let s : suc n * w ≡ w + n * w = omega (arith, suc-mul n w) in
    let r : n * w ≤ length (drop w t) = rw length-drop (omega arith) in
    rw (little-again w t b (omega arith), table-again w n (drop w t) (bytes_drop w t b) r, s, take-add)

pub entries_fit : (w n : ℕ) (t : List ℕ) → Bytes t → Below (256 ^ w) (entries w n t)
unfolding entries
entries_fit w zero t b = tt
entries_fit w (suc n) t b = (little-below w t b, entries_fit w n (drop w t) (bytes_drop w t b))

pub zeros-are : (t : List ℕ) → all_zero t ≡ true → t ≡ zeros (length t)
unfolding all_zero
zeros-are [] h = refl
zeros-are (b ∷ t) h =
    let p : b ≡ 0 = eqb-true b 0 (and-true-left (eqb b 0) (all_zero t) h) in
    let q = zeros-are t (and-true-right (eqb b 0) (all_zero t) h) in
    λ i. p i ∷ q i

room : (w n : ℕ) → n * w ≤ table_bytes w n
unfolding table_bytes padded_to
room w n = omega arith

pub padded-again : (w n at : ℕ) (t : List ℕ) → Bytes t → at + table_bytes w n ≤ length t → table_padding_zero w n at t ≡ true
    → padded_table w (entries w n (drop at t)) ≡ take (table_bytes w n) (drop at t)
unfolding table_padding_zero padded_table
padded-again w n at t b h z =
    let k = room w n in
    let gap : ℕ = table_bytes w n - n * w in
    let behind : List ℕ = drop (at + n * w) t in
    let l : length (take gap behind) ≡ gap = length-take-le gap behind (rw length-drop (omega arith)) in
    let p : take gap behind ≡ zeros gap = zeros-are (take gap behind) z ∙ ap zeros l in
    let s : table_bytes w n ≡ n * w + gap = omega arith in
    let d : drop (n * w) (drop at t) ≡ behind = drop-drop (n * w) at t in
    rw (length-entries, table-again w n (drop at t) (bytes_drop at t b) (rw length-drop (omega arith)))
    (ap (λ (l : List ℕ). take (n * w) (drop at t) ++ l) (sym p)
    ∙ ap (λ (l : List ℕ). take (n * w) (drop at t) ++ take gap l) (sym d)
    ∙ sym (take-add (n * w) gap (drop at t))
    ∙ ap (λ (m : ℕ). take m (drop at t)) (sym s))
