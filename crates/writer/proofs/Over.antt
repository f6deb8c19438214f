-- Bytes put over a buffer.
-- Assumes nothing.
use Rattle.std.proofs.Common.{◌≡◌, ℕ, ◌+◌, ◌-◌, ◌*◌, ◌%◌, ◌<◌, ◌≤◌, leb, List, [], ◌∷◌, ◌++◌, map, length, take, drop, sym, refl, ap, ◌∙◌, append-nil, arith, length-drop, drop_of_length-le, length-take, drop-drop, le-leb}
use lib.ListN.{length-map}
use borrow.Rule.Slice.PartMut.{put_mid}
use Rattle.std.specs.Prelude.{if◌then◌else◌}
use Rattle.lists.proofs.Over.{over_none}
use Rattle.table.specs.Writing.{table_of, less_wrapped}
use Rattle.table.proofs.Storing.{length-table}
use Rattle.layout.specs.declared.Width.TheVariants as W
use Rattle.writer.specs.Storing.{at_most65535, stored_value}
use Rattle.lists.specs.Bytes.{over}
use Rattle.writer.proofs.Gathering.{map-four}

-- what a part of a buffer comes back as
pub put-part : (values d ys : List ℕ) (w at e : ℕ) → e ≡ at + length values * w → e ≤ length d
    → ys ≡ if◌then◌else◌ (leb (length values * w) (length (take (e - at) (drop at d)))) (table_of w values ++ drop (length values * w) (take (e - at) (drop at d))) (take (e - at) (drop at d))
    → put_mid at (e - at) d ys ≡ over at (table_of w values) d
unfolding over
put-part values d ys w at e p h q =
    let l : length (take (e - at) (drop at d)) ≡ length values * w = simp (length-take, length-drop) (omega arith) in
    let n : e - at ≡ length values * w = omega arith in
    let z : drop (length values * w) (take (e - at) (drop at d)) ≡ [] = drop_of_length-le (take (e - at) (drop at d)) {i = length values * w} (rw l (omega arith)) in
    let y : ys ≡ table_of w values = q ∙ rw (l, le-leb (length values * w) (length values * w) (omega arith), z, append-nil) in
    rw (y, n, length-table, drop-drop)

-- wrapping subtraction, by its contract
pub less-wrapped : (r base v : ℕ) → r < 4294967296 → base < 4294967296 → (r + base) % 4294967296 ≡ v → r ≡ less_wrapped base v
less-wrapped r base v h k e = omega arith

-- the same for values less a base
pub run-part : (run d ys : List ℕ) (base w at e : ℕ) → e ≡ at + length run * w → e ≤ length d
    → ys ≡ if◌then◌else◌ (leb (length run * w) (length (take (e - at) (drop at d)))) (table_of w (map (less_wrapped base) run) ++ drop (length run * w) (take (e - at) (drop at d))) (take (e - at) (drop at d))
    → put_mid at (e - at) d ys ≡ over at (table_of w (map (less_wrapped base) run)) d
run-part run d ys base w at e p h q = put-part (map (less_wrapped base) run) d ys w at e (rw length-map p) h (rw length-map q)

-- nothing gathered
pub none_found : (r : ℕ) (xs : List ℕ) → r ≡ length xs → r ≡ 0 → xs ≡ []
none_found r [] e z = refl
none_found r (x ∷ xs) e z = absurd (omega arith)

pub none-capped : (r : ℕ) (xs : List ℕ) → r ≡ length xs → r ≡ 0 → map at_most65535 xs ≡ []
none-capped r xs e z = rw (none_found r xs e z)

pub none-put : (at w : ℕ) (xs d : List ℕ) → xs ≡ [] → (at ≡ at + length xs * w) × (d ≡ over at (table_of w xs) d)
unfolding table_of
none-put at w xs d e = rw e (omega arith, sym (over_none at d))

-- what was gathered is at the front of l
pub taken-fits : (k : ℕ) (l xs : List ℕ) → (k ≡ length xs) × (take k l ≡ xs) → k ≤ length l
taken-fits k l xs e = omega (arith, length-take k l, ap length e.1)

pub taken-length : (k : ℕ) (l xs : List ℕ) → (k ≡ length xs) × (take k l ≡ xs) → k ≡ length (take k l)
taken-length k l xs e = e.0 ∙ sym (ap length e.1)

pub some-put : (at w k : ℕ) (l xs d d' : List ℕ) → (k ≡ length xs) × (take k l ≡ xs) → d' ≡ over at (table_of w (take k l)) d
    → (at + k * w ≡ at + length xs * w) × (d' ≡ over at (table_of w xs) d)
some-put at w k l xs d d' e p = (rw (← e.0), p ∙ rw e.1)

-- entries capped on their way
pub capped-put : (at k : ℕ) (l xs d d' : List ℕ) → (k ≡ length xs) × (take k l ≡ xs) → d' ≡ over at (table_of 2 (map at_most65535 (take k l))) d
    → (at + k * 2 ≡ at + length (map at_most65535 xs) * 2) × (d' ≡ over at (table_of 2 (map at_most65535 xs)) d)
capped-put at k l xs d d' e p = (rw (length-map, ← e.0), p ∙ rw e.1)

pub four-put : (at : ℕ) (xs d d' : List ℕ) → d' ≡ over at (table_of 4 xs) d → d' ≡ over at (table_of 4 (map (stored_value W.Four) xs)) d
four-put at xs d d' p = p ∙ ap (λ (l : List ℕ). over at (table_of 4 l) d) (sym (map-four xs))
