-- Laws of the entries of a table.
-- Assumes nothing.
use Rattle.std.proofs.Common.{◌≡◌, ℕ, zero, suc, ◌+◌, ◌-◌, ◌*◌, ◌/◌, ◌<◌, ◌≤◌, Bool, true, false, ◌&&◌, eqb, List, [], ◌∷◌, ◌++◌, length, get_or, take, drop, set, sym, refl, ◌∙◌, le_of_suc-le-suc, not-suc-le-zero, mul-le-mul_right, suc-mul, div-mul-le_self, mul-div_cancel, add-one, arith, length-drop, drop_of_length-le, length-take-le, take_all, take-suc, eq-eqb, ne_eqb}
use mathlib.Core.Bool.{and-true, and-false}
use lib.ListN.{get_or-eq_default}
use Rattle.lists.specs.Bytes.{little, chunked}
use Rattle.lists.proofs.Chunks.{chunked-length, chunked-at, chunked-drop, chunked-take, chunked-part, chunked-front}
use Rattle.layout.specs.declared.Width.{Width}
use Rattle.layout.specs.declared.Width.TheVariants as W
use Rattle.layout.specs.Form.{width_bytes}
use Rattle.lists.proofs.Writing.{Writing, writing_start, writing_more}
use Rattle.table.specs.Table.{entries, whole_entries, all_zero}

-- entries are numbers read least significant byte first
pub entries-chunked : (w n : ℕ) (t : List ℕ) → entries w n t ≡ chunked (little w) w n t
unfolding entries chunked
entries-chunked w zero t = refl
entries-chunked w (suc n) t = rw (entries-chunked w n (drop w t))

pub length-entries : (w n : ℕ) (t : List ℕ) → length (entries w n t) ≡ n
length-entries w n t = rw entries-chunked (chunked-length (little w) w n t)

pub entries-out : (w n k : ℕ) (t : List ℕ) → n ≤ k → get_or (entries w n t) k 0 ≡ 0
entries-out w n k t h = get_or-eq_default (entries w n t) 0 {n = k} (rw length-entries h)

pub entries_at : (w n : ℕ) (t : List ℕ) (k : ℕ) → k < n → get_or (entries w n t) k 0 ≡ little w (drop (k * w) t)
entries_at w n t k h = rw entries-chunked (chunked-at (little w) w n t k h)

-- an entry before the end lies within the table
pub within : (k n w : ℕ) → k < n → k * w + w ≤ n * w
within k n w h = rw (← suc-mul) (mul-le-mul_right w h)

-- the whole entries of t lie within it
pub whole-within : (w k : ℕ) (t : List ℕ) → k < length t / w → k * w + w ≤ length t
whole-within w k t h = omega (arith, within k (length t / w) w h, div-mul-le_self (length t) w)

pub drop-entries : (w p n : ℕ) (t : List ℕ) → drop p (entries w n t) ≡ entries w (n - p) (drop (p * w) t)
drop-entries w p n t = rw (entries-chunked w n t, entries-chunked w (n - p) (drop (p * w) t)) (chunked-drop (little w) w p n t)

pub take-entries : (w s n : ℕ) (t : List ℕ) → s ≤ n → take s (entries w n t) ≡ entries w s t
take-entries w s n t h = rw (entries-chunked w n t, entries-chunked w s t) (chunked-take (little w) w s n t h)

pub entries-part : (w n p s : ℕ) (t : List ℕ) → p + s ≤ n → take s (drop p (entries w n t)) ≡ entries w s (drop (p * w) t)
entries-part w n p s t h = rw (entries-chunked w n t, entries-chunked w s (drop (p * w) t)) (chunked-part (little w) w n p s t h)

-- entries of one byte are the bytes
pub entries-bytes : (n : ℕ) (t : List ℕ) → n ≤ length t → entries 1 n t ≡ take n t
unfolding entries little
entries-bytes zero t h = refl
entries-bytes (suc n) [] h = absurd (not-suc-le-zero h)
entries-bytes (suc n) (b ∷ t) h =
    let e : b + 256 * 0 ≡ b = omega arith in
    rw (entries-bytes n t (le_of_suc-le-suc h), e)

-- bytes past the entries do not count
pub little-take : (w m : ℕ) (t : List ℕ) → w ≤ m → little w (take m t) ≡ little w t
unfolding little
little-take zero m t h = refl
little-take (suc w) zero t h = absurd (not-suc-le-zero h)
little-take (suc w) (suc m) [] h = refl
little-take (suc w) (suc m) (b ∷ t) h = rw (little-take w m t (le_of_suc-le-suc h))

pub entries-take : (w n m : ℕ) (t : List ℕ) → n * w ≤ m → entries w n (take m t) ≡ entries w n t
entries-take w n m t h = rw (entries-chunked w n (take m t), entries-chunked w n t) (chunked-front (little w) w (little-take w) n m t h)

-- the entries of a part that holds just n of them
pub whole_part : (w n a : ℕ) (t : List ℕ) → 0 < w → a + n * w ≤ length t → whole_entries w (take (a + n * w - a) (drop a t)) ≡ entries w n (drop a t)
whole_part w n a t p h =
    let e : a + n * w - a ≡ n * w = omega arith in
    let l : length (take (n * w) (drop a t)) ≡ n * w = length-take-le (n * w) (drop a t) (rw length-drop (omega arith)) in
    rw (e, l, mul-div_cancel n p, entries-take w n (n * w) (drop a t) (omega arith))

-- the bytes of one entry, taken out of the table
pub length-one : (w at : ℕ) (t : List ℕ) → at + w ≤ length t → length (take (at + w - at) (drop at t)) ≡ w
length-one w at t h =
    let e : at + w - at ≡ w = omega arith in
    rw e (length-take-le w (drop at t) (rw length-drop (omega arith)))

pub little-one : (w at : ℕ) (t : List ℕ) → at + w ≤ length t → little (length (take (at + w - at) (drop at t))) (take (at + w - at) (drop at t)) ≡ little w (drop at t)
little-one w at t h =
    let e : at + w - at ≡ w = omega arith in
    rw (length-one w at t h, e) (little-take w w (drop at t) (omega arith))

-- The loop that reads entries.
pub loading-start : (w : ℕ) (t out : List ℕ) → Writing (entries w (length out) t) out out 0
loading-start w t out = writing_start _ _ (rw length-entries (omega arith))

pub loading-more : (w : ℕ) (t : List ℕ) {out₀ out : List ℕ} {i : ℕ} (v : ℕ) → Writing (entries w (length out₀) t) out₀ out i → i < length out₀ → v ≡ little w (drop (i * w) t)
    → Writing (entries w (length out₀) t) out₀ (set out i v) (i + 1)
loading-more w t {out₀} {out} {i} v f h e = writing_more v f (rw length-entries h) (e ∙ sym (entries_at w (length out₀) t i h))

-- The loop that looks for a byte other than 0.
pub record Scanning (t : List ℕ) (zero? : Bool) (i : ℕ) : Type 0 where
  pub upto : i ≤ length t
  pub is : zero? ≡ all_zero (take i t)

zero-append : (s t : List ℕ) → all_zero (s ++ t) ≡ (all_zero s && all_zero t)
unfolding all_zero
zero-append [] t = refl
zero-append (b ∷ s) t = go (eqb b 0) (zero-append s t)
  where
    go : (z : Bool) → all_zero (s ++ t) ≡ (all_zero s && all_zero t) → (z && all_zero (s ++ t)) ≡ (z && all_zero s && all_zero t)
    go true h = h
    go false h = refl

zero_more : (t : List ℕ) (i : ℕ) → i < length t → all_zero (take (i + 1) t) ≡ (all_zero (take i t) && all_zero (get_or t i 0 ∷ []))
zero_more t i h = rw (add-one, take-suc t i 0 h, zero-append)

pub scanning-start : (t : List ℕ) → Scanning t true 0
unfolding all_zero
scanning-start t = record { upto = omega arith; is = refl }

module _ {t : List ℕ} {z : Bool} {i : ℕ} (f : Scanning t z i) (h : i < length t) where
  pub scanning-other : (get_or t i 0 ≡ 0 → ⊥) → Scanning t false (i + 1)
  unfolding all_zero
  scanning-other e = record { upto = omega arith; is = rw (zero_more t i h, ne_eqb _ _ e) (sym (and-false (all_zero (take i t)))) }

  pub scanning-zero : get_or t i 0 ≡ 0 → Scanning t z (i + 1)
  unfolding all_zero
  scanning-zero e = record { upto = omega arith; is = rw (zero_more t i h, eq-eqb _ _ e) (f.is ∙ sym (and-true (all_zero (take i t)))) }

pub scanning-done : {t : List ℕ} {z : Bool} {i : ℕ} → Scanning t z i → length t ≤ i → z ≡ all_zero t
scanning-done {t} {z} {i} f h = rw (take_all i t h) at f.is

-- the entries from k on: those of the bytes behind the first k
count-from : (w : Width) (n k : ℕ) → (n - k * width_bytes w) / width_bytes w ≡ n / width_bytes w - k
count-from W.One n k = omega arith
count-from W.Two n k = omega arith
count-from W.Four n k = omega arith

pub whole_from : (w : Width) (k : ℕ) (t : List ℕ) → whole_entries (width_bytes w) (drop (k * width_bytes w) t) ≡ drop k (whole_entries (width_bytes w) t)
whole_from w k t = rw (length-drop, count-from w (length t) k) (sym (drop-entries (width_bytes w) k (length t / width_bytes w) t))

none_of : (w : Width) → 0 / width_bytes w ≡ 0
none_of W.One = omega arith
none_of W.Two = omega arith
none_of W.Four = omega arith

pub whole-past : (w : Width) (k : ℕ) (t s : List ℕ) → length s ≡ 0 → length t / width_bytes w ≤ k → whole_entries (width_bytes w) s ≡ drop k (whole_entries (width_bytes w) t)
unfolding entries
whole-past w k t [] e h =
    let z : 0 / width_bytes w ≡ 0 = none_of w in
    rw (z, drop_of_length-le (entries (width_bytes w) (length t / width_bytes w) t) {i = k} (rw length-entries h))
whole-past w k t (b ∷ s) e h = absurd (omega arith)
