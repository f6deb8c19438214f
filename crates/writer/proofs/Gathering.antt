-- The loops that gather the elements that pass a test.
-- Assumes nothing.
use Rattle.std.proofs.Common.{◌≡◌, ℕ, ◌+◌, ◌-◌, ◌<◌, ◌≤◌, Bool, leb, leb-true, leb-false, min, true, false, List, [], ◌∷◌, ◌++◌, map, length, get_or, take, set, refl, ap, append-nil, add-zero, add-one, arith, length-set, take_all, take-suc-set}
use lib.Seq.{take-set-le}
use Rattle.std.specs.Prelude.{if◌then◌else◌}
use Rattle.std.specs.Int.{from_bool}
use Rattle.lists.specs.Only.{only}
use Rattle.lists.proofs.Only.{only-more, Counting, counting-start, counting_more, counting-done}
use Rattle.layout.specs.declared.Width.TheVariants as W
use Rattle.layout.specs.declared.Underflow.TheVariants as U
use Rattle.layout.specs.declared.Form.{Form}
use Rattle.header_text.specs.declared.Counts.{Counts}
use Rattle.pixel_counts.specs.Counts.{counts_for, no_counts}
use Rattle.writer.specs.Storing.{stored_value}
use Rattle.writer.specs.Blocks.{less, capped}

-- The loop that gathers.
pub record Gathering (p : ℕ → Bool) (s out₀ out : List ℕ) (k i : ℕ) : Type 0 where
  pub counts : Counting p s k i
  pub room : length s ≤ length out₀
  pub same : length out ≡ length out₀
  pub is : take k out ≡ only p (take i s)

pub gathering-start : (p : ℕ → Bool) (s out : List ℕ) → length s ≤ length out → Gathering p s out out 0 0
unfolding only
gathering-start p s out h = record { counts = counting-start p s; room = h; same = refl; is = refl }

pub gathering-more : {p : ℕ → Bool} {s out₀ out : List ℕ} {k i : ℕ} (z : ℕ) → Gathering p s out₀ out k i → i < length s → z ≡ if◌then◌else◌ (p (get_or s i 0)) 1 0
    → Gathering p s out₀ (set out k (get_or s i 0)) (k + z) (i + 1)
gathering-more {p} {s} {out₀} {out} {k} {i} z f h e = record {
  counts = counting_more z f.counts h e;
  room = f.room;
  same = simp length-set f.same;
  is = rw (only-more p s i h, ← f.is) (go (p (get_or s i 0)) e);
}
  where
    x : ℕ
    x = get_or s i 0

    go : (t : Bool) → z ≡ if◌then◌else◌ t 1 0 → take (k + z) (set out k x) ≡ take k out ++ if◌then◌else◌ t (x ∷ []) []
    go true q = rw (q, add-one, take-suc-set out k x (omega (arith, f.counts.low, f.room, f.same)))
    go false q = rw (q, add-zero, take-set-le k out k x (omega arith), append-nil)

pub gathering-done : {p : ℕ → Bool} {s out₀ out : List ℕ} {k i : ℕ} → Gathering p s out₀ out k i → length s ≤ i → (k ≡ length (only p s)) × (take k out ≡ only p s)
gathering-done {p} {s} {out₀} {out} {k} {i} f h = (counting-done f.counts h, rw (take_all i s h) at f.is)

pub map-four : (xs : List ℕ) → map (stored_value W.Four) xs ≡ xs
map-four [] = refl
map-four (x ∷ xs) = ap (λ (l : List ℕ). x ∷ l) (map-four xs)

-- width 4 with kind none has no entries to count
pub plain-counts : (form : Form) (c : Counts) → form.width ≡ W.Four → form.underflow ≡ U.None → no_counts ≡ counts_for form c
unfolding counts_for
plain-counts form c w u = rw (w, u)

-- less the baseline, with no branch
pub less-is : (base v : ℕ) → v - base ≡ less base v
less-is base v = go (leb v base) refl
  where
    go : (t : Bool) → leb v base ≡ t → v - base ≡ if◌then◌else◌ t 0 (v - base)
    go true e = let h = leb-true v base e in omega arith
    go false e = refl

-- the smaller of a number and the limit
pub capped-is : (limit v : ℕ) → min v limit ≡ capped limit v
capped-is limit v = go (leb limit v) refl
  where
    go : (t : Bool) → leb limit v ≡ t → min v limit ≡ if◌then◌else◌ t limit v
    go true e = let h = leb-true limit v e in omega arith
    go false e = let h = leb-false limit v e in omega arith

-- a test as a number
pub one_le : (t : Bool) → from_bool t ≤ 1
one_le true = omega arith
one_le false = omega arith
