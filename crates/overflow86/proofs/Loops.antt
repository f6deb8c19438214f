-- What the loop over the pixels keeps.
-- Assumes nothing.
use mathlib.Core.Path.{◌≡◌, refl, sym, ◌∙◌}
use mathlib.Core.Bool.{Bool, true, false}
use mathlib.Core.List.{List, ◌∷◌, ◌++◌, map, append-nil}
use Prim.Native.Nat.{ℕ, suc, ◌+◌, ◌≤◌, ◌<◌}
use native.Mathlib.Numerals.{add-one}
use native.Mathlib.Omega.{arith}
use lib.ListN.{length, get_or, take, drop, set, length-set, drop_of_length-le}
use lib.Seq.{drop-cons, take-suc-set, drop-set-lt, append_snoc, take_all}
use lib.Dec.{eqb}
use mir.Val.{bool_byte}
use Rattle.std.specs.Prelude.{if◌then◌else◌}
use Rattle.marks.specs.Steps.{count_of}
use Rattle.overflow86.specs.Steps.{waiting_if, one_if}

pub count-cons : (m x : ℕ) (xs : List ℕ) → count_of m (x ∷ xs) ≡ one_if m x + count_of m xs
unfolding count_of
count-cons m x xs = go (eqb x m) refl
  where
    go : (t : Bool) → eqb x m ≡ t → count_of m (x ∷ xs) ≡ one_if m x + count_of m xs
    go true e = rw e (omega arith)
    go false e = rw e (omega arith)

pub one-le : (m x : ℕ) → one_if m x ≤ 1
one-le m x = go (eqb x m)
  where
    go : (t : Bool) → if◌then◌else◌ t 1 0 ≤ 1
    go true = omega arith
    go false = omega arith

-- a test as a number
pub byte-one : (m x : ℕ) → bool_byte (eqb x m) ≡ one_if m x
byte-one m x = go (eqb x m)
  where
    go : (t : Bool) → bool_byte t ≡ if◌then◌else◌ t 1 0
    go true = refl
    go false = refl

-- the pixels from i on are still to be made waiting; n marks are counted
pub record Awaiting (m : ℕ) (px₀ px : List ℕ) (n i : ℕ) : Type 0 where
  pub upto : i ≤ length px
  pub same : length px ≡ length px₀
  pub low : n ≤ i
  pub marks : n + count_of m (drop i px) ≡ count_of m px₀
  pub is : take i px ++ map (waiting_if m) (drop i px) ≡ map (waiting_if m) px₀

pub awaiting-start : (m : ℕ) (px : List ℕ) → Awaiting m px px 0 0
awaiting-start m px = record { upto = omega arith; same = refl; low = omega arith; marks = omega arith; is = refl }

module _ {m : ℕ} {px₀ px : List ℕ} {n i : ℕ} (f : Awaiting m px₀ px n i) where
  pub awaiting-on : (v z : ℕ) → i < length px → v ≡ waiting_if m (get_or px i 0) → z ≡ one_if m (get_or px i 0) → Awaiting m px₀ (set px i v) (n + z) (i + 1)
  awaiting-on v z h ev ez =
      let c : count_of m (drop i px) ≡ one_if m (get_or px i 0) + count_of m (drop (suc i) px) = rw (drop-cons px i 0 h) (count-cons m (get_or px i 0) (drop (suc i) px)) in
      record {
        upto = simp length-set (omega arith);
        same = simp length-set f.same;
        low = omega (arith, f.low, one-le m (get_or px i 0));
        marks = rw (add-one i, drop-set-lt (suc i) px i v (omega arith)) (omega (arith, c, f.marks));
        is = rw (add-one i, drop-set-lt (suc i) px i v (omega arith), take-suc-set px i v h, append_snoc, ev) (rw (drop-cons px i 0 h) at f.is);
      }

  pub awaiting-end : length px ≤ i → (n ≡ count_of m px₀) × (px ≡ map (waiting_if m) px₀)
  unfolding count_of
  awaiting-end h =
      let k = rw (drop_of_length-le px h) at f.marks in
      (omega (arith, k), sym (append-nil px) ∙ (rw (drop_of_length-le px h, take_all i px h) at f.is))
