-- Laws of `passed`, over the test p: one step on, the two ways to stop, and where it ends.
-- Assumes nothing.
use mathlib.Core.Path.{◌≡◌}
use mathlib.Core.Bool.{Bool, true, false}
use mathlib.Core.List.{List, [], ◌∷◌}
use Prim.Native.Nat.{ℕ, suc, ◌+◌, ◌≤◌, ◌<◌}
use native.Mathlib.Numerals.{add-one}
use native.Mathlib.Omega.{arith}
use lib.ListN.{length, get_or, drop, drop_of_length-le, length-drop}
use lib.Seq.{drop-cons}
use Rattle.std.specs.Prelude.{if◌then◌else◌}
use Rattle.numeral.specs.Runs.{leading, passed}

module _ (p : ℕ → Bool) (s : List ℕ) (i : ℕ) where
  pub passed_on : i < length s → p (get_or s i 0) ≡ true → passed p s (i + 1) ≡ passed p s i
  unfolding leading
  passed_on h t = rw (drop-cons s i 0, t, add-one) (omega arith)

  pub passed-stop : i < length s → p (get_or s i 0) ≡ false → i ≡ passed p s i
  unfolding leading
  passed-stop h t = rw (drop-cons s i 0, t) (omega arith)

  pub passed-end : length s ≤ i → i ≡ passed p s i
  unfolding leading
  passed-end h = rw (drop_of_length-le s h) (omega arith)

choice-le : (t : Bool) (n m : ℕ) → n ≤ m → if◌then◌else◌ t n 0 ≤ m
choice-le true n m h = h
choice-le false n m h = omega arith

pub leading_le : (p : ℕ → Bool) (s : List ℕ) → leading p s ≤ length s
unfolding leading
leading_le p [] = omega arith
leading_le p (b ∷ bs) = choice-le (p b) (suc (leading p bs)) (suc (length bs)) (omega (arith, leading_le p bs))

-- a run ends within the text, where it begins there
pub passed-within : (p : ℕ → Bool) (s : List ℕ) (i : ℕ) → i ≤ length s → passed p s i ≤ length s
passed-within p s i h = omega (arith, leading_le p (drop i s), length-drop i s)
