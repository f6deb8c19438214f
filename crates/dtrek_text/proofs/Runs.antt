-- A run at the front, by the place of the first element that fails its test.
-- Assumes nothing.
use mathlib.Core.Path.{◌≡◌, refl}
use mathlib.Core.Bool.{Bool, true, false, not, cond}
use mathlib.Core.List.{List, [], ◌∷◌}
use Prim.Native.Nat.{ℕ, suc, ◌+◌}
use native.Mathlib.Omega.{arith}
use lib.ListN.{length}
use Rattle.std.specs.Prelude.{position, nat_lt, if◌then◌else◌, Some, None}
use Rattle.std.specs.Option.{unwrap_or}
use borrow.Author.Tests.{ltb-false}
use Rattle.std.specs.List.{position_or_len}
use Rattle.numeral.specs.Runs.{leading}
use Rattle.numeral.proofs.Runs.{leading_le}

outside-leading : (p : ℕ → Bool) (xs : List ℕ) → position_or_len (λ b. not (p b)) xs ≡ leading p xs
unfolding leading
outside-leading p [] = refl
outside-leading p (x ∷ xs) = go (p x) (outside-leading p xs)
  where
    go : (t : Bool) → position_or_len (λ b. not (p b)) xs ≡ leading p xs → cond (not (not t)) (1 + position_or_len (λ b. not (p b)) xs) 0 ≡ if◌then◌else◌ t (suc (leading p xs)) 0
    go true e = omega arith
    go false e = refl

pub position-leading : (p : ℕ → Bool) (xs : List ℕ) → unwrap_or (position (λ b. not (p b)) xs) (length xs) ≡ leading p xs
position-leading p xs = go (nat_lt (position_or_len (λ b. not (p b)) xs) (length xs)) refl
  where
    go : (t : Bool) → nat_lt (position_or_len (λ b. not (p b)) xs) (length xs) ≡ t → unwrap_or (cond t (Some (position_or_len (λ b. not (p b)) xs)) None) (length xs) ≡ leading p xs
    go true e = outside-leading p xs
    go false e = omega (arith, ltb-false _ _ e, outside-leading p xs, leading_le p xs)
