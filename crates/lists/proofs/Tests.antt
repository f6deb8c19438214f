-- Laws of tests, and of a test that every element of a list passes.
-- Assumes nothing.
use mathlib.Core.Path.{◌≡◌, refl}
use mathlib.Core.Bool.{Bool, true, false, ◌&&◌}
use mathlib.Core.List.{List, [], ◌∷◌}
use Prim.Native.Nat.{ℕ, zero, suc}
use native.Mathlib.Omega.{arith}
use lib.Dec.{T}
use lib.ListN.{get_or}

pub and-false : (a : Bool) → (a && false) ≡ false
and-false true = refl
and-false false = refl

and_left : (a b : Bool) → T (a && b) → T a
and_left true b t = tt
and_left false b t = t

and_right : (a b : Bool) → T (a && b) → T b
and_right true b t = t
and_right false b t = absurd t

module _ {A : Type 0} (f : A → Bool) where
  abbrev pub every : List A → Bool
  every [] = true
  every (x ∷ xs) = f x && every xs

  -- a test that each element passes, and the element past the end, is passed at each place
  pub every-at : (xs : List A) (d : A) → T (every xs) → T (f d) → (k : ℕ) → T (f (get_or xs k d))
  every-at [] d t e k = e
  every-at (x ∷ xs) d t e zero = and_left (f x) (every xs) t
  every-at (x ∷ xs) d t e (suc k) = every-at xs d (and_right (f x) (every xs) t) e k

pub and-true-left : (a b : Bool) → (a && b) ≡ true → a ≡ true
and-true-left true b t = refl
and-true-left false b t = t

pub and-true-right : (a b : Bool) → (a && b) ≡ true → b ≡ true
and-true-right true b t = t
and-true-right false b t = let z : ◌≡◌ {A = ℕ} 0 1 = cc in absurd (omega arith)
