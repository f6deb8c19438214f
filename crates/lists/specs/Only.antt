-- The elements of a list that pass a test.
use Rattle.std.specs.Prelude.{ℕ, Bool, List, [], ◌∷◌, if◌then◌else◌}

-- in their order
unfoldable pub only : (ℕ → Bool) → List ℕ → List ℕ
only p [] = []
only p (v ∷ vs) = if p v then v ∷ only p vs else only p vs
