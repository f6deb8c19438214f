-- Part of a list put over the same part of another. For the contracts of private functions.
use Rattle.std.specs.Prelude.{ℕ, ◌-◌, List, ◌++◌, take, drop}

-- px with places p to e, this one not included, as they are in vs
unfoldable pub with_part : ℕ → ℕ → List ℕ → List ℕ → List ℕ
with_part p e vs px = take p px ++ (take (e - p) (drop p vs) ++ drop e px)
