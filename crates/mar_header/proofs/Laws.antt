-- Laws of a plate's sizes.
-- Assumes nothing.
use mathlib.Core.Path.{◌≡◌, refl}
use Prim.Native.Nat.{ℕ, ◌/◌, ◌≤◌}
use native.Mathlib.Omega.{arith}
use Rattle.mar_header.specs.declared.Side.{Side}
use Rattle.mar_header.specs.declared.Side.TheVariants as S
use Rattle.mar_header.specs.Plate.{side_pixels, pairs_per_record, records_for}
use Rattle.std.specs.Int.{div_ceil}

pub side-le : (s : Side) → side_pixels s ≤ 2000
side-le S.Small = omega arith
side-le S.Large = omega arith

pub side-ge : (s : Side) → 1200 ≤ side_pixels s
side-ge S.Small = omega arith
side-ge S.Large = omega arith

-- four pixels' bytes hold a pair
pub pairs-each : (s : Side) → side_pixels s / 4 ≡ pairs_per_record s
pairs-each S.Small = refl
pairs-each S.Large = refl

-- so the records are as many as this division gives
pub records-ceil : (s : Side) (n : ℕ) → div_ceil n (side_pixels s / 4) ≡ records_for s n
unfolding records_for
records-ceil S.Small n = omega arith
records-ceil S.Large n = omega arith
