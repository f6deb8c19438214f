-- A field that is found has a character, and ends within the line.
-- Assumes nothing.
use Rattle.field.specs.declared.Field.{Field}
use Rattle.field.specs.Fields.{field_found}
use mathlib.Core.Path.{◌≡◌, refl, ap}
use mathlib.Core.Bool.{Bool, true, false}
use mathlib.Core.List.{List}
use Prim.Native.Nat.{ℕ, ◌+◌, ◌≤◌, ◌<◌}
use native.Mathlib.Omega.{arith}
use borrow.Author.Tests.{eqb-false}
use lib.Dec.{eqb}
use lib.ListN.{length, drop, length-drop}
use Rattle.std.specs.Prelude.{if◌then◌else◌, None, Some}
use Rattle.numeral.specs.Runs.{in_class, leading, passed}
use Rattle.numeral.specs.declared.Class.TheVariants.{Space, Other}
use Rattle.numeral.proofs.Runs.{leading_le}
use Rattle.field.specs.declared.Cursor.{Cursor}
use Rattle.field.specs.Fields.{field_between, field_from}

pub record Within (line : List ℕ) (start end : ℕ) : Type 0 where
  pub some : start < end
  pub inside : end ≤ length line

picked : (line : List ℕ) (a start end : ℕ) (next : Cursor) (t : Bool) → eqb a (passed (in_class Other) line a) ≡ t
    → Some (field_found start end next) ≡ if◌then◌else◌ t None (Some (field_found a (passed (in_class Other) line a) (record { at = passed (in_class Other) line a })))
    → Within line start end
picked line a start end next true t p = let z : ◌≡◌ {A = ℕ} 0 1 = cc in absurd (omega arith)
picked line a start end next false t p =
    let q : field_found start end next ≡ field_found a (passed (in_class Other) line a) (record { at = passed (in_class Other) line a }) = cc in
    let s : start ≡ a = ap (λ (f : Field). f.start) q in
    let e : end ≡ passed (in_class Other) line a = ap (λ (f : Field). f.end) q in
    let n : a ≡ passed (in_class Other) line a → ⊥ = eqb-false _ _ t in
    let k : leading (in_class Other) (drop a line) ≤ length (drop a line) = leading_le (in_class Other) (drop a line) in
    record { some = omega arith; inside = omega (arith, length-drop a line) }

pub found_within : (line : List ℕ) (at start end : ℕ) (next : Cursor) → Some (field_found start end next) ≡ field_from line at → Within line start end
unfolding field_from
found_within line at start end next p = picked line (passed (in_class Space) line at) start end next _ refl p
