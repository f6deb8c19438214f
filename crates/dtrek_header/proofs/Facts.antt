-- What an accepted d*TREK header says is within bounds.
-- Assumes nothing.
use mathlib.Core.Path.{◌≡◌, refl}
use mathlib.Core.Bool.{Bool, true, false, not, ◌&&◌, ◌||◌}
use mathlib.Core.List.{List}
use Prim.Native.Nat.{ℕ, ◌≤◌}
use native.Mathlib.Omega.{arith}
use borrow.Author.Tests.{leb-true, eqb-true}
use lib.Dec.{eqb, leb, ltb}
use lib.ListN.{length}
use Rattle.std.specs.Prelude.{if◌then◌else◌, Err, None, Ok, Option, Some, ℕ}
use Rattle.lists.specs.Text.{codes}
use Rattle.lists.proofs.Tests.{and-true-left, and-true-right}
use Rattle.refusal.specs.declared.Refusal.TheVariants as R
use Rattle.dtrek_text.specs.Bytes.{between}
use Rattle.dtrek_text.specs.Items.{Item, items}
use Rattle.dtrek_items.specs.Survey.{is_malformed}
use Rattle.dtrek_header.specs.declared.DtrekHeader.{DtrekHeader}
use Rattle.dtrek_header.specs.Length.{header_length}
use Rattle.dtrek_header.specs.Contents.{number_under, is_two, is_side, are_sizes, required, supported, count_of, header_of}
use Rattle.dtrek_header.specs.DtrekHeader.{contents_in, header_in, header_by, dtrek_header, Bounded}
use Rattle.dtrek_header.proofs.Laws.{length-listed}

record Sides (a b : ℕ) : Type 0 where
  first : a ≤ 4096
  second : b ≤ 4096

sides-from : (a b : ℕ) (s z : Bool) → (is_side a && is_side b) ≡ s → (eqb a 0 && eqb b 0) ≡ z → (s || z) ≡ true → Sides a b
sides-from a b true z p q t =
    let l : is_side a ≡ true = and-true-left (is_side a) (is_side b) p in
    let r : is_side b ≡ true = and-true-right (is_side a) (is_side b) p in
    record { first = leb-true a 4096 (and-true-right (leb 1 a) (leb a 4096) l); second = leb-true b 4096 (and-true-right (leb 1 b) (leb b 4096) r) }
sides-from a b false true p q t =
    let l : a ≡ 0 = eqb-true a 0 (and-true-left (eqb a 0) (eqb b 0) q) in
    let r : b ≡ 0 = eqb-true b 0 (and-true-right (eqb a 0) (eqb b 0) q) in
    record { first = omega arith; second = omega arith }
sides-from a b false false p q t = let z : ◌≡◌ {A = ℕ} 0 1 = cc in absurd (omega arith)

sizes-within : (u v : Option ℕ) → are_sizes u v ≡ true → Sides (count_of u) (count_of v)
sizes-within (Some a) (Some b) t = sides-from a b _ _ refl refl t
sizes-within (Some a) None t = let z : ◌≡◌ {A = ℕ} 0 1 = cc in absurd (omega arith)
sizes-within None v t = let z : ◌≡◌ {A = ℕ} 0 1 = cc in absurd (omega arith)

module _ (n : ℕ) (is : List Item) where
  bounded_of : n ≤ 99840 → required is ≡ true → Bounded (header_of n is)
  unfolding required header_of
  bounded_of h t =
      let a = and-true-right (is_two (number_under (codes "DIM") is)) _ t in
      let s = sizes-within (number_under (codes "SIZE1") is) (number_under (codes "SIZE2") is) (and-true-left (are_sizes (number_under (codes "SIZE1") is) (number_under (codes "SIZE2") is)) _ a) in
      record { start = h; rows = s.second; columns = s.first }

  bounded-if : {h : DtrekHeader} (a b c : Bool) → n ≤ 99840 → required is ≡ b
      → if◌then◌else◌ a (Err R.BadSyntax) (if◌then◌else◌ (not b) (Err R.BadContent) (if◌then◌else◌ c (Err R.UnsupportedData) (Ok (header_of n is)))) ≡ Ok h
      → Bounded h
  bounded-if {h} true b c l t p = let z : ◌≡◌ {A = ℕ} 0 1 = cc in absurd (omega arith)
  bounded-if {h} false false c l t p = let z : ◌≡◌ {A = ℕ} 0 1 = cc in absurd (omega arith)
  bounded-if {h} false true true l t p = let z : ◌≡◌ {A = ℕ} 0 1 = cc in absurd (omega arith)
  bounded-if {h} false true false l t p = let e : header_of n is ≡ h = cc in rw e at (bounded_of l t)

bounded-in : (n : ℕ) (text : List ℕ) {h : DtrekHeader} → n ≤ 99840 → header_in n text ≡ Ok h → Bounded h
unfolding header_in contents_in
bounded-in n text l p = bounded-if n (items text) (is_malformed text) _ (not (supported (items text))) l refl p

bounded-by : (bytes : List ℕ) {h : DtrekHeader} (n : ℕ) (t : Bool) → n ≤ 99840 → if◌then◌else◌ t (Err R.HeaderTruncated) (header_in n (between 1 n bytes)) ≡ Ok h → Bounded h
bounded-by bytes n true l p = let z : ◌≡◌ {A = ℕ} 0 1 = cc in absurd (omega arith)
bounded-by bytes n false l p = bounded-in n (between 1 n bytes) l p

bounded-from : (bytes : List ℕ) {h : DtrekHeader} (l : Option ℕ) → l ≡ header_length bytes → header_by bytes l ≡ Ok h → Bounded h
bounded-from bytes None q p = let z : ◌≡◌ {A = ℕ} 0 1 = cc in absurd (omega arith)
bounded-from bytes (Some n) q p = bounded-by bytes n (ltb (length bytes) n) (length-listed bytes q).high p

pub accepted-bounded : (bytes : List ℕ) {h : DtrekHeader} → dtrek_header bytes ≡ Ok h → Bounded h
unfolding dtrek_header
accepted-bounded bytes p = bounded-from bytes (header_length bytes) refl p
