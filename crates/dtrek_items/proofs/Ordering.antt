-- Laws of the order of byte strings.
-- Assumes nothing.
use mathlib.Core.Path.{◌≡◌, refl, sym, ap, ◌∙◌}
use mathlib.Core.Bool.{Bool, true, false}
use mathlib.Core.List.{List}
use Prim.Native.Nat.{ℕ, ◌<◌}
use native.Mathlib.Omega.{arith}
use borrow.Author.Tests.{ltb-true, ltb-false}
use lib.Dec.{ltb}
use Rattle.std.specs.declared.cmp.Ordering.{Ordering}
use Rattle.std.specs.declared.cmp.Ordering.TheVariants.{Less}
use Rattle.std.specs.Ordering.{ordering_reverse, is_eq}
use Rattle.std.specs.Cmp.Lexicographic.{texts_ties}
use Rattle.std.proofs.lemmas.Cmp.{nat_list_cmp_total, nat_list_eq_equiv}
use Rattle.lists.specs.Bytes.{same_bytes}
use Rattle.dtrek_text.proofs.Compare.{same-pointwise}
use Rattle.dtrek_items.specs.Keys.{compared}

-- two numbers, the one way or the other
pub data Two : ℕ → ℕ → Type 0 where
  lower : {a b : ℕ} → a < b → Two a b
  equal : {a b : ℕ} → a ≡ b → Two a b
  higher : {a b : ℕ} → b < a → Two a b

two-by : (a b : ℕ) (s t : Bool) → ltb a b ≡ s → ltb b a ≡ t → Two a b
two-by a b true t p q = lower (ltb-true a b p)
two-by a b false true p q = higher (ltb-true b a q)
two-by a b false false p q = let e : a ≡ b = omega (arith, ltb-false a b p, ltb-false b a q) in equal {b = b} e

pub two : (a b : ℕ) → Two a b
two a b = two-by a b (ltb a b) (ltb b a) refl refl

-- the opposite way
pub reversed : (a b : List ℕ) {o : Ordering} → compared a b ≡ o → compared b a ≡ ordering_reverse o
reversed a b e = nat_list_cmp_total.antisymm b a ∙ ap ordering_reverse e

pub before-trans : (a b c : List ℕ) → compared a b ≡ Less → compared b c ≡ Less → compared a c ≡ Less
before-trans a b c p q = nat_list_cmp_total.trans a b c p q

-- the same string exactly where the bytes are the same
pub same_by : (a b : List ℕ) {o : Ordering} → compared a b ≡ o → same_bytes a b ≡ is_eq o
same_by a b e = sym (same-pointwise a b) ∙ texts_ties a b ∙ ap is_eq e

pub sames-flip : (a b : List ℕ) → same_bytes a b ≡ same_bytes b a
sames-flip a b = sym (same-pointwise a b) ∙ nat_list_eq_equiv.symm a b ∙ same-pointwise b a
