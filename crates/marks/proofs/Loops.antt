-- What a loop over the entries keeps, and one law for each way through the taking of an entry.
-- Assumes nothing.
use Rattle.marks.specs.Steps.{entry_read}
use Rattle.marks.specs.declared.Entry.{Entry}
use mathlib.Core.Path.{◌≡◌, refl, sym, ◌∙◌}
use mathlib.Core.Bool.{Bool, true, false}
use mathlib.Core.List.{List}
use Prim.Native.Nat.{ℕ, ◌+◌, ◌≤◌, ◌<◌}
use native.Mathlib.Numerals.{add-one}
use native.Mathlib.Omega.{arith}
use lib.ListN.{length, get_or, drop, set, length-set, drop_of_length-le}
use lib.Seq.{drop-cons}
use borrow.Author.Tests.{eq-eqb, ne_eqb, lt-ltb, le-ltb}
use Rattle.std.specs.Prelude.{if◌then◌else◌, Err, Ok, None, Option, Some}
use Rattle.refusal.specs.declared.Refusal.TheVariants as R
use Rattle.marks.specs.Steps.{takes, put, placing, placed}

put-length : (px : List ℕ) (e : Option Entry) → length (put px e) ≡ length px
put-length px None = refl
put-length px (Some en) = length-set px en.pixel en.intensity

-- the entries es from k on, over the pixels px
pub record Placing (hold : ℕ) (px₀ px : List ℕ) (es : List (Option Entry)) (k : ℕ) : Type 0 where
  pub upto : k ≤ length es
  pub same : length px ≡ length px₀
  pub went : placing hold px k (drop k es) ≡ placing hold px₀ 0 es
  pub are : placed hold px (drop k es) ≡ placed hold px₀ es

pub placing-start : (hold : ℕ) (px : List ℕ) (es : List (Option Entry)) → Placing hold px px es 0
placing-start hold px es = record { upto = omega arith; same = refl; went = refl; are = refl }

module _ {hold : ℕ} {px₀ px : List ℕ} {es : List (Option Entry)} {k : ℕ} (f : Placing hold px₀ px es k) where
  placing-more : (e : Option Entry) → k < length es → get_or es k None ≡ e → takes hold px e ≡ true → Placing hold px₀ (put px e) es (k + 1)
  unfolding placing placed
  placing-more e h q g = record {
    upto = omega arith;
    same = put-length px e ∙ f.same;
    went = rw add-one (rw (drop-cons es k None h, q, g) at f.went);
    are = rw add-one (rw (drop-cons es k None h, q, g) at f.are);
  }

  placing-bad : (e : Option Entry) → k < length es → get_or es k None ≡ e → takes hold px e ≡ false
      → (Err (R.BadEntry k) ≡ placing hold px₀ 0 es) × (px ≡ placed hold px₀ es)
  unfolding placing placed
  placing-bad e h q g = (rw (drop-cons es k None h, q, g) at f.went, rw (drop-cons es k None h, q, g) at f.are)

  pub placing-end : length es ≤ k → (Ok tt ≡ placing hold px₀ 0 es) × (px ≡ placed hold px₀ es)
  unfolding placing placed
  placing-end h = (rw (drop_of_length-le es h) at f.went, rw (drop_of_length-le es h) at f.are)

  -- a turn: the entry e, whether it was taken, and the pixels after it
  module _ (h : k < length es) (e : Option Entry) (r : Bool) (after : List ℕ) (p : get_or es k None ≡ e) (q : r ≡ takes hold px e) (s : after ≡ if◌then◌else◌ (takes hold px e) (put px e) px) where
    pub turn-taken : r ≡ true → Placing hold px₀ after es (k + 1)
    turn-taken y =
        let g : takes hold px e ≡ true = sym q ∙ y in
        let a : after ≡ put px e = s ∙ rw g in
        rw a (placing-more e h p g)

    pub turn-refused : r ≡ false → (Err (R.BadEntry k) ≡ placing hold px₀ 0 es) × (after ≡ placed hold px₀ es)
    turn-refused y =
        let g : takes hold px e ≡ false = sym q ∙ y in
        let b = placing-bad e h p g in
        (b.0, s ∙ rw g b.1)

-- the array keeps its length
pub after-length : (hold : ℕ) (px : List ℕ) (e : Option Entry) (after : List ℕ) → after ≡ if◌then◌else◌ (takes hold px e) (put px e) px → length after ≡ length px
after-length hold px e after s = rw s (go (takes hold px e))
  where
    go : (b : Bool) → length (if◌then◌else◌ b (put px e) px) ≡ length px
    go true = put-length px e
    go false = refl

-- the ways through the taking of an entry
module _ (hold : ℕ) (px : List ℕ) {e : Option Entry} {v p : ℕ} (q : e ≡ Some (entry_read v p)) where
  pub entry_past : length px ≤ p → (false ≡ takes hold px e) × (px ≡ if◌then◌else◌ (takes hold px e) (put px e) px)
  entry_past h = (rw (q, le-ltb _ _ h), rw (q, le-ltb _ _ h))

  pub entry_other : p < length px → (get_or px p 0 ≡ hold → ⊥) → (false ≡ takes hold px e) × (px ≡ if◌then◌else◌ (takes hold px e) (put px e) px)
  entry_other h n = (rw (q, lt-ltb _ _ h, ne_eqb _ _ n), rw (q, lt-ltb _ _ h, ne_eqb _ _ n))

  pub entry-taken : p < length px → get_or px p 0 ≡ hold → (true ≡ takes hold px e) × (set px p v ≡ if◌then◌else◌ (takes hold px e) (put px e) px)
  entry-taken h n = (rw (q, lt-ltb _ _ h, eq-eqb _ _ n), rw (q, lt-ltb _ _ h, eq-eqb _ _ n))
