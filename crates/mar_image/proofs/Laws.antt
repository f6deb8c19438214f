-- A pixel of 65535 waits for its pair, and no pair has that count: so the array as it is loaded tells which pairs may stand.
-- Assumes nothing.
use Rattle.marks.specs.Steps.{entry_read}
use Rattle.marks.specs.declared.Entry.{Entry}
use mathlib.Core.Path.{◌≡◌, refl, sym, ap, ◌∙◌}
use mathlib.Core.Bool.{Bool, true, false, ◌&&◌}
use mathlib.Core.List.{List, [], ◌∷◌}
use Prim.Native.Nat.{ℕ, zero, suc, ◌+◌, ◌-◌, ◌*◌, ◌<◌}
use native.Mathlib.Nat.{le_of_suc-le-suc, not-suc-le-zero}
use native.Mathlib.Omega.{arith}
use lib.ListN.{length, get_or, take, drop, length-drop}
use lib.Seq.{drop-drop, take_all}
use lib.Dec.{eqb, ltb}
use borrow.Author.Tests.{eqb-true, eqb-false, ltb-true}
use Rattle.std.specs.Prelude.{if◌then◌else◌, Err, Ok, Result, None, Option, Some}
use Rattle.std.specs.Result.{is_err}
use Rattle.lists.specs.Bytes.{zeros}
use Rattle.lists.proofs.Tests.{and-true-right}
use Rattle.refusal.specs.declared.Refusal.{Refusal}
use Rattle.layout.specs.declared.Width.TheVariants as W
use Rattle.marks.specs.Marks.{intensity_at, intensity_of, with_entries}
use Rattle.marks.specs.Steps.{placing, placed}
use Rattle.marks.proofs.Laws.{Apart, Taken, taken, with-length}
use Rattle.byte_order.specs.declared.ByteOrder.{ByteOrder}
use Rattle.byte_order.specs.Numbers.{numbers, number_at}
use Rattle.byte_order.proofs.Laws.{length-numbers}
use Rattle.mar_image.specs.Pairs.{pair_entry, pair_at, pair_entries}
use Rattle.mar_image.specs.MarImage.{checked_pairs, plate_pixels}

pub pairs-length : (o : ByteOrder) (n : ℕ) (t : List ℕ) → length (pair_entries o n t) ≡ n
unfolding pair_entries
pairs-length o zero t = refl
pairs-length o (suc n) t = ap suc (pairs-length o n (drop 8 t))

pub pairs-at : (o : ByteOrder) (n : ℕ) (t : List ℕ) (k : ℕ) → k < n → get_or (pair_entries o n t) k None ≡ pair_at o (drop (k * 8) t)
unfolding pair_entries
pairs-at o zero t k h = absurd (not-suc-le-zero h)
pairs-at o (suc n) t zero h = refl
pairs-at o (suc n) t (suc k) h =
    let e : suc k * 8 ≡ 8 + k * 8 = omega arith in
    rw (e, ← drop-drop (k * 8) 8 t) (pairs-at o n (drop 8 t) k (le_of_suc-le-suc h))

-- the pair's two numbers, of the part from `at` on
pub pair_parts : (o : ByteOrder) (t : List ℕ) (at a c : ℕ) → a ≡ number_at o 4 0 (take (length t - at) (drop at t)) → c ≡ number_at o 4 1 (take (length t - at) (drop at t)) → pair_entry a c ≡ pair_at o (drop at t)
unfolding pair_at
pair_parts o t at a c p q =
    let r : take (length t - at) (drop at t) ≡ drop at t = take_all (length t - at) (drop at t) (rw length-drop (omega arith)) in
    rw (p, q, r)

pair-apart : (a c : ℕ) → intensity_of (pair_entry a c) ≡ 65535 → ⊥
unfolding pair_entry
pair-apart a c = go (ltb 0 a && ltb 65535 c) refl
  where
    go : (b : Bool) → (ltb 0 a && ltb 65535 c) ≡ b → intensity_of (if◌then◌else◌ (ltb 0 a && ltb 65535 c) (Some (entry_read c (a - 1))) None) ≡ 65535 → ⊥
    go true q e = let k : c ≡ 65535 = rw q at e in omega (arith, ltb-true 65535 c (and-true-right (ltb 0 a) (ltb 65535 c) q))
    go false q e = let k : ◌≡◌ {A = ℕ} 0 65535 = rw q at e in omega arith

pairs-apart : (o : ByteOrder) (n : ℕ) (t : List ℕ) → Apart 65535 (pair_entries o n t)
unfolding pair_entries pair_at
pairs-apart o zero t = tt
pairs-apart o (suc n) t = (pair-apart (number_at o 4 0 t) (number_at o 4 1 t), pairs-apart o n (drop 8 t))

-- before any pair the array is the stored image
none_yet : (i : ℕ) (vs : List ℕ) → with_entries 65535 W.Two [] i vs ≡ vs
unfolding with_entries intensity_at
none_yet i [] = refl
none_yet i (v ∷ vs) = go (eqb v 65535) refl (none_yet (suc i) vs)
  where
    go : (b : Bool) → eqb v 65535 ≡ b → with_entries 65535 W.Two [] (suc i) vs ≡ vs → with_entries 65535 W.Two [] i (v ∷ vs) ≡ v ∷ vs
    go true q f = let e : v ≡ 65535 = eqb-true v 65535 q in rw (q, f, e)
    go false q f = rw (q, f)

module _ (vs : List ℕ) (es : List (Option Entry)) (apart : Apart 65535 es) where
  whole : Taken 65535 W.Two vs (λ i q. eqb-false _ _ q) [] 0 es
  whole = taken 65535 W.Two vs (λ i q. eqb-false _ _ q) es [] 0 tt apart

  placed_first : placing 65535 vs 0 es ≡ checked_pairs vs es
  placed_first = rw none_yet at whole.answer

  placed-pixels : checked_pairs vs es ≡ (Ok tt) → placed 65535 vs es ≡ with_entries 65535 W.Two es 0 vs
  placed-pixels g = rw none_yet at (whole.pixels g)

-- the two ways out of the filling: px₁ of the load, checked and px₂ of the loop over the pairs
module _ (o : ByteOrder) (n : ℕ) (image t px₀ px₁ px₂ : List ℕ) (checked : Result (Unit {0}) Refusal) (loaded : px₁ ≡ numbers o 2 (length px₀) image)
    (went : (checked ≡ placing 65535 px₁ 0 (pair_entries o n t)) × (px₂ ≡ placed 65535 px₁ (pair_entries o n t))) where
  is : checked ≡ checked_pairs (numbers o 2 (length px₀) image) (pair_entries o n t)
  is = went.0 ∙ rw loaded (placed_first (numbers o 2 (length px₀) image) (pair_entries o n t) (pairs-apart o n t))

  pub filled-bad : length px₂ ≡ length px₀ → is_err checked ≡ true
      → (checked ≡ checked_pairs (numbers o 2 (length px₀) image) (pair_entries o n t)) × (zeros (length px₂) ≡ plate_pixels (numbers o 2 (length px₀) image) (pair_entries o n t))
  unfolding plate_pixels
  filled-bad l q = (is, go checked refl q)
    where
      go : (c : Result (Unit {0}) Refusal) → checked ≡ c → is_err c ≡ true → zeros (length px₂) ≡ plate_pixels (numbers o 2 (length px₀) image) (pair_entries o n t)
      go (Ok tt) e q = absurd (let y : ◌≡◌ {A = ℕ} 0 1 = cc in omega arith)
      go (Err r) e q = rw (← is, e, with-length, length-numbers, l)

  pub filled-good : is_err checked ≡ false
      → (checked ≡ checked_pairs (numbers o 2 (length px₀) image) (pair_entries o n t)) × (px₂ ≡ plate_pixels (numbers o 2 (length px₀) image) (pair_entries o n t))
  unfolding plate_pixels
  filled-good q = (is, go checked refl q)
    where
      go : (c : Result (Unit {0}) Refusal) → checked ≡ c → is_err c ≡ false → px₂ ≡ plate_pixels (numbers o 2 (length px₀) image) (pair_entries o n t)
      go (Ok tt) e q = went.1 ∙ rw (loaded, ← is, e) (placed-pixels (numbers o 2 (length px₀) image) (pair_entries o n t) (pairs-apart o n t) (sym is ∙ e))
      go (Err r) e q = absurd (let y : ◌≡◌ {A = ℕ} 0 1 = cc in omega arith)
