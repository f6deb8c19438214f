-- Corrections made to an array of pixels: each pixel has the last count that it was given.
-- Assumes nothing.
use mathlib.Core.Path.{◌≡◌, refl, sym, ap, ◌∙◌}
use mathlib.Core.Bool.{Bool, true, false}
use mathlib.Core.List.{List, [], ◌∷◌}
use Prim.Native.Nat.{ℕ, ◌<◌}
use native.Mathlib.Omega.{arith}
use lib.ListN.{length, get_or, set, length-set}
use lib.Seq.{get_or-set_same, get_or-set_other, ext_get_or}
use lib.Dec.{eqb}
use borrow.Author.Tests.{eqb-true, eqb-false}
use Rattle.std.specs.Prelude.{if◌then◌else◌}
use Rattle.order.specs.Order.{Correction, last_count}

-- the pixels after the corrections, made in their order
abbrev pub made : List ℕ → List Correction → List ℕ
made vs [] = vs
made vs (x ∷ xs) = made (set vs x.pixel x.count) xs

pub length-made : (vs : List ℕ) (xs : List Correction) → length (made vs xs) ≡ length vs
length-made vs [] = refl
length-made vs (x ∷ xs) = length-made (set vs x.pixel x.count) xs ∙ length-set vs x.pixel x.count

-- one correction, seen at one pixel
set-at-pixel : (vs : List ℕ) (p : ℕ) → p < length vs → (x : Correction) → get_or (set vs x.pixel x.count) p 0 ≡ if◌then◌else◌ (eqb x.pixel p) x.count (get_or vs p 0)
set-at-pixel vs p h x = go (eqb x.pixel p) refl
  where
    go : (b : Bool) → eqb x.pixel p ≡ b → get_or (set vs x.pixel x.count) p 0 ≡ if◌then◌else◌ (eqb x.pixel p) x.count (get_or vs p 0)
    go true e = rw (e, eqb-true x.pixel p e) (get_or-set_same vs p x.count 0 h)
    go false e = rw e (get_or-set_other vs x.pixel p x.count 0 (λ z. eqb-false x.pixel p e (sym z)))

pub made_at : (vs : List ℕ) (p : ℕ) → p < length vs → (xs : List Correction) → get_or (made vs xs) p 0 ≡ last_count p (get_or vs p 0) xs
made_at vs p h [] = refl
made_at vs p h (x ∷ xs) =
    made_at (set vs x.pixel x.count) p (rw (length-set vs x.pixel x.count) h) xs
    ∙ ap (λ (before : ℕ). last_count p before xs) (set-at-pixel vs p h x)

-- the last counts decide
pub made-same : (vs : List ℕ) (xs ys : List Correction) → ((p : ℕ) → last_count p (get_or vs p 0) xs ≡ last_count p (get_or vs p 0) ys) → made vs xs ≡ made vs ys
made-same vs xs ys same =
    ext_get_or 0 (made vs xs) (made vs ys) (length-made vs xs ∙ sym (length-made vs ys))
    (λ p h. let i : p < length vs = omega (arith, length-made vs xs) in made_at vs p i xs ∙ same p ∙ sym (made_at vs p i ys))
