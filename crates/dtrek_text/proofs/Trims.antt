-- Laws of `trim_end`: a list that ends with white space, and one that does not.
-- Assumes nothing.
use mathlib.Core.Path.{◌≡◌, refl, sym, ap, ◌∙◌}
use mathlib.Core.Bool.{Bool, true, false, ◌&&◌}
use mathlib.Core.List.{List, [], ◌∷◌, ◌++◌}
use Prim.Native.Nat.{ℕ, suc, ◌+◌, ◌-◌, ◌≤◌}
use native.Mathlib.Omega.{arith}
use lib.ListN.{length, get_or, take, drop, length-take, length-drop}
use lib.Seq.{take-suc, take_all}
use Rattle.std.specs.Prelude.{if◌then◌else◌}
use Rattle.lists.proofs.Tests.{and-false}
use Rattle.numeral.specs.Runs.{leading}
use Rattle.numeral.proofs.Runs.{leading_le}
use Rattle.dtrek_text.specs.Bytes.{is_white, is_empty, trim_end, trimmed}

pub end-white : (v : List ℕ) (b : ℕ) → is_white b ≡ true → trim_end (v ++ (b ∷ [])) ≡ trim_end v
unfolding trim_end
end-white [] b t = rw t
end-white (a ∷ v) b t = rw (end-white v b t)

not-empty : (v : List ℕ) (b : ℕ) → is_empty (v ++ (b ∷ [])) ≡ false
not-empty [] b = refl
not-empty (a ∷ v) b = refl

pub end-other : (v : List ℕ) (b : ℕ) → is_white b ≡ false → trim_end (v ++ (b ∷ [])) ≡ v ++ (b ∷ [])
unfolding trim_end
end-other [] b t = rw t
end-other (a ∷ v) b t = rw (end-other v b t, not-empty v b, and-false (is_white a))

module _ (v : List ℕ) (h : 1 ≤ length v) where
  abbrev front : List ℕ
  front = take (length v - 1) v

  abbrev end : ℕ
  end = get_or v (length v - 1) 0

  split : front ++ (end ∷ []) ≡ v
  split =
      let n : suc (length v - 1) ≡ length v = omega arith in
      sym (take-suc v (length v - 1) 0 (omega arith)) ∙ rw (n, take_all (length v) v (omega arith))

  -- one byte of white space less at the end, and no more to drop
  pub last-white : is_white end ≡ true → trim_end front ≡ trim_end v
  last-white t = sym (end-white front end t) ∙ ap trim_end split

  pub last-other : is_white end ≡ false → v ≡ trim_end v
  last-other t = sym split ∙ sym (end-other front end t) ∙ ap trim_end split

pub none-left : (v : List ℕ) → length v ≤ 0 → v ≡ trim_end v
unfolding trim_end
none-left [] h = refl
none-left (b ∷ v) h = absurd (omega arith)

-- what is left is a front of the list
pub trim-end-take : (v : List ℕ) → take (length (trim_end v)) v ≡ trim_end v
unfolding trim_end
trim-end-take [] = refl
trim-end-take (b ∷ bs) = go (is_white b && is_empty (trim_end bs)) (trim-end-take bs)
  where
    go : (t : Bool) → take (length (trim_end bs)) bs ≡ trim_end bs → take (length (if◌then◌else◌ t [] (b ∷ trim_end bs))) (b ∷ bs) ≡ if◌then◌else◌ t [] (b ∷ trim_end bs)
    go true e = refl
    go false e = ap (λ (l : List ℕ). b ∷ l) e

trim-end-le : (v : List ℕ) → length (trim_end v) ≤ length v
trim-end-le v = omega (arith, length-take (length (trim_end v)) v, ap length (trim-end-take v))

-- the white space at the front and the trimmed value fit into the list
pub trimmed-fits : (v : List ℕ) → leading is_white v + length (trimmed v) ≤ length v
unfolding trimmed
trimmed-fits v = omega (arith, leading_le is_white v, length-drop (leading is_white v) v, trim-end-le (drop (leading is_white v) v))

-- they are the bytes of the list that follow that white space
pub trimmed-take : (v : List ℕ) → take (length (trimmed v)) (drop (leading is_white v) v) ≡ trimmed v
unfolding trimmed
trimmed-take v = trim-end-take (drop (leading is_white v) v)
