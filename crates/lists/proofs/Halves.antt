-- A list written over another in parts, its two halves side by side.
-- Assumes nothing.
use mathlib.Core.Path.{◌≡◌, refl, sym, ap, ◌∙◌}
use mathlib.Core.Bool.{Bool, true, false}
use mathlib.Core.List.{List, ◌++◌}
use Prim.Native.Nat.{ℕ, ◌+◌, ◌-◌, ◌*◌, ◌≤◌, ◌<◌}
use native.Mathlib.Nat.{mul-le-mul_right, le_trans}
use native.Mathlib.Omega.{arith}
use borrow.Rule.Slice.PartMut.{put_mid, Post-is}
use lib.ListN.{length, get_or, take, drop, length-append, length-drop, get_or-append}
use lib.Seq.{get_or-append-add, get_or-take, get_or-drop, length-take-le, take_all, ext_get_or}
use lib.Dec.{leb, ltb}
use borrow.Author.Tests.{le-leb, ltb-true, ltb-false}
use Rattle.std.specs.Prelude.{if◌then◌else◌}
use Rattle.lists.specs.Parts.{with_part}
use Rattle.lists.proofs.Numbers.{mul-split}

-- where n numbers of w bytes fit, so do those from p to e, behind the ones before them
pub part-fits : (w p e n m : ℕ) → p ≤ e → e ≤ n → n * w ≤ m → p * w + (e - p) * w ≤ m
part-fits w p e n m h k l = rw (← mul-split w p e h) (le_trans (mul-le-mul_right w k) l)

past : (xs ys : List ℕ) (j n : ℕ) → length xs ≡ n → n ≤ j → get_or (xs ++ ys) j 0 ≡ get_or ys (j - n) 0
past xs ys j n e h =
    let k : j ≡ length xs + (j - n) = omega arith in
    ap (λ (i : ℕ). get_or (xs ++ ys) i 0) k ∙ get_or-append-add xs ys (j - n) 0

-- what a part leaves at each place
module _ (p e : ℕ) (vs px : List ℕ) (h : p ≤ e) (k : e ≤ length px) (l : length vs ≡ length px) where
  front : length (take p px) ≡ p
  front = length-take-le p px (omega arith)

  middle : length (take (e - p) (drop p vs)) ≡ e - p
  middle = length-take-le (e - p) (drop p vs) (rw length-drop (omega arith))

  pub part_length : length (with_part p e vs px) ≡ length px
  unfolding with_part
  part_length = rw (length-append, length-append, front, middle, length-drop) (omega arith)

  pub part-before : (j : ℕ) → j < p → get_or (with_part p e vs px) j 0 ≡ get_or px j 0
  unfolding with_part
  part-before j b = get_or-append (take p px) _ 0 j (rw front b) ∙ get_or-take p px j 0 b

  pub part-within : (j : ℕ) → p ≤ j → j < e → get_or (with_part p e vs px) j 0 ≡ get_or vs j 0
  unfolding with_part
  part-within j a b =
      let s : p + (j - p) ≡ j = omega arith in
      let i : j - p < e - p = omega arith in
      past (take p px) _ j p front a
      ∙ get_or-append (take (e - p) (drop p vs)) (drop e px) 0 (j - p) (rw middle i)
      ∙ get_or-take (e - p) (drop p vs) (j - p) 0 i
      ∙ get_or-drop p vs (j - p) 0
      ∙ ap (λ (m : ℕ). get_or vs m 0) s

  pub part-after : (j : ℕ) → e ≤ j → get_or (with_part p e vs px) j 0 ≡ get_or px j 0
  unfolding with_part
  part-after j a =
      let s : e + (j - p - (e - p)) ≡ j = omega arith in
      past (take p px) _ j p front (omega arith)
      ∙ past (take (e - p) (drop p vs)) (drop e px) (j - p) (e - p) middle (omega arith)
      ∙ get_or-drop e px (j - p - (e - p)) 0
      ∙ ap (λ (m : ℕ). get_or px m 0) s

-- the first p places of each half are those of vs
pub record Halves (half : ℕ) (vs px₀ px : List ℕ) (p : ℕ) : Type 0 where
  pub upto : p ≤ half
  pub same : length px ≡ length px₀
  pub low : (j : ℕ) → j < p → get_or px j 0 ≡ get_or vs j 0
  pub high : (j : ℕ) → half ≤ j → j < half + p → get_or px j 0 ≡ get_or vs j 0

pub halves-start : (half : ℕ) (vs px : List ℕ) → Halves half vs px px 0
halves-start half vs px = record {
  upto = omega arith;
  same = refl;
  low = λ j b. absurd (omega arith);
  high = λ j a b. absurd (omega arith);
}

-- a block of each half more: up to e of the first, and to f of the second
module _ (half p e f : ℕ) (vs px₀ px : List ℕ) (s : Halves half vs px₀ px p) (l : length vs ≡ length px₀) (h : p ≤ e) (k : e ≤ half) (m : half + e ≤ f) (n : f ≤ length px₀) where
  one : List ℕ
  one = with_part p e vs px

  length-one : length one ≡ length px
  unfolding one
  length-one = part_length p e vs px h (omega (arith, s.same)) (l ∙ sym s.same)

  both : List ℕ
  both = with_part (half + p) f vs one

  same-both : length both ≡ length px₀
  unfolding one both
  same-both = part_length (half + p) f vs one (omega arith) (omega (arith, length-one, s.same)) (l ∙ sym (length-one ∙ s.same)) ∙ length-one ∙ s.same

  low-both : (j : ℕ) → j < e → get_or both j 0 ≡ get_or vs j 0
  unfolding one both
  low-both j b = part-before (half + p) f vs one (omega arith) (omega (arith, length-one, s.same)) (l ∙ sym (length-one ∙ s.same)) j (omega arith) ∙ go (ltb j p) refl
    where
      go : (t : Bool) → ltb j p ≡ t → get_or one j 0 ≡ get_or vs j 0
      go true q = part-before p e vs px h (omega (arith, s.same)) (l ∙ sym s.same) j (ltb-true _ _ q) ∙ s.low j (ltb-true _ _ q)
      go false q = part-within p e vs px h (omega (arith, s.same)) (l ∙ sym s.same) j (ltb-false _ _ q) b

  high-both : (j : ℕ) → half ≤ j → j < f → get_or both j 0 ≡ get_or vs j 0
  unfolding one both
  high-both j a b = go (ltb j (half + p)) refl
    where
      go : (t : Bool) → ltb j (half + p) ≡ t → get_or both j 0 ≡ get_or vs j 0
      go true q =
          part-before (half + p) f vs one (omega arith) (omega (arith, length-one, s.same)) (l ∙ sym (length-one ∙ s.same)) j (ltb-true _ _ q)
          ∙ part-after p e vs px h (omega (arith, s.same)) (l ∙ sym s.same) j (omega arith)
          ∙ s.high j a (ltb-true _ _ q)
      go false q = part-within (half + p) f vs one (omega arith) (omega (arith, length-one, s.same)) (l ∙ sym (length-one ∙ s.same)) j (ltb-false _ _ q) b

  pub halves-more : f ≡ half + e → Halves half vs px₀ (with_part (half + p) f vs (with_part p e vs px)) e
  unfolding one both
  halves-more q = record { upto = k; same = same-both; low = low-both; high = λ j a b. high-both j a (omega (arith, q)) }

  pub halves-end : e ≡ half → f ≡ length px₀ → with_part (half + p) f vs (with_part p e vs px) ≡ vs
  unfolding one both
  halves-end q r = ext_get_or 0 both vs (same-both ∙ sym l) at_each
    where
      at_each : (j : ℕ) → j < length both → get_or both j 0 ≡ get_or vs j 0
      at_each j b = go (ltb j e) refl
        where
          go : (t : Bool) → ltb j e ≡ t → get_or both j 0 ≡ get_or vs j 0
          go true y = low-both j (ltb-true _ _ y)
          go false y = high-both j (omega (arith, ltb-false j e y)) (omega (arith, same-both))

-- two parts written one after the other, of a list that may be named by the length of what it is written over
module _ (vs : ℕ → List ℕ) (px₀ px px₁ px₂ : List ℕ) (half p e f : ℕ) (l : length (vs (length px₀)) ≡ length px₀) (s : Halves half (vs (length px₀)) px₀ px p) (h : p ≤ e) (k : e ≤ half) (m : half + e ≤ f) (n : f ≤ length px₀)
    (a : px₁ ≡ with_part p e (vs (length px)) px) (b : px₂ ≡ with_part (half + p) f (vs (length px₁)) px₁) where
  written_one : px₁ ≡ with_part p e (vs (length px₀)) px
  written_one = a ∙ rw s.same

  same-one : length px₁ ≡ length px₀
  same-one = ap length written_one ∙ part_length p e (vs (length px₀)) px h (omega (arith, s.same)) (l ∙ sym s.same) ∙ s.same

  written_both : px₂ ≡ with_part (half + p) f (vs (length px₀)) (with_part p e (vs (length px₀)) px)
  written_both = b ∙ rw (same-one, written_one)

  pub written-more : f ≡ half + e → Halves half (vs (length px₀)) px₀ px₂ e
  written-more q = rw written_both (halves-more half p e f (vs (length px₀)) px₀ px s l h k m n q)

  pub written-end : e ≡ half → f ≡ length px₀ → px₂ ≡ vs (length px₀)
  written-end q r = written_both ∙ halves-end half p e f (vs (length px₀)) px₀ px s l h k m n q r

-- a part loaded, from the bytes behind those of the numbers before it
module _ (read : ℕ → List ℕ → List ℕ) (w : ℕ) (read-part : (n p s : ℕ) (t : List ℕ) → p + s ≤ n → take s (drop p (read n t)) ≡ read s (drop (p * w) t)) where
  pub part-loaded : (t px ys : List ℕ) (p e : ℕ) → p ≤ e → e ≤ length px → length px * w ≤ length t
      → ys ≡ if◌then◌else◌ (leb (length (take (e - p) (drop p px)) * w) (length (take (length t - p * w) (drop (p * w) t)))) (read (length (take (e - p) (drop p px))) (take (length t - p * w) (drop (p * w) t))) (take (e - p) (drop p px))
      → put_mid p (e - p) px ys ≡ with_part p e (read (length px) t) px
  unfolding with_part
  part-loaded t px ys p e h k l q =
      let n : length (take (e - p) (drop p px)) ≡ e - p = length-take-le (e - p) (drop p px) (rw length-drop (omega arith)) in
      let r : take (length t - p * w) (drop (p * w) t) ≡ drop (p * w) t = take_all (length t - p * w) (drop (p * w) t) (rw length-drop (omega arith)) in
      let b : (e - p) * w ≤ length (drop (p * w) t) = rw length-drop (omega (arith, part-fits w p e (length px) (length t) h k l)) in
      let y : ys ≡ take (e - p) (drop p (read (length px) t)) = q ∙ rw (n, r, le-leb ((e - p) * w) (length (drop (p * w) t)) b) (sym (read-part (length px) p (e - p) t (omega arith))) in
      rw (y, Post-is p e px h)
