-- The pixels of an accepted FORMAT 100 frame have 32 bits.
-- Assumes nothing.
use mathlib.Core.Path.{◌≡◌, refl, sym, ◌∙◌}
use mathlib.Core.Bool.{Bool, true, false, ◌||◌}
use mathlib.Core.List.{List, [], ◌∷◌}
use Prim.Native.Nat.{ℕ, zero, suc, ◌+◌, ◌≤◌, ◌<◌}
use native.Mathlib.Omega.{arith}
use lib.ListN.{get_or, drop}
use lib.Seq.{get_or-drop}
use lib.Dec.{eqb, ltb}
use borrow.Author.Tests.{ltb-false, eq-eqb}
use Rattle.std.specs.Prelude.{if◌then◌else◌}
use Rattle.lists.specs.Bytes.{little}
use Rattle.lists.proofs.Below.{little-below}
use Rattle.layout.specs.declared.Width.{Width}
use Rattle.layout.specs.declared.Width.TheVariants as W
use Rattle.layout.specs.declared.EntryWidth.TheVariants as E
use Rattle.layout.specs.declared.Image.{Image}
use Rattle.layout.specs.declared.Underflows.{Underflows}
use Rattle.layout.specs.declared.Underflows.TheVariants.{Unused, NoWidth, Counted}
use Rattle.layout.specs.declared.BinaryTables.{BinaryTables}
use Rattle.layout.specs.Form.{width_bytes}
use Rattle.layout.specs.Layout.{pixel_count, image_end, underflow_count, underflow_width, two_start, four_start}
use Rattle.table.specs.Table.{entries}
use Rattle.expand.specs.Steps.{Stored, fill_by, after_a, after_b, after_c, any_too_large, sums_too_large, applies_a, applies_b, sum_too_large}
use Rattle.expand.specs.Expand.{stored_of, applies_c, baseline_of, baseline_too_large, frame_pixels}

-- every number of a list has 32 bits
abbrev pub Small : List ℕ → Type 0
Small xs = (i : ℕ) → get_or xs i 0 < 4294967296

small-drop : (n : ℕ) (t : List ℕ) → ((i : ℕ) → get_or t i 0 < 256) → (i : ℕ) → get_or (drop n t) i 0 < 256
small-drop n t h i = rw get_or-drop (h (n + i))

little-small : (w : ℕ) (t : List ℕ) → w ≤ 4 → ((i : ℕ) → get_or t i 0 < 256) → little w t < 4294967296
little-small zero t k h = omega (arith, little-below 0 t h)
little-small (suc zero) t k h = omega (arith, little-below 1 t h)
little-small (suc (suc zero)) t k h = omega (arith, little-below 2 t h)
little-small (suc (suc (suc zero))) t k h = omega (arith, little-below 3 t h)
little-small (suc (suc (suc (suc zero)))) t k h = omega (arith, little-below 4 t h)
little-small (suc (suc (suc (suc (suc w))))) t k h = absurd (omega arith)

entries-small : (w n : ℕ) (t : List ℕ) → w ≤ 4 → ((i : ℕ) → get_or t i 0 < 256) → Small (entries w n t)
unfolding entries
entries-small w zero t k h i = omega arith
entries-small w (suc n) t k h zero = little-small w t k h
entries-small w (suc n) t k h (suc i) = entries-small w n (drop w t) k (small-drop w t h) i

fill-small : (m : ℕ) (g : ℕ → ℕ) (xs es : List ℕ) → ((i : ℕ) → eqb (get_or xs i 0) m ≡ false → g (get_or xs i 0) < 4294967296) → Small es → Small (fill_by m g xs es)
unfolding fill_by
fill-small m g [] es h k i = omega arith
fill-small m g (x ∷ xs) es h k i = go (eqb x m) refl i (fill-small m g xs)
  where
    rest : Small (drop 1 es)
    rest j = rw get_or-drop (k (1 + j))

    go : (b : Bool) → eqb x m ≡ b → (j : ℕ)
        → ((fs : List ℕ) → ((l : ℕ) → eqb (get_or xs l 0) m ≡ false → g (get_or xs l 0) < 4294967296) → Small fs → Small (fill_by m g xs fs))
        → get_or (if◌then◌else◌ b (get_or es 0 0 ∷ fill_by m g xs (drop 1 es)) (g x ∷ fill_by m g xs es)) j 0 < 4294967296
    go true e zero ih = k 0
    go true e (suc j) ih = ih (drop 1 es) (λ l. h (suc l)) rest j
    go false e zero ih = h 0 e
    go false e (suc j) ih = ih es (λ l. h (suc l)) k j

or-none : (a b : Bool) → (a || b) ≡ false → (a ≡ false) × (b ≡ false)
or-none true b e = let z : ◌≡◌ {A = ℕ} 0 1 = cc in absurd (omega arith)
or-none false b e = (refl, e)

sum-small : (base : ℕ) (xs : List ℕ) → any_too_large base xs ≡ false → (i : ℕ) → eqb (get_or xs i 0) 0 ≡ false → get_or xs i 0 + base < 4294967296
unfolding any_too_large
sum-small base [] f i e = let z : ◌≡◌ {A = Bool} true false = sym (eq-eqb 0 0 refl) ∙ e in let y : ◌≡◌ {A = ℕ} 0 1 = cc in absurd (omega arith)
sum-small base (x ∷ xs) f zero e =
    let q : ltb 4294967295 (x + base) ≡ false = rw e at (or-none (sum_too_large base x) (any_too_large base xs) f).0 in
    omega (arith, ltb-false 4294967295 (x + base) q)
sum-small base (x ∷ xs) f (suc i) e = sum-small base xs (or-none (sum_too_large base x) (any_too_large base xs) f).1 i e

if-small : (b : Bool) (xs ys : List ℕ) → Small xs → Small ys → Small (if◌then◌else◌ b xs ys)
if-small true xs ys h k = h
if-small false xs ys h k = k

steps-small : (w : ℕ) (step : Bool) (base : ℕ) (s : Stored) → Small s.image → Small s.under → Small s.two → Small s.four
    → sums_too_large w step base s ≡ false → Small (after_c w step base s)
steps-small w step base s image under two four fits = go step fits
  where
    a : Small (after_a w s)
    a = if-small (applies_a w) _ _ (fill-small 255 (λ (x : ℕ). x) s.image s.two (λ i e. image i) two) image

    b : Small (after_b w s)
    b = if-small (applies_b w) _ _ (fill-small 65535 (λ (x : ℕ). x) (after_a w s) s.four (λ i e. a i) four) a

    go : (c : Bool) → if◌then◌else◌ c (any_too_large base (after_b w s)) false ≡ false → Small (if◌then◌else◌ c (fill_by 0 (λ (x : ℕ). x + base) (after_b w s) s.under) (after_b w s))
    go true f = fill-small 0 (λ (x : ℕ). x + base) (after_b w s) s.under (sum-small base (after_b w s) f) under
    go false f = b

width_small : (w : Width) → width_bytes w ≤ 4
width_small W.One = omega arith
width_small W.Two = omega arith
width_small W.Four = omega arith

under-small : (u : Underflows) → underflow_width u ≤ 4
under-small Unused = omega arith
under-small (NoWidth b) = omega arith
under-small (Counted E.One n b) = omega arith
under-small (Counted E.Two n b) = omega arith

stored-small : (bytes : List ℕ) (i : Image) (t : BinaryTables) → ((k : ℕ) → get_or bytes k 0 < 256)
    → Small (stored_of bytes i t).image × Small (stored_of bytes i t).under × Small (stored_of bytes i t).two × Small (stored_of bytes i t).four
unfolding stored_of
stored-small bytes i t h = (
  entries-small (width_bytes i.width) (pixel_count i) (drop i.start bytes) (width_small i.width) (small-drop i.start bytes h),
  entries-small (underflow_width t.underflows) (underflow_count t.underflows) (drop (image_end i) bytes) (under-small t.underflows) (small-drop (image_end i) bytes h),
  entries-small 2 t.two (drop (two_start i t) bytes) (omega arith) (small-drop (two_start i t) bytes h),
  entries-small 4 t.four (drop (four_start i t) bytes) (omega arith) (small-drop (four_start i t) bytes h),
)

-- where 15 is not due
pub frame_small : (bytes : List ℕ) (i : Image) (t : BinaryTables) → ((k : ℕ) → get_or bytes k 0 < 256) → baseline_too_large bytes i t ≡ false → Small (frame_pixels bytes i t)
frame_small bytes i t h fits =
    let s = stored-small bytes i t h in
    steps-small (width_bytes i.width) (applies_c t.underflows) (baseline_of t.underflows) (stored_of bytes i t) s.0 s.1 s.2 s.3 fits
