-- The pixels that expanding FORMAT 100 leaves: N of them, each of 32 bits where the bytes are bytes.
-- Assumes nothing.
use mathlib.Core.Path.{◌≡◌, refl, ◌∙◌}
use mathlib.Core.Bool.{Bool, true, false, not, ◌&&◌, ◌||◌}
use mathlib.Core.List.{List, [], ◌∷◌}
use Prim.Native.Nat.{ℕ, zero, suc, ◌+◌, ◌^◌, ◌≤◌, ◌<◌}
use native.Mathlib.Omega.{arith}
use borrow.Author.Tests.{ltb-false}
use lib.Dec.{eqb, ltb}
use lib.ListN.{length, drop, get_or}
use lib.Seq.{get_or-drop}
use Rattle.std.specs.Prelude.{if◌then◌else◌}
use Rattle.lists.proofs.Below.{little-below}
use Rattle.layout.specs.declared.EntryWidth.TheVariants as E
use Rattle.layout.specs.declared.Width.{Width}
use Rattle.layout.specs.declared.Width.TheVariants as W
use Rattle.layout.specs.declared.Underflows.{Underflows}
use Rattle.layout.specs.declared.Underflows.TheVariants as U
use Rattle.layout.specs.declared.Image.{Image}
use Rattle.layout.specs.declared.BinaryTables.{BinaryTables}
use Rattle.layout.specs.Form.{width_bytes}
use Rattle.layout.specs.Layout.{pixel_count, image_end, two_start, four_start, underflow_count, underflow_width}
use Rattle.table.specs.Table.{entries}
use Rattle.table.proofs.Laws.{length-entries}
use Rattle.expand.specs.Steps.{Stored, fill_by, sum_too_large, any_too_large, after_a, after_b, applies_a, applies_b}
use Rattle.expand.specs.Expand.{stored_of, applies_c, baseline_of, baseline_too_large, frame_pixels}
use Rattle.expand.proofs.Steps.{length-fill_if}
use Rattle.readback.proofs.Storing.{Below}

-- lengths

pub length-frame : (bytes : List ℕ) (i : Image) (t : BinaryTables) → length (frame_pixels bytes i t) ≡ pixel_count i
unfolding stored_of
length-frame bytes i t =
    let w : ℕ = width_bytes i.width in
    let s : Stored = stored_of bytes i t in
    length-fill_if (applies_c t.underflows) 0 _ (after_b w s) s.under
    ∙ length-fill_if (applies_b w) 65535 _ (after_a w s) s.four
    ∙ length-fill_if (applies_a w) 255 _ s.image s.two
    ∙ length-entries w (pixel_count i) (drop i.start bytes)

-- bounds

head-below : (n : ℕ) (es : List ℕ) → 0 < n → Below n es → get_or es 0 0 < n
head-below n [] z h = z
head-below n (e ∷ es) z h = h.0

tail-below : (n : ℕ) (es : List ℕ) → Below n es → Below n (drop 1 es)
tail-below n [] h = tt
tail-below n (e ∷ es) h = h.1

replace-below : (n m : ℕ) (xs es : List ℕ) → 0 < n → Below n xs → Below n es → Below n (fill_by m (λ (x : ℕ). x) xs es)
unfolding fill_by
replace-below n m [] es z hx he = tt
replace-below n m (x ∷ xs) es z hx he = go (eqb x m) (replace-below n m xs (drop 1 es) z hx.1 (tail-below n es he)) (replace-below n m xs es z hx.1 he)
  where
    go : (t : Bool) → Below n (fill_by m (λ (x : ℕ). x) xs (drop 1 es)) → Below n (fill_by m (λ (x : ℕ). x) xs es)
        → Below n (if◌then◌else◌ t (get_or es 0 0 ∷ fill_by m (λ (x : ℕ). x) xs (drop 1 es)) (x ∷ fill_by m (λ (x : ℕ). x) xs es))
    go true p q = (head-below n es z he, p)
    go false p q = (hx.0, q)

neither : (p q : Bool) → (p || q) ≡ false → (p ≡ false) × (q ≡ false)
neither true q h = let z : ◌≡◌ {A = ℕ} 0 1 = cc in absurd (omega arith)
neither false q h = (refl, h)

sum_below : (b : ℕ) (xs es : List ℕ) → any_too_large b xs ≡ false → Below 4294967296 es → Below 4294967296 (fill_by 0 (λ (x : ℕ). x + b) xs es)
unfolding fill_by any_too_large
sum_below b [] es h he = tt
sum_below b (x ∷ xs) es h he =
    let n = neither (sum_too_large b x) (any_too_large b xs) h in
    go (eqb x 0) n.0 (sum_below b xs (drop 1 es) n.1 (tail-below 4294967296 es he)) (sum_below b xs es n.1 he)
  where
    rest : List ℕ → List ℕ
    rest l = fill_by 0 (λ (x : ℕ). x + b) xs l

    go : (t : Bool) → (not t && ltb 4294967295 (x + b)) ≡ false → Below 4294967296 (rest (drop 1 es)) → Below 4294967296 (rest es)
        → Below 4294967296 (if◌then◌else◌ t (get_or es 0 0 ∷ rest (drop 1 es)) ((x + b) ∷ rest es))
    go true e p q = (head-below 4294967296 es (omega arith) he, p)
    go false e p q = (omega (arith, ltb-false 4294967295 (x + b) e), q)

replace_if-below : (t : Bool) (n m : ℕ) (xs es : List ℕ) → 0 < n → Below n xs → Below n es → Below n (if◌then◌else◌ t (fill_by m (λ (x : ℕ). x) xs es) xs)
replace_if-below true n m xs es z hx he = replace-below n m xs es z hx he
replace_if-below false n m xs es z hx he = hx

sum_if-below : (t : Bool) (b : ℕ) (xs es : List ℕ) → if◌then◌else◌ t (any_too_large b xs) false ≡ false → Below 4294967296 xs → Below 4294967296 es
    → Below 4294967296 (if◌then◌else◌ t (fill_by 0 (λ (x : ℕ). x + b) xs es) xs)
sum_if-below true b xs es h hx he = sum_below b xs es h he
sum_if-below false b xs es h hx he = hx

-- entries of at most four bytes
entries-small : (w n : ℕ) (t : List ℕ) → ((i : ℕ) → get_or t i 0 < 256) → 256 ^ w ≤ 4294967296 → Below 4294967296 (entries w n t)
unfolding entries
entries-small w zero t s h = tt
entries-small w (suc n) t s h = (omega (arith, little-below w t s), entries-small w n (drop w t) (λ i. rw get_or-drop (s (w + i))) h)

module _ (bytes : List ℕ) (small : (i : ℕ) → get_or bytes i 0 < 256) where
  entries_below : (w n at : ℕ) → 256 ^ w ≤ 4294967296 → Below 4294967296 (entries w n (drop at bytes))
  entries_below w n at h = entries-small w n (drop at bytes) (λ i. rw get_or-drop (small (at + i))) h

  width_small : (w : Width) → 256 ^ width_bytes w ≤ 4294967296
  width_small W.One = omega arith
  width_small W.Two = omega arith
  width_small W.Four = omega arith

  under-small : (u : Underflows) → 256 ^ underflow_width u ≤ 4294967296
  under-small U.Unused = omega arith
  under-small (U.NoWidth b) = omega arith
  under-small (U.Counted E.One n b) = omega arith
  under-small (U.Counted E.Two n b) = omega arith

  -- an accepted frame's pixels
  pub frame_below : (i : Image) (t : BinaryTables) → baseline_too_large bytes i t ≡ false → Below 4294967296 (frame_pixels bytes i t)
  unfolding stored_of
  frame_below i t h =
      let w : ℕ = width_bytes i.width in
      let s : Stored = stored_of bytes i t in
      let a : Below 4294967296 (after_a w s) =
      replace_if-below (applies_a w) 4294967296 255 s.image s.two (omega arith) (entries_below w (pixel_count i) i.start (width_small i.width)) (entries_below 2 t.two (two_start i t) (omega arith)) in
      let b : Below 4294967296 (after_b w s) =
      replace_if-below (applies_b w) 4294967296 65535 (after_a w s) s.four (omega arith) a (entries_below 4 t.four (four_start i t) (omega arith)) in
      sum_if-below (applies_c t.underflows) (baseline_of t.underflows) (after_b w s) s.under h b (entries_below (underflow_width t.underflows) (underflow_count t.underflows) (image_end i) (under-small t.underflows))
