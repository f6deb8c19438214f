-- Document 01, "Expanding pixels", FORMAT 100: steps a, b and c, each over the whole list with its own table.
use Rattle.std.specs.Prelude.{ℕ, suc, ◌+◌, Bool, false, not, ◌&&◌, ◌||◌, List, [], ◌∷◌, length, drop, ◌==◌, nat_lt, slice_index, if◌then◌else◌}

-- a frame in values: the stored image and the entries of the three tables
pub record Stored : Type 0 where
  pub image : List ℕ
  pub under : List ℕ
  pub two : List ℕ
  pub four : List ℕ

-- each m of xs takes the next entry of es, and every other x becomes g x
unfoldable pub fill_by : ℕ → (ℕ → ℕ) → List ℕ → List ℕ → List ℕ
fill_by m g [] es = []
fill_by m g (x ∷ xs) es =
    if x == m then (slice_index es 0 ∷ fill_by m g xs (drop 1 es)) else
    (g x ∷ fill_by m g xs es)

-- each m of xs takes the next entry of es, and every other x stays
abbrev pub replace : ℕ → List ℕ → List ℕ → List ℕ
replace m xs es = fill_by m (λ (x : ℕ). x) xs es

-- how many m stand in xs
unfoldable pub count : ℕ → List ℕ → ℕ
count m [] = 0
count m (x ∷ xs) = if x == m then suc (count m xs) else count m xs

-- step a applies to width 1, step b to widths 1 and 2
abbrev pub applies_a : ℕ → Bool
applies_a w = w == 1

abbrev pub applies_b : ℕ → Bool
applies_b w = w == 1 || w == 2

-- a: each stored 255 takes the next two-byte entry
abbrev pub after_a : ℕ → Stored → List ℕ
after_a w s = if applies_a w then replace 255 s.image s.two else s.image

-- b: each 65535 standing after a takes the next four-byte entry
abbrev pub after_b : ℕ → Stored → List ℕ
after_b w s = if applies_b w then replace 65535 (after_a w s) s.four else after_a w s

-- c: each 0 standing after b takes the next underflow entry, and every other pixel gains the baseline
abbrev pub after_c : ℕ → Bool → ℕ → Stored → List ℕ
after_c w step base s = if step then fill_by 0 (λ (x : ℕ). x + base) (after_b w s) s.under else after_b w s

-- how many entries each step takes; a step that does not apply takes none
abbrev pub taken_a : ℕ → Stored → ℕ
taken_a w s = if applies_a w then count 255 s.image else 0

abbrev pub taken_b : ℕ → Stored → ℕ
taken_b w s = if applies_b w then count 65535 (after_a w s) else 0

abbrev pub taken_c : ℕ → Bool → Stored → ℕ
taken_c w step s = if step then count 0 (after_b w s) else 0

-- 14 is not due: each step takes exactly the entries that there are
unfoldable pub exhausted : ℕ → Bool → Stored → Bool
unfolding count fill_by
exhausted w step s =
    (taken_a w s == length s.two) && taken_b w s == length s.four && taken_c w step s == length s.under

-- 15: a pixel that is not 0 and the baseline have a sum above 4,294,967,295
abbrev pub sum_too_large : ℕ → ℕ → Bool
sum_too_large base x = not (x == 0) && nat_lt 4294967295 (x + base)

unfoldable pub any_too_large : ℕ → List ℕ → Bool
any_too_large base [] = false
any_too_large base (x ∷ xs) = sum_too_large base x || any_too_large base xs

-- 15 is due: some baseline sum of step c is too large
abbrev pub sums_too_large : ℕ → Bool → ℕ → Stored → Bool
sums_too_large w step base s = if step then any_too_large base (after_b w s) else false
