-- What the private functions say of themselves: the steps on one block of pixels, and on all blocks so far. No public contract cites this file.
use Rattle.refusal.specs.declared.Refusal.{Refusal}
use Rattle.std.specs.Prelude.{◌≡◌, ℕ, ◌+◌, ◌-◌, ◌%◌, ◌≤◌, Bool, true, false, not, ◌||◌, List, take, drop, if◌then◌else◌, Err, Ok, Result}
use Rattle.lists.specs.Bytes.{zeros}
use Rattle.refusal.specs.declared.Refusal.TheVariants as R
use Rattle.layout.specs.declared.EntryWidth.TheVariants as E
use Rattle.layout.specs.declared.Image.{Image}
use Rattle.layout.specs.declared.Underflows.{Underflows}
use Rattle.layout.specs.declared.Underflows.TheVariants.{Unused, NoWidth, Counted}
use Rattle.layout.specs.declared.BinaryTables.{BinaryTables}
use Rattle.layout.specs.Form.{width_bytes}
use Rattle.layout.specs.Layout.{binary_end}
use Rattle.table.specs.Table.{entries, whole_entries, all_zero}
use Rattle.expand.specs.Steps.{Stored, fill_by, count, any_too_large, after_b, after_c, exhausted, taken_a, taken_b, taken_c, sums_too_large}
use Rattle.expand.specs.Expand.{stored_of, padding_zero, applies_c, baseline_of}
use Rattle.expand.specs.declared.Cursors.{Cursors}
use Rattle.expand.specs.declared.Under.{Under}
use Rattle.expand.specs.declared.Taken.{Taken}
use Rattle.expand.specs.declared.StepC.{StepC}
use Rattle.expand.specs.declared.Extent.{Extent}

abbrev pub stored : List ℕ → List ℕ → List ℕ → List ℕ → Stored
stored image under two four = record { image = image; under = under; two = two; four = four }

-- n stored values of w bytes, and tables that hold only entries, the underflow entries of e bytes
abbrev pub parts_of : ℕ → ℕ → ℕ → List ℕ → List ℕ → List ℕ → List ℕ → Stored
parts_of w e n image under two four = stored (entries w n image) (whole_entries e under) (whole_entries 2 two) (whole_entries 4 four)

-- the same image, with the tables from the next entries on
abbrev pub rest_of : Stored → ℕ → ℕ → ℕ → Stored
rest_of s two four under = stored s.image (drop under s.under) (drop two s.two) (drop four s.four)

-- a sum as it is stored: its lowest 32 bits
abbrev pub wrapped : ℕ → ℕ → ℕ
wrapped base x = (x + base) % 4294967296

-- step c on xs, with sums as they are stored
abbrev pub wrap_if : Bool → ℕ → List ℕ → List ℕ → List ℕ
wrap_if step base xs es = if step then fill_by 0 (wrapped base) xs es else xs

-- Steps a and b made a block: px are its pixels, c the next entries before it and r after it.
pub record Replaced (w : ℕ) (s : Stored) (px : List ℕ) (c r : Cursors) : Type 0 where
  pub two_is : r.two ≡ c.two + taken_a w (rest_of s c.two c.four 0)
  pub four_is : r.four ≡ c.four + taken_b w (rest_of s c.two c.four 0)
  pub is : px ≡ after_b w (rest_of s c.two c.four 0)

-- Step c made px of the pixels xs; eu are the underflow entries.
pub record Lifted (step : Bool) (base : ℕ) (xs eu px : List ℕ) (u r : Under) : Type 0 where
  pub next-is : r.next ≡ u.next + if◌then◌else◌ step (count 0 xs) 0
  pub over-is : r.over ≡ (u.over || if◌then◌else◌ step (any_too_large base xs) false)
  pub is : px ≡ wrap_if step base xs (drop u.next eu)

-- The three steps made px of a block.
pub record Stepped (w : ℕ) (step : Bool) (base : ℕ) (s : Stored) (px : List ℕ) (t r : Taken) : Type 0 where
  pub two_is : r.two ≡ t.two + taken_a w (rest_of s t.two t.four t.under)
  pub four_is : r.four ≡ t.four + taken_b w (rest_of s t.two t.four t.under)
  pub under-is : r.under ≡ t.under + taken_c w step (rest_of s t.two t.four t.under)
  pub over-is : r.over ≡ (t.over || sums_too_large w step base (rest_of s t.two t.four t.under))
  pub is : px ≡ wrap_if step base (after_b w (rest_of s t.two t.four t.under)) (drop t.under s.under)

-- The three steps made px of the whole.
pub record Whole (w : ℕ) (step : Bool) (base : ℕ) (s : Stored) (px : List ℕ) (t : Taken) : Type 0 where
  pub two_is : t.two ≡ taken_a w s
  pub four_is : t.four ≡ taken_b w s
  pub under-is : t.under ≡ taken_c w step s
  pub over-is : t.over ≡ sums_too_large w step base s
  pub is : px ≡ wrap_if step base (after_b w s) s.under

-- no entry taken, and no sum too large
abbrev pub untaken : Taken
untaken = record { two = 0; four = 0; under = 0; over = false }

-- None of the stored bytes xs takes an entry: no 255, and no 0 where step c applies.
pub record Unmarked (step : Bool) (xs : List ℕ) : Type 0 where
  pub no-255 : count 255 xs ≡ 0
  pub no-0 : step ≡ true → count 0 xs ≡ 0

-- A search from p to end passed the bytes before r.
pub record Passed (step : Bool) (xs : List ℕ) (p end r : ℕ) : Type 0 where
  pub low : p ≤ r
  pub upto : r ≤ end
  pub none : Unmarked step (take (r - p) (drop p xs))

-- the baseline, or 0 where step c does not apply
abbrev pub used_baseline : Bool → ℕ → ℕ
used_baseline step base = if step then base else 0

-- step c as the header's numbers give it
abbrev pub step_of : Underflows → StepC
step_of Unused = record { applies = false; width = E.One; count = 0; baseline = 0 }
step_of (NoWidth b) = record { applies = true; width = E.One; count = 0; baseline = b }
step_of (Counted e n b) = record { applies = true; width = e; count = n; baseline = b }

-- the padding of a table is zero
abbrev pub gap_zero : Extent → List ℕ → Bool
gap_zero x bytes = all_zero (take (x.end - x.padding) (drop x.padding bytes))

-- the answer after the steps, and the pixels: 14, 15 or the frame's end
abbrev pub steps_answer : ℕ → Bool → ℕ → ℕ → Stored → Result ℕ Refusal
steps_answer w step base end s =
    if not (exhausted w step s) then Err R.CountMismatch else
    if sums_too_large w step base s then Err R.SumTooLarge else
    Ok end

abbrev pub steps_pixels : ℕ → Bool → ℕ → ℕ → Stored → List ℕ
steps_pixels w step base n s =
    if not (exhausted w step s) then zeros n else
    if sums_too_large w step base s then zeros n else
    after_c w step base s

-- the answer from 12 on
abbrev pub frame_answer : List ℕ → Image → BinaryTables → Result ℕ Refusal
frame_answer bytes i t =
    if not (padding_zero bytes i t) then Err R.PaddingNotZero else
    steps_answer (width_bytes i.width) (applies_c t.underflows) (baseline_of t.underflows) (binary_end i t) (stored_of bytes i t)
