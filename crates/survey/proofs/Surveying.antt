-- Surveys of parts that follow each other, and the loop over blocks.
-- Assumes nothing.
use mathlib.Core.Path.{◌≡◌, refl, ◌∙◌}
use mathlib.Core.Bool.{Bool, true, false}
use mathlib.Core.List.{List, [], ◌∷◌, ◌++◌}
use Prim.Native.Nat.{ℕ, suc, ◌+◌, ◌-◌, ◌≤◌, ◌<◌}
use native.Mathlib.Omega.{arith}
use lib.ListN.{length, take, drop, length-take, length-drop}
use lib.Seq.{take_all}
use lib.Dec.{leb, ltb}
use borrow.Author.Tests.{leb-true, leb-false, ltb-false, lt-ltb, le-ltb}
use Rattle.std.specs.Prelude.{if◌then◌else◌}
use Rattle.lists.specs.Only.{only}
use Rattle.lists.proofs.Only.{only-append, take_split, Counting, counting-done}
use Rattle.layout.specs.declared.Width.TheVariants as W
use Rattle.layout.specs.declared.EntryWidth.TheVariants as E
use Rattle.layout.specs.declared.Underflow.TheVariants as U
use Rattle.layout.specs.Form.{form_of}
use Rattle.pixel_counts.specs.Counts.{is_underflow, any_above255, counts_of, counts_for}
use Rattle.pixel_counts.proofs.Counting.{counts-append}
use Rattle.pixel_counts.proofs.Watching.{any_append}
use Rattle.survey.specs.declared.Survey.{Survey}
use Rattle.survey.specs.declared.Pair.{Pair}
use Rattle.survey.specs.declared.Limits.{Limits}
use Rattle.survey.specs.Survey.{survey_of, no_survey, survey_more, survey_after, pair_of, limits_of}

survey-append : (base : ℕ) (xs ys : List ℕ) → length xs + length ys < 4294967296 → survey_more (survey_of base xs) (survey_after (survey_of base xs).large base ys) ≡ survey_of base (xs ++ ys)
unfolding survey_more survey_of survey_after
survey-append base xs ys h =
    rw (counts-append (form_of W.One U.None) 0 xs ys h, counts-append (form_of W.One (U.Subtracted E.One)) base xs ys h, only-append (is_underflow base), any_append)

-- the numbers at most a limit and those above it are all
both-sides : (base : ℕ) (vs : List ℕ) → length (only (is_underflow base) vs) + length (only (ltb base) vs) ≡ length vs
unfolding only
both-sides base [] = refl
both-sides base (v ∷ vs) = go (leb v base) refl (both-sides base vs)
  where
    go : (t : Bool) → leb v base ≡ t → length (only (is_underflow base) vs) + length (only (ltb base) vs) ≡ length vs
        → length (if◌then◌else◌ t (v ∷ only (is_underflow base) vs) (only (is_underflow base) vs)) + length (if◌then◌else◌ (ltb base v) (v ∷ only (ltb base) vs) (only (ltb base) vs)) ≡ suc (length vs)
    go true e h = let k = leb-true v base e in rw (le-ltb base v k) (omega arith)
    go false e h = let k = leb-false v base e in rw (lt-ltb base v k) (omega arith)

pub under-is : (base : ℕ) (vs : List ℕ) (k : ℕ) → k ≡ length (only (ltb base) vs) → length vs - k ≡ length (only (is_underflow base) vs)
under-is base vs k e = let b = both-sides base vs in omega (arith, b, e)

-- no underflow entry is above 255 where no number is above 254
pub none-large : (p : ℕ → Bool) (vs : List ℕ) → length (only (ltb 254) vs) ≡ 0 → any_above255 (only p vs) ≡ false
unfolding only any_above255
none-large p [] h = refl
none-large p (v ∷ vs) h = go (p v) (ltb 254 v) refl h (none-large p vs)
  where
    go : (t u : Bool) → ltb 254 v ≡ u → length (if◌then◌else◌ u (v ∷ only (ltb 254) vs) (only (ltb 254) vs)) ≡ 0
        → (length (only (ltb 254) vs) ≡ 0 → any_above255 (only p vs) ≡ false) → any_above255 (if◌then◌else◌ t (v ∷ only p vs) (only p vs)) ≡ false
    go t true e q r = absurd (omega arith)
    go true false e q r = let k = ltb-false 254 v e in rw (le-ltb 255 v (omega arith)) (r q)
    go false false e q r = r q

pub pair_is : {block : List ℕ} {first second i : ℕ} (a b : ℕ) → Counting (ltb a) block first i → Counting (ltb b) block second i → length block ≤ i
    → ◌≡◌ {A = Pair} (record { first = first; second = second }) (pair_of a b block)
pair_is a b f g h = rw (counting-done f h, counting-done g h)

-- The loop over blocks.
pub record Surveying (base : ℕ) (pixels : List ℕ) (s : Survey) (p : ℕ) : Type 0 where
  pub upto : p ≤ length pixels
  pub is : s ≡ survey_of base (take p pixels)

pub surveying-start : (base : ℕ) (pixels : List ℕ) → Surveying base pixels no_survey 0
unfolding survey_of counts_for counts_of only any_above255
surveying-start base pixels = record { upto = omega arith; is = refl }

pub surveying-more : {base : ℕ} {pixels : List ℕ} {s d r : Survey} {p : ℕ} (e : ℕ) → Surveying base pixels s p → p ≤ e → e ≤ length pixels → length pixels < 4294967296
    → d ≡ survey_after s.large base (take (e - p) (drop p pixels)) → r ≡ survey_more s d → Surveying base pixels r e
surveying-more {base} {pixels} {s} {d} {r} {p} e f h k l q z = record {
  upto = k;
  is = z ∙ rw (q, f.is, survey-append base (take p pixels) (take (e - p) (drop p pixels)) fits, ← take_split p e pixels h);
}
  where
    fits : length (take p pixels) + length (take (e - p) (drop p pixels)) < 4294967296
    fits = simp (length-take, length-drop) (omega arith)

pub surveying-done : {base : ℕ} {pixels : List ℕ} {s : Survey} {p : ℕ} → Surveying base pixels s p → length pixels ≤ p → s ≡ survey_of base pixels
surveying-done {base} {pixels} {s} {p} f h = rw (take_all p pixels h) at f.is

pub limits-are : {block : List ℕ} {two four over lower lowest i : ℕ} (base : ℕ)
    → Counting (ltb 254) block two i → Counting (ltb 65534) block four i → Counting (ltb base) block over i → Counting (ltb (base + 254)) block lower i → Counting (ltb (base + 65534)) block lowest i → length block ≤ i
    → ◌≡◌ {A = Limits} (record { two = two; four = four; base = over; lower = lower; lowest = lowest }) (limits_of base block)
limits-are base a b d e f h = rw (counting-done a h, counting-done b h, counting-done d h, counting-done e h, counting-done f h)
