-- Each form by the survey: its counts, its length, and its refusal.
-- Assumes nothing.
use Rattle.std.specs.Prelude.{Err, Ok}
use Rattle.form_choice.specs.Choosing.{form_chosen}
use mathlib.Core.Path.{◌≡◌, refl, sym}
use mathlib.Core.Bool.{Bool, true, false}
use mathlib.Core.List.{List}
use Prim.Native.Nat.{ℕ, ◌≤◌}
use lib.ListN.{length}
use Rattle.refusal.specs.declared.Refusal.{Refusal}
use Rattle.layout.specs.declared.Width.{Width}
use Rattle.layout.specs.declared.Width.TheVariants as W
use Rattle.layout.specs.declared.EntryWidth.{EntryWidth}
use Rattle.layout.specs.declared.EntryWidth.TheVariants as E
use Rattle.layout.specs.declared.Underflow.{Underflow}
use Rattle.layout.specs.declared.Underflow.TheVariants as U
use Rattle.layout.specs.declared.Underflows.{Underflows}
use Rattle.layout.specs.declared.Underflows.TheVariants as H
use Rattle.layout.specs.declared.Form.{Form}
use Rattle.layout.specs.Form.{form_of}
use Rattle.header_text.specs.declared.Counts.{Counts}
use Rattle.pixel_counts.specs.Counts.{any_above255, counts_of, counts_for}
use Rattle.writer.specs.Storing.{stored_for}
use Rattle.writer.specs.Frame.{frame_bytes, frame_length, stored_counts}
use Rattle.writer.specs.Writer as M
use Rattle.writer.specs.Writer.{base_for, made_of, made_with}
use Rattle.writer.proofs.Whole.{counts-are, frame-length, length-image}
use Rattle.survey.specs.declared.Survey.{Survey}
use Rattle.survey.specs.Survey.{survey_of}
use Rattle.form_choice.specs.Choosing.{forms, choice_by}
use Rattle.form_choice.specs.Lengths.{length_by, measured, candidate_of}
use Rattle.smallest.specs.Smallest.{considered, choice_of}
use Rattle.smallest.specs.Steps.{chosen_with}
use Rattle.smallest.proofs.Choices.{choice-same}

-- The survey's counts are those of each form.
stored-none : (w : Width) (vs : List ℕ) (c : Counts) → c ≡ counts_for (form_of W.One U.None) (counts_of 0 vs) → counts_for (form_of w U.None) c ≡ stored_counts (stored_for (form_of w U.None) 0 vs)
unfolding counts_for counts_of
stored-none w vs c e = rw e (counts-are (form_of w U.None) 0 vs _ refl refl)

stored-subtracted : (w : Width) (k : EntryWidth) (base : ℕ) (vs : List ℕ)
    → counts_for (form_of w (U.Subtracted k)) (survey_of base vs).subtracted ≡ stored_counts (stored_for (form_of w (U.Subtracted k)) base vs)
unfolding survey_of counts_for counts_of
stored-subtracted w k base vs = counts-are (form_of w (U.Subtracted k)) base vs _ refl refl

-- the length by these counts is the frame's
measured-is : (header : List ℕ) (form : Form) (b : ℕ) (vs : List ℕ) (c : Counts) → 3200 ≤ length header → counts_for form c ≡ stored_counts (stored_for form b vs)
    → Ok (form_chosen form (length (frame_bytes header form (stored_for form b vs)))) ≡ measured (length header) (length vs) form c
unfolding measured length_by frame_length
measured-is header form b vs c h cs =
    let n : length (stored_for form b vs).image ≡ length vs = length-image form b vs in
    rw (frame-length header form (stored_for form b vs) h, cs, n)

large_is : (w : Width) (k : EntryWidth) (b : ℕ) (vs : List ℕ) → any_above255 (stored_for (form_of w (U.Subtracted k)) b vs).under ≡ (survey_of b vs).large
unfolding stored_for survey_of
large_is w k b vs = refl

module _ (header vs : List ℕ) (long : 3200 ≤ length header) (w : Width) where
  none-law : (s : Survey) (given : Bool) → s.none ≡ counts_for (form_of W.One U.None) (counts_of 0 vs)
      → considered (form_of w U.None) (made_of header (form_of w U.None) (stored_for (form_of w U.None) 0 vs)) ≡ candidate_of (length header) (length vs) given s (form_of w U.None)
  unfolding candidate_of
  none-law s given e = measured-is header (form_of w U.None) 0 vs s.none long (stored-none w vs s.none e)

  one-law : (b : ℕ) (t : Bool) → any_above255 (stored_for (form_of w (U.Subtracted E.One)) b vs).under ≡ t → (survey_of b vs).large ≡ t
      → considered (form_of w (U.Subtracted E.One)) (made_of header (form_of w (U.Subtracted E.One)) (stored_for (form_of w (U.Subtracted E.One)) b vs))
      ≡ candidate_of (length header) (length vs) true (survey_of b vs) (form_of w (U.Subtracted E.One))
  unfolding candidate_of
  one-law b true p q = rw (p, q)
  one-law b false p q = rw (p, q) (measured-is header (form_of w (U.Subtracted E.One)) b vs (survey_of b vs).subtracted long (stored-subtracted w E.One b vs))

  entry-law : (b : ℕ) (k : EntryWidth)
      → considered (form_of w (U.Subtracted k)) (made_of header (form_of w (U.Subtracted k)) (stored_for (form_of w (U.Subtracted k)) b vs))
      ≡ candidate_of (length header) (length vs) true (survey_of b vs) (form_of w (U.Subtracted k))
  unfolding candidate_of
  entry-law b E.One = one-law b (survey_of b vs).large (large_is w E.One b vs) refl
  entry-law b E.Two = measured-is header (form_of w (U.Subtracted E.Two)) b vs (survey_of b vs).subtracted long (stored-subtracted w E.Two b vs)

none_of : (base : ℕ) (vs : List ℕ) → (survey_of base vs).none ≡ counts_for (form_of W.One U.None) (counts_of 0 vs)
unfolding survey_of
none_of base vs = refl

module _ (header vs : List ℕ) (h : Underflows) (long : 3200 ≤ length header) where
  -- the baseline of the kinds that subtract one
  same_base : (k : EntryWidth) → base_for header h (U.Subtracted k) ≡ base_for header h (U.Subtracted E.One)
  same_base k = go h
    where
      go : (x : Underflows) → base_for header x (U.Subtracted k) ≡ base_for header x (U.Subtracted E.One)
      go H.Unused = refl
      go (H.NoWidth b) = refl
      go (H.Counted w n b) = refl

  -- what the survey says of a form is what the writer makes of it
  given-law : (b : ℕ) → base_for header h (U.Subtracted E.One) ≡ M.base b → (w : Width) (u : Underflow)
      → considered (form_of w u) (made_with header (form_of w u) vs (base_for header h u)) ≡ candidate_of (length header) (length vs) true (survey_of b vs) (form_of w u)
  given-law b e w U.None = none-law header vs long w (survey_of b vs) true (none_of b vs)
  given-law b e w (U.Subtracted k) = rw (same_base k, e) (entry-law header vs long w b k)

  missing-law : (s : Survey) → s.none ≡ counts_for (form_of W.One U.None) (counts_of 0 vs) → base_for header h (U.Subtracted E.One) ≡ M.no_base → (w : Width) (u : Underflow)
      → considered (form_of w u) (made_with header (form_of w u) vs (base_for header h u)) ≡ candidate_of (length header) (length vs) false s (form_of w u)
  unfolding candidate_of
  missing-law s n e w U.None = none-law header vs long w s false n
  missing-law s n e w (U.Subtracted k) = rw (same_base k, e)

  pub chosen-given : (b : ℕ) → base_for header h (U.Subtracted E.One) ≡ M.base b → choice_by (candidate_of (length header) (length vs) true (survey_of b vs)) forms ≡ chosen_with header h vs
  chosen-given b e = sym (choice-same _ _ (λ form. given-law b e form.width form.underflow) forms)

  pub chosen-missing : (s : Survey) → s.none ≡ counts_for (form_of W.One U.None) (counts_of 0 vs) → base_for header h (U.Subtracted E.One) ≡ M.no_base
      → choice_by (candidate_of (length header) (length vs) false s) forms ≡ chosen_with header h vs
  chosen-missing s n e = sym (choice-same _ _ (λ form. missing-law s n e form.width form.underflow) forms)

-- where every form is refused alike, that is the answer
pub all-refused : (r : Refusal) → choice_of (λ form. M.refused r) forms ≡ Err r
unfolding choice_by forms
all-refused r = refl
