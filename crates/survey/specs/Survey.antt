-- What one pass over the pixels counts for all nine forms (document 02, A14).
use Rattle.std.specs.Prelude.{ℕ, ◌+◌, Bool, false, ◌||◌, List, length, ltb, if◌then◌else◌}
use Rattle.lists.specs.Only.{only}
use Rattle.layout.specs.declared.Width.TheVariants as W
use Rattle.layout.specs.declared.EntryWidth.TheVariants as E
use Rattle.layout.specs.declared.Underflow.TheVariants as U
use Rattle.layout.specs.Form.{form_of}
use Rattle.pixel_counts.specs.Counts.{is_underflow, any_above255, counts_of, counts_for, no_counts, counts_more, is_too_many, counted}
use Rattle.survey.specs.declared.Survey.{Survey}
use Rattle.survey.specs.declared.Pair.{Pair}
use Rattle.survey.specs.declared.Limits.{Limits}

-- the entries of width 1, which has the most, without a baseline and with one; and whether an underflow entry is above 255
unfoldable pub survey_of : ℕ → List ℕ → Survey
unfolding counts_of counts_for any_above255 only
survey_of base vs = record {
  none = counts_for (form_of W.One U.None) (counts_of 0 vs);
  subtracted = counts_for (form_of W.One (U.Subtracted E.One)) (counts_of base vs);
  large = any_above255 (only (is_underflow base) vs);
}

abbrev pub no_survey : Survey
no_survey = record { none = no_counts; subtracted = no_counts; large = false }

-- of more pixels than a frame can have, nothing is counted
unfoldable pub surveyed : ℕ → List ℕ → Survey
unfolding survey_of
surveyed base vs = if is_too_many vs then no_survey else survey_of base vs

-- where there is no baseline, only the entries without one
unfoldable pub surveyed_none : List ℕ → Survey
surveyed_none vs = record { none = counted (form_of W.One U.None) 0 vs; subtracted = no_counts; large = false }

-- For the contracts of private functions. A part of the pixels by itself, told whether a large entry was found before it:
abbrev pub large_after : Bool → ℕ → List ℕ → Bool
large_after found base vs = found || any_above255 (only (is_underflow base) vs)

unfoldable pub survey_after : Bool → ℕ → List ℕ → Survey
unfolding counts_of counts_for
survey_after found base vs = record {
  none = counts_for (form_of W.One U.None) (counts_of 0 vs);
  subtracted = counts_for (form_of W.One (U.Subtracted E.One)) (counts_of base vs);
  large = large_after found base vs;
}

-- a part and the next one so told
unfoldable pub survey_more : Survey → Survey → Survey
unfolding counts_more
survey_more a b = record { none = counts_more a.none b.none; subtracted = counts_more a.subtracted b.subtracted; large = b.large }

-- how many numbers are above two limits
abbrev pub pair_of : ℕ → ℕ → List ℕ → Pair
pair_of a b vs = record { first = length (only (ltb a) vs); second = length (only (ltb b) vs) }

-- and above all five that are asked for
abbrev pub limits_of : ℕ → List ℕ → Limits
limits_of base vs = record {
  two = length (only (ltb 254) vs);
  four = length (only (ltb 65534) vs);
  base = length (only (ltb base) vs);
  lower = length (only (ltb (base + 254)) vs);
  lowest = length (only (ltb (base + 65534)) vs);
}
