-- Each form by what the survey counted: the length of its frame, or its refusal.
use Rattle.form_choice.specs.Choosing.{form_chosen}
use Rattle.form_choice.specs.declared.Chosen.{Chosen}
use Rattle.refusal.specs.declared.Refusal.{Refusal}
use Rattle.std.specs.Prelude.{ℕ, ◌+◌, ◌*◌, Bool, false, if◌then◌else◌, Err, Ok, Result}
use Rattle.refusal.specs.declared.Refusal.TheVariants.{FormUnavailable, UnderflowTooLarge}
use Rattle.layout.specs.declared.EntryWidth.{EntryWidth}
use Rattle.layout.specs.declared.EntryWidth.TheVariants as E
use Rattle.layout.specs.declared.Underflow.{Underflow}
use Rattle.layout.specs.declared.Underflow.TheVariants as U
use Rattle.layout.specs.declared.Form.{Form}
use Rattle.layout.specs.Form.{width_bytes, underflow_bytes}
use Rattle.layout.specs.Layout.{table_bytes}
use Rattle.header_text.specs.declared.Counts.{Counts}
use Rattle.pixel_counts.specs.Counts.{counts_for}
use Rattle.survey.specs.declared.Survey.{Survey}

-- the length of a frame of n pixels with so many entries, behind a header of so many bytes
unfoldable pub length_by : ℕ → ℕ → Form → Counts → ℕ
length_by header n form c =
    header + n * width_bytes form.width
    + table_bytes (underflow_bytes form.underflow) c.under + table_bytes 2 c.two + table_bytes 4 c.four

unfoldable pub measured : ℕ → ℕ → Form → Counts → Result Chosen Refusal
measured header n form c = Ok (form_chosen form (length_by header n form (counts_for form c)))

-- an underflow entry is too large for its width: two bytes hold every baseline
abbrev pub too_large : EntryWidth → Bool → Bool
too_large E.One large = large
too_large E.Two large = false

abbrev pub candidate_in : ℕ → ℕ → Bool → Survey → Form → Underflow → Result Chosen Refusal
candidate_in header n given s form U.None = measured header n form s.none
candidate_in header n given s form (U.Subtracted e) =
    if given then (if too_large e s.large then Err UnderflowTooLarge else measured header n form s.subtracted) else
    Err FormUnavailable

-- a form by the survey, and by whether the header gives a baseline
unfoldable pub candidate_of : ℕ → ℕ → Bool → Survey → Form → Result Chosen Refusal
candidate_of header n given s form = candidate_in header n given s form form.underflow
