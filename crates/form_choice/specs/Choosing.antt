-- Document 02, A14: of forms with the lengths of their frames, the first of the shortest.
use Rattle.form_choice.specs.declared.Chosen.{Chosen}
use Rattle.refusal.specs.declared.Refusal.{Refusal}
use Rattle.std.specs.Prelude.{ℕ, ◌+◌, ◌*◌, List, [], ◌∷◌, leb, if◌then◌else◌, Err, Ok, Result}
use Rattle.refusal.specs.declared.Refusal.TheVariants.{FormUnavailable}
use Rattle.layout.specs.declared.Width.{Width}
use Rattle.layout.specs.declared.Width.TheVariants as W
use Rattle.layout.specs.declared.EntryWidth.TheVariants as E
use Rattle.layout.specs.declared.Underflow.TheVariants as U
use Rattle.layout.specs.declared.Form.{Form}
use Rattle.layout.specs.Form.{form_of, width_bytes, underflow_bytes}

abbrev pub form_chosen : Form → ℕ → Chosen
form_chosen form length = record { form = form; length = length }

-- the forms of a width: kind none, then the narrower entry
abbrev pub kinds_of : Width → List Form → List Form
kinds_of w rest = form_of w U.None ∷ (form_of w (U.Subtracted E.One) ∷ (form_of w (U.Subtracted E.Two) ∷ rest))

-- the nine forms, as they are preferred among equals
unfoldable pub forms : List Form
forms = kinds_of W.One (kinds_of W.Two (kinds_of W.Four []))

-- that order as a number: the pixel width, then the bytes of an underflow entry, 0 for kind none
abbrev pub rank : Form → ℕ
rank form = width_bytes form.width * 3 + underflow_bytes form.underflow

-- the shorter of two: the first where they are equal, and its refusal where both are refused
abbrev pub shorter : Result Chosen Refusal → Result Chosen Refusal → Result Chosen Refusal
shorter (Err r) (Err s) = Err r
shorter (Err r) (Ok ch) = Ok (form_chosen ch.form ch.length)
shorter (Ok ch) (Err s) = Ok (form_chosen ch.form ch.length)
shorter (Ok ch) (Ok ch1) = if leb ch.length ch1.length then Ok (form_chosen ch.form ch.length) else Ok (form_chosen ch1.form ch1.length)

unfoldable pub choice_by : (Form → Result Chosen Refusal) → List Form → Result Chosen Refusal
choice_by c [] = Err FormUnavailable
choice_by c (f ∷ fs) = shorter (c f) (choice_by c fs)
