-- Document 02, A14: of the nine frames that the writer makes or refuses, the form of the first of the shortest.
use Rattle.form_choice.specs.Choosing.{form_chosen}
use Rattle.form_choice.specs.declared.Chosen.{Chosen}
use Rattle.refusal.specs.declared.Refusal.{Refusal}
use Rattle.std.specs.Prelude.{ℕ, List, length, ltb, if◌then◌else◌, Err, Ok, Result, Some}
use Rattle.refusal.specs.declared.Refusal.TheVariants.{OutputShort}
use Rattle.layout.specs.declared.Width.TheVariants as W
use Rattle.layout.specs.declared.Underflow.TheVariants as U
use Rattle.layout.specs.declared.Form.{Form}
use Rattle.layout.specs.Form.{form_of}
use Rattle.writer.specs.Writer.{Made, frame, refused, writer_frame}
use Rattle.form_choice.specs.Choosing.{forms, choice_by}

-- a form with the length of what the writer makes in it
abbrev pub considered : Form → Made → Result Chosen Refusal
considered form (frame f) = Ok (form_chosen form (length f))
considered form (refused r) = Err r

-- the choice by what is made in each form
abbrev pub choice_of : (Form → Made) → List Form → Result Chosen Refusal
choice_of make fs = choice_by (λ form. considered form (make form)) fs

-- what the writer makes of a header and pixels in a form
abbrev pub made_in : List ℕ → List ℕ → Form → Made
made_in given pixels form = writer_frame given (Some form) pixels

-- the answer: the smallest form and its length, or why there is none
unfoldable pub smallest_form : List ℕ → List ℕ → Result Chosen Refusal
smallest_form given pixels = choice_of (made_in given pixels) forms

-- the form chosen; where there is none, the first of the nine, whose refusal is the answer
abbrev pub form_in : Result Chosen Refusal → Form
form_in (Ok ch) = ch.form
form_in (Err r) = form_of W.One U.None

-- what writing in the form chosen answers, in a buffer of so many bytes: 18, or the length foretold
abbrev pub foretold : ℕ → Result Chosen Refusal → Result ℕ Refusal
foretold room (Ok ch) = if ltb room ch.length then Err OutputShort else Ok ch.length
foretold room (Err r) = Err r
