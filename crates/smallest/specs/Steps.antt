-- The choice from an accepted header on: what the private functions say of themselves. No public contract cites this file.
use Rattle.form_choice.specs.declared.Chosen.{Chosen}
use Rattle.refusal.specs.declared.Refusal.{Refusal}
use Rattle.std.specs.Prelude.{ℕ, List, Some, Result}
use Rattle.layout.specs.declared.Underflows.{Underflows}
use Rattle.layout.specs.declared.Tables.{Tables}
use Rattle.layout.specs.declared.Header.{Header}
use Rattle.writer.specs.Writer.{base_for, made_with, made_as, made_from}
use Rattle.form_choice.specs.Choosing.{forms}
use Rattle.smallest.specs.Smallest.{choice_of}

abbrev pub chosen_with : List ℕ → Underflows → List ℕ → Result Chosen Refusal
chosen_with header h vs = choice_of (λ form. made_with header form vs (base_for header h form.underflow)) forms

abbrev pub chosen_as : List ℕ → Tables → List ℕ → Result Chosen Refusal
chosen_as header t vs = choice_of (λ form. made_as header t (Some form) vs) forms

abbrev pub chosen_from : List ℕ → List ℕ → Header → Result Chosen Refusal
chosen_from given pixels h = choice_of (λ form. made_from given (Some form) pixels h) forms
