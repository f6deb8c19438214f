-- The C interface: the smallest form, and an opening in it, as plain numbers.
use Rattle.form_choice.specs.declared.Chosen.{Chosen}
use Rattle.refusal.specs.declared.Refusal.{Refusal}
use Rattle.std.specs.Prelude.{ℕ, Err, Ok, Result}
use Rattle.refusal.specs.Codes.{refusal_number, refusal_place}
use Rattle.layout.specs.declared.Form.{Form}
use Rattle.layout.specs.Form.{width_bytes, underflow_bytes}
use Rattle.opening.specs.declared.Opened.{Opened}
use Rattle.opening.specs.declared.FormOpened.{FormOpened}
use Rattle.frame_report.specs.Report.{open_result}
use Rattle.form_report.specs.declared.FormNumbers.{FormNumbers}
use Rattle.form_report.specs.declared.FormResult.{FormResult}
use Rattle.form_report.specs.declared.OpenFormResult.{OpenFormResult}

-- the bytes of a pixel and of an underflow entry, as the form is asked for
abbrev pub form_numbers : Form → FormNumbers
form_numbers form = record { width = width_bytes form.width; underflow = underflow_bytes form.underflow }

abbrev pub no_form : FormNumbers
no_form = record { width = 0; underflow = 0 }

-- the form and the length of its frame, or the refusal's number and value
abbrev pub form_result : Result Chosen Refusal → FormResult
form_result (Ok ch) =
    record { refusal = 0; place = 0; column = 0; width = (form_numbers ch.form).width; underflow = (form_numbers ch.form).underflow; length = ch.length }
form_result (Err r) = record { refusal = refusal_number r; place = refusal_place r; column = 0; width = 0; underflow = 0; length = 0 }

-- the form held; where nothing is held there is none
abbrev pub numbers_by : Form → Result ℕ Refusal → FormNumbers
numbers_by form (Ok n) = form_numbers form
numbers_by form (Err r) = no_form

abbrev pub held_numbers : Form → Result Opened Refusal → FormNumbers
held_numbers form (Ok o) = numbers_by form o.held
held_numbers form (Err r) = no_form

-- what opening answers, with the form
abbrev pub open_form_result : FormOpened → OpenFormResult
open_form_result o = record {
  refusal = (open_result o.answer).refusal;
  place = (open_result o.answer).place;
  column = (open_result o.answer).column;
  rows = (open_result o.answer).rows;
  columns = (open_result o.answer).columns;
  width = (held_numbers o.form o.answer).width;
  underflow = (held_numbers o.form o.answer).underflow;
  end = (open_result o.answer).end;
  length = (open_result o.answer).length;
}
