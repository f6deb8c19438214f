-- Document 01, "Writing and holding": opening reads a frame into the pixel array and writes it into the held buffer. Document 02, A14: in the smallest form.
use Rattle.form_choice.specs.declared.Chosen.{Chosen}
use Rattle.layout.specs.declared.Frame.{Frame}
use Rattle.std.specs.Prelude.{ℕ, List, length, Err, Ok, Option, Result, Some}
use Rattle.refusal.specs.declared.Refusal.{Refusal}
use Rattle.reader.specs.Reader.{read_answer, read_pixels}
use Rattle.writer.specs.Writer.{write_answer, write_bytes}
use Rattle.layout.specs.declared.Form.{Form}
use Rattle.smallest.specs.Smallest.{smallest_form, form_in}
use Rattle.opening.specs.declared.Opened.{Opened}
use Rattle.opening.specs.declared.FormOpened.{FormOpened}

abbrev pub opened : Frame → Result ℕ Refusal → Opened
opened frame held = record { frame = frame; held = held }

abbrev pub open_by : Result Frame Refusal → Result ℕ Refusal → Result Opened Refusal
open_by (Ok f) written = Ok (opened f written)
open_by (Err r) written = Err r

abbrev pub held_by : Result Frame Refusal → List ℕ → List ℕ → List ℕ
held_by (Ok f) held written = written
held_by (Err r) held written = held

-- the answer: reading's refusals, then 16, 17, 18
unfoldable pub open_answer : List ℕ → List ℕ → Option Form → ℕ → Result Opened Refusal
open_answer frame pixels asked room =
    open_by (read_answer frame (length pixels)) (write_answer frame asked (read_pixels frame pixels) room)

-- the pixel array afterwards is the reader's; the held buffer is the writer's where reading is accepted
abbrev pub open_pixels : List ℕ → List ℕ → List ℕ
open_pixels frame pixels = read_pixels frame pixels

unfoldable pub open_held : List ℕ → List ℕ → Option Form → List ℕ → List ℕ
open_held frame pixels asked held =
    held_by (read_answer frame (length pixels)) held (write_bytes frame asked (read_pixels frame pixels) held)

-- the smallest form of the pixels read; where nothing is read, one that stands for nothing
abbrev pub chosen_by : Result Frame Refusal → Result Chosen Refusal → Form
chosen_by (Ok f) choice = form_in choice
chosen_by (Err r) choice = form_in (Err r)

unfoldable pub chosen_form : List ℕ → List ℕ → Form
chosen_form frame pixels = chosen_by (read_answer frame (length pixels)) (smallest_form frame (read_pixels frame pixels))

-- opening in the smallest form is opening with that form asked for
unfoldable pub smallest_opened : List ℕ → List ℕ → ℕ → FormOpened
smallest_opened frame pixels room =
    record { form = chosen_form frame pixels; answer = open_answer frame pixels (Some (chosen_form frame pixels)) room }
