-- The calls on real bytes, by the definitions that the public contracts cite.
use Rattle.refusal.specs.declared.Refusal.{Refusal}
use Rattle.layout.specs.declared.Header.{Header}
use Rattle.std.specs.Prelude.{ℕ, ◌<◌, ◌≡◌, Bool, true, false, List, [], ◌∷◌, length, take, if◌then◌else◌, Err, Ok, Result, Some}
use Rattle.layout.specs.declared.Form.{Form}
use Rattle.header.specs.Header.{header_of}
use Rattle.reader.specs.Reader.{read_pixels}
use Rattle.readback.specs.Held.{count_by}
use Rattle.calendar.specs.declared.Date.{Date}
use Rattle.ledger.specs.declared.Line.{Line}
use Rattle.calendar.specs.Calendar.{before}
use Rattle.ledger.specs.Standing.{keeps}
use Rattle.ledger.specs.Ledger.{keep_answer, keep_bytes, purge_answer}
use Rattle.compaction.specs.Compact.{compact_answer, compact_bytes}
use Rattle.layout.specs.Layout.{frame_read}
use Rattle.opening.specs.Open.{opened, open_answer, open_held, smallest_opened}
use Rattle.archive.specs.Calls.{Outcome, correct_outcome, withdraw_outcome, amend_outcome}
use Rattle.model.specs.Model.{Call, correct, keep, withdraw, amend, compact, may_purge, Answer, accepted, refused, Step, Opening}

-- the held buffer and the ledger as the last call left them, and the number of lines that it gave
pub record State : Type 0 where
  pub held : List ℕ
  pub ledger : List ℕ
  pub lines : ℕ

abbrev pub state_of : List ℕ → List ℕ → ℕ → State
state_of held ledger lines = record { held = held; ledger = ledger; lines = lines }

abbrev pub answered : Result ℕ Refusal → Answer
answered (Ok n) = accepted
answered (Err r) = refused r

-- the number of lines that a call gives: after a refusal the same
abbrev pub lines_after : ℕ → Result ℕ Refusal → ℕ
lines_after lines (Ok n) = n
lines_after lines (Err r) = lines

abbrev pub purged : Result (Unit {0}) Refusal → Answer
purged (Ok tt) = accepted
purged (Err r) = refused r

-- a call that answered, with the held buffer and the ledger after it
abbrev pub after : ℕ → Result ℕ Refusal → List ℕ → List ℕ → Step State
after lines a held ledger = record {
  reply = record { answer = answered a; lines = lines_after lines a };
  state = state_of held ledger (lines_after lines a);
}

abbrev pub after_outcome : ℕ → Outcome → Step State
after_outcome lines o = after lines o.answer o.held o.ledger

unfoldable pub step : Call → State → Step State
step (correct pixel count) s = after_outcome s.lines (correct_outcome s.held s.ledger s.lines pixel count)
step (keep d) s = after s.lines (keep_answer s.ledger s.lines d) s.held (keep_bytes s.ledger s.lines d)
step withdraw s = after_outcome s.lines (withdraw_outcome s.held s.ledger s.lines)
step (amend count) s = after_outcome s.lines (amend_outcome s.held s.ledger s.lines count)
step compact s = after s.lines (compact_answer s.ledger s.lines) s.held (compact_bytes s.ledger s.lines)
step (may_purge day) s =
    record { reply = record { answer = purged (purge_answer s.ledger s.lines day); lines = s.lines }; state = s }

-- the bytes of the header that is accepted from a frame
abbrev pub header_bytes_by : List ℕ → Result Header Refusal → List ℕ
header_bytes_by frame (Ok h) = take h.image.start frame
header_bytes_by frame (Err r) = []

-- what an opening feeds the model: the header's own bytes, the N pixels read, the form asked for, and the two lengths
unfoldable pub opening_of : List ℕ → List ℕ → Form → List ℕ → List ℕ → Opening
opening_of frame pixels form held ledger = record {
  header = header_bytes_by frame (header_of frame);
  pixels = take (count_by (header_of frame)) (read_pixels frame pixels);
  form = form;
  held_length = length held;
  ledger_length = length ledger;
}

-- An opening that is accepted, in the form asked for or in the smallest (A14): the frame is held in this form.
pub data OpenedIn (frame pixels held : List ℕ) (form : Form) : Type 0 where
  in-asked : (rows columns end n : ℕ) → open_answer frame pixels (Some form) (length held) ≡ Ok (opened (frame_read rows columns end) (Ok n)) → OpenedIn frame pixels held form
  in-smallest : (rows columns end n : ℕ) → smallest_opened frame pixels (length held) ≡ record { form = form; answer = Ok (opened (frame_read rows columns end) (Ok n)) } → OpenedIn frame pixels held form

-- the state after an opening: no line of the ledger is used, and its bytes may be any
abbrev pub opened_state : List ℕ → List ℕ → Form → List ℕ → List ℕ → State
opened_state frame pixels form held ledger = state_of (open_held frame pixels (Some form) held) ledger 0

-- a count has 32 bits, as the public functions take it; pixel numbers and the fields of a date may be any
abbrev pub Counted : Call → Type 0
Counted (correct pixel count) = count < 4294967296
Counted (keep d) = Unit {0}
Counted withdraw = Unit {0}
Counted (amend count) = count < 4294967296
Counted compact = Unit {0}
Counted (may_purge day) = Unit {0}

unfoldable pub AllCounted : List Call → Type 0
AllCounted [] = Unit {0}
AllCounted (c ∷ cs) = Counted c × AllCounted cs

abbrev pub is_accepted : Answer → Bool
is_accepted accepted = true
is_accepted (refused r) = false

-- the last keep line of a list has a date before the day; not where none keeps
unfoldable pub last_keep_before : Date → Bool → List Line → Bool
unfolding before
last_keep_before day earlier [] = earlier
last_keep_before day earlier (l ∷ ls) = last_keep_before day (if keeps l then before l.date day else earlier) ls
