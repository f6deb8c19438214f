-- Document 01, "The plain book", with document 02's A6 and A8: the reference model that demand 3 compares with.
use Rattle.std.specs.Prelude.{ℕ, ◌+◌, ◌/◌, Bool, List, [], ◌∷◌, length, set, if◌then◌else◌, Err, Ok, Result, Some}
use Rattle.std.proofs.Math.Bool.{not}
use Rattle.std.proofs.Math.Dec.{leb}
use Rattle.refusal.specs.declared.Refusal.{Refusal}
use Rattle.refusal.specs.declared.Refusal.TheVariants as R
use Rattle.layout.specs.declared.Form.{Form}
use Rattle.writer.specs.Writer.{write_answer}
use Rattle.calendar.specs.declared.Date.{Date}
use Rattle.calendar.specs.Calendar.{is_date, before}
use Rattle.ledger.specs.declared.Kind.{Kind}
use Rattle.ledger.specs.declared.Kind.TheVariants.{Correction, Keep}
use Rattle.ledger.specs.declared.Line.{Line}
use Rattle.archive.specs.Calls.{no_date}

-- the calls, each with its own arguments: a pixel number and a count, a date, nothing, a count, nothing, the day asked
pub data Call : Type 0 where
  correct : ℕ → ℕ → Call
  keep : Date → Call
  withdraw : Call
  amend : ℕ → Call
  compact : Call
  may_purge : Date → Call

pub data Answer : Type 0 where
  accepted : Answer
  refused : Refusal → Answer

-- what a call gives back: its answer and the number of lines, after a refusal the same
pub record Reply : Type 0 where
  pub answer : Answer
  pub lines : ℕ

-- a call made: what it gives back, and the state after it
pub record Step (S : Type 0) : Type 0 where
  pub reply : Reply
  pub state : S

-- every call of a list in turn: what each gives back, and the last state
pub record Ran (S : Type 0) : Type 0 where
  pub replies : List Reply
  pub state : S

unfoldable pub run : {S : Type 0} → (Call → S → Step S) → List Call → S → Ran S
run step [] s = record { replies = []; state = s }
run step (c ∷ cs) s = record {
  replies = (step c s).reply ∷ (run step cs (step c s).state).replies;
  state = (run step cs (step c s).state).state;
}

-- an entry of the stack: a pixel and its new count, or a date
pub data Entry : Type 0 where
  corrected : ℕ → ℕ → Entry
  kept : Date → Entry

-- The reference model is document 01's plain book. Its stack is the book's pile, the top first; `lines` is the lines used.
pub record Model : Type 0 where
  pub stack : List Entry
  pub lines : ℕ

-- what the model is fed besides the calls: the header and the N pixels of the frame opened, the form asked for, and the
-- lengths of held buffer and ledger
pub record Opening : Type 0 where
  pub header : List ℕ
  pub pixels : List ℕ
  pub form : Form
  pub held_length : ℕ
  pub ledger_length : ℕ

-- at first the stack is empty and no line is used
abbrev pub empty_model : Model
empty_model = record { stack = []; lines = 0 }

-- the opened pixels with the stack's corrections made, oldest first
unfoldable pub pixels_with : List ℕ → List Entry → List ℕ
pixels_with opened [] = opened
pixels_with opened (corrected pixel count ∷ es) = set (pixels_with opened es) pixel count
pixels_with opened (kept d ∷ es) = pixels_with opened es

abbrev pub refuse : Model → Refusal → Step Model
refuse m r = record { reply = record { answer = refused r; lines = m.lines }; state = m }

-- accepted: so many lines are used, and the stack becomes this one
abbrev pub accept : ℕ → List Entry → Step Model
accept lines es = record { reply = record { answer = accepted; lines = lines }; state = record { stack = es; lines = lines } }

-- by what the writer gives: 17 or 18; otherwise so many lines are used, and the correction goes on top of the entries below it
abbrev pub corrected_by : Model → ℕ → List Entry → ℕ → ℕ → Result ℕ Refusal → Step Model
corrected_by m lines below pixel count (Ok n) = accept lines (corrected pixel count ∷ below)
corrected_by m lines below pixel count (Err r) = refuse m r

-- by the uppermost keep date: 26 if there is none, 27 if it is not before the day asked
unfoldable pub asked_of : Date → List Entry → Answer
unfolding before
asked_of day [] = refused R.NoKeepLine
asked_of day (corrected pixel count ∷ es) = asked_of day es
asked_of day (kept d ∷ es) = if before d day then accepted else refused R.NotYet

module _ (o : Opening) where
  -- full: no whole line is left in the ledger's bytes
  abbrev pub is_full : Model → Bool
  is_full m = leb (o.ledger_length / 16) m.lines

  -- fewer than two lines are free
  abbrev pub lacks_two : Model → Bool
  lacks_two m = leb (o.ledger_length / 16) (m.lines + 1)

  -- the model's pixels
  abbrev pub model_pixels : Model → List ℕ
  model_pixels m = pixels_with o.pixels m.stack

  -- what the writer answers for pixels
  abbrev pub written : List ℕ → Result ℕ Refusal
  written vs = write_answer o.header (Some o.form) vs o.held_length

  -- by the stack: 22 if it is empty; 21; otherwise the top entry goes
  abbrev pub withdrawn_from : Model → List Entry → Step Model
  withdrawn_from m [] = refuse m R.NothingStands
  withdrawn_from m (e ∷ es) = if is_full m then refuse m R.LedgerFull else accept (m.lines + 1) es

  -- by the stack: 22 if it is empty, 31 if a date is on top; 21; otherwise the top entry goes, and by the writer its pixel with the new count comes
  abbrev pub amended_from : Model → ℕ → List Entry → Step Model
  amended_from m count [] = refuse m R.NothingStands
  amended_from m count (kept d ∷ es) = refuse m R.LastIsKeep
  amended_from m count (corrected pixel old ∷ es) =
      if lacks_two m then refuse m R.LedgerFull else
      corrected_by m (m.lines + 2) es pixel count (written (set (pixels_with o.pixels es) pixel count))

  unfoldable pub model_step : Call → Model → Step Model
  unfolding pixels_with asked_of is_date
  -- correction: 24, 21, 17 or 18
  model_step (correct pixel count) m =
      if leb (length o.pixels) pixel then refuse m R.NoSuchPixel else
      if is_full m then refuse m R.LedgerFull else
      corrected_by m (m.lines + 1) m.stack pixel count (written (set (model_pixels m) pixel count))
  -- keep entry: 25, 21; otherwise the date goes on top
  model_step (keep d) m =
      if not (is_date d) then refuse m R.NotADate else
      if is_full m then refuse m R.LedgerFull else
      accept (m.lines + 1) (kept d ∷ m.stack)
  -- withdrawal: 22, 21
  model_step withdraw m = withdrawn_from m m.stack
  -- amending: 22, 31, 21, 17 or 18
  model_step (amend count) m = amended_from m count m.stack
  -- compaction: the stack stays, and a line is used for each of its entries
  model_step compact m = accept (length m.stack) m.stack
  -- purge question: 25, 26, 27; it changes nothing
  model_step (may_purge day) m = record {
    reply = record { answer = if not (is_date day) then refused R.NotADate else asked_of day m.stack; lines = m.lines };
    state = m;
  }

-- what a line and an entry are compared by
pub record Seen : Type 0 where
  pub kind : Kind
  pub date : Date
  pub pixel : ℕ
  pub new : ℕ

abbrev pub seen_line : Line → Seen
seen_line l = record { kind = l.kind; date = l.date; pixel = l.pixel; new = l.new }

abbrev pub seen_entry : Entry → Seen
seen_entry (corrected pixel count) = record { kind = Correction; date = no_date; pixel = pixel; new = count }
seen_entry (kept d) = record { kind = Keep; date = d; pixel = 0; new = 0 }
