-- What requests A6, A8 and A11 ask besides demand 3. proofs/Amended.antt, Compacted.antt, Behind.antt and Reasons.antt prove these statements.
use Rattle.ledger.specs.Standing.{line_found}
use Rattle.refusal.specs.declared.Refusal.{Refusal}
use Rattle.std.specs.Prelude.{ℕ, zero, suc, ◌+◌, ◌*◌, ◌<◌, ◌≡◌, Bool, true, false, List, [], ◌∷◌, map, length, get_or, drop, Err, None, Ok, Option, Result, Some}
use Rattle.refusal.specs.declared.Refusal.TheVariants as R
use Rattle.calendar.specs.declared.Date.{Date}
use Rattle.ledger.specs.declared.Line.{Line}
use Rattle.ledger.specs.Lines.{lines_of}
use Rattle.ledger.specs.Standing.{keeps, corrects, last_standing, any_line}
use Rattle.ledger.specs.Ledger.{ledger_malformed}
use Rattle.readback.specs.Held.{held_pixels}
use Rattle.why.specs.declared.Numbered.{Numbered}
use Rattle.why.specs.declared.DayAnswer.{DayAnswer}
use Rattle.why.specs.declared.DayAnswer.TheVariants as D
use Rattle.why.specs.Why.{day_reason, pixel_reason}
use Rattle.why.specs.Theorems.{day_names, pixel_names, number_in, stands_at}
use Rattle.model.specs.Model.{Call, correct, keep, withdraw, amend, compact, may_purge, Answer, accepted, refused, Reply, Ran, run, Entry, corrected, Model, Opening, empty_model, model_step}
use Rattle.model.specs.Ledger.{Ledger, empty_ledger, ledger_run}
use Rattle.model.specs.Run.{State, step}

-- A6: a withdrawal, and then a correction
abbrev pub back_and_anew : ℕ → ℕ → List Call
back_and_anew pixel count = withdraw ∷ correct pixel count ∷ []

-- In the model: the two steps are both accepted, and the state and the ledger after them are those after amending.
pub record TwoSteps (o : Opening) (m : Model) (pixel count : ℕ) : Type 0 where
  pub state : (run (model_step o) (back_and_anew pixel count) m).state ≡ (model_step o (amend count) m).state
  pub replies : (run (model_step o) (back_and_anew pixel count) m).replies
      ≡ record { answer = accepted; lines = m.lines + 1 } ∷ record { answer = accepted; lines = m.lines + 2 } ∷ []
  pub ledger : (g : Ledger) → ledger_run o (back_and_anew pixel count) m g ≡ ledger_run o (amend count ∷ []) m g

-- amending accepted with a correction of a pixel that is there on top
abbrev pub AmendIsTwo : Opening → Type 0
AmendIsTwo o =
    (pixel old count lines : ℕ) (es : List Entry) → pixel < length o.pixels
    → (let m : Model = record { stack = corrected pixel old ∷ es; lines = lines } in (model_step o (amend count) m).reply.answer ≡ accepted → TwoSteps o m pixel count)

-- On real bytes: where amending is accepted, held buffer, ledger and number of lines after it are those after a withdrawal and then a correction of the
-- last standing line's pixel.
abbrev pub AmendLeavesTwo : State → Type 0
AmendLeavesTwo s =
    (count : ℕ) → count < 4294967296 → (i : ℕ) (l : Line) → last_standing any_line 0 (lines_of s.lines s.ledger) ≡ Some (line_found i l)
    → (step (amend count) s).reply.answer ≡ accepted → (run step (back_and_anew l.pixel count) s).state ≡ (step (amend count) s).state

-- A8: what a run gave back without the numbers of lines
abbrev pub answers_of : List Reply → List Answer
answers_of rs = map (λ (r : Reply). r.answer) rs

-- no answer of a run is refusal 21
abbrev pub NeverFull : List Reply → Type 0
NeverFull [] = Unit {0}
NeverFull (r ∷ rs) = (r.answer ≡ refused R.LedgerFull → ⊥) × NeverFull rs

-- two runs gave the same answers and left the same held buffer
pub record SameRun (q r : Ran State) : Type 0 where
  pub answers : answers_of r.replies ≡ answers_of q.replies
  pub held : r.state.held ≡ q.state.held

-- On real bytes, of every held buffer, ledger and number of lines: further calls that meet no 21 without compaction are answered as without it, and leave the
-- same frame. They may amend and compact in their turn; since each beginning of such a list is one too, the frames are the same after each call.
abbrev pub CompactionUnobservable : Type 0
CompactionUnobservable = (s : State) (cs : List Call) → NeverFull (run step cs s).replies → SameRun (run step cs s) (run step cs (step compact s).state)

-- and every purge question is answered as without it
abbrev pub PurgeUnobservable : Type 0
PurgeUnobservable = (s : State) (day : Date) → (step (may_purge day) (step compact s).state).reply.answer ≡ (step (may_purge day) s).reply.answer

-- a compacted ledger compacted again: the same answer, and nothing changes
abbrev pub CompactedTwice : Type 0
CompactedTwice = (s : State) → step compact (step compact s).state ≡ step compact s

-- Where no call compacts, the bytes behind the lines are those that the ledger had there at first.
abbrev pub is_compact : Call → Bool
is_compact (correct pixel count) = false
is_compact (keep d) = false
is_compact withdraw = false
is_compact (amend count) = false
is_compact compact = true
is_compact (may_purge day) = false

abbrev pub NeverCompact : List Call → Type 0
NeverCompact [] = Unit {0}
NeverCompact (c ∷ cs) = (is_compact c ≡ false) × NeverCompact cs

abbrev pub BehindStays : Type 0
BehindStays =
    (o : Opening) (before : List ℕ) (cs : List Call) → NeverCompact cs
    → (let g = ledger_run o cs empty_model (empty_ledger before) in g.behind ≡ drop (length g.lines * 16) before)

-- A11: what the ledger of a state answers, and its lines
abbrev pub day_at : Date → State → Result DayAnswer Refusal
day_at day s = day_reason s.ledger s.lines day

abbrev pub pixel_at : ℕ → State → Result (Option Numbered) Refusal
pixel_at pixel s = pixel_reason s.ledger s.lines pixel

abbrev pub lines_at : State → List Line
lines_at s = lines_of s.lines s.ledger

-- so many withdrawals, each one accepted
abbrev pub withdrawals : ℕ → List Call
withdrawals zero = []
withdrawals (suc count) = withdraw ∷ withdrawals count

abbrev pub AllAccepted : List Reply → Type 0
AllAccepted [] = Unit {0}
AllAccepted (r ∷ rs) = (r.answer ≡ accepted) × AllAccepted rs

-- On real bytes, of every held buffer, ledger and number of lines: once withdrawals, each one accepted, have taken the line that was named, an earlier line is
-- named, or none, and 20 is not due.
abbrev pub NamedEarlier : (Line → Bool) → (State → List Numbered) → Type 0
NamedEarlier test named =
    (s : State) (d : Numbered) (index count : ℕ) → named s ≡ d ∷ [] → d.number ≡ suc index
    → (let ran = run step (withdrawals count) s in
    AllAccepted ran.replies → stands_at test index (lines_at ran.state) ≡ false
    → (ledger_malformed ran.state.ledger ran.state.lines ≡ false) × (number_in (named ran.state) < d.number))

abbrev pub DayEarlier : Type 0
DayEarlier = (day : Date) → NamedEarlier keeps (λ (s : State). day_names (day_at day s))

abbrev pub PixelEarlier : Type 0
PixelEarlier = (pixel : ℕ) → NamedEarlier (corrects pixel) (λ (s : State). pixel_names (pixel_at pixel s))

-- After compaction both questions are answered as before, by the same line, whose number alone may be another.
abbrev pub unnumbered : Numbered → Numbered
unnumbered d = record { number = 0; line = d.line }

abbrev pub day_unnumbered : Result DayAnswer Refusal → Result DayAnswer Refusal
day_unnumbered (Ok (D.Allowed d)) = Ok (D.Allowed (unnumbered d))
day_unnumbered (Ok (D.NotYet d)) = Ok (D.NotYet (unnumbered d))
day_unnumbered (Err r) = Err r

abbrev pub pixel_unnumbered : Result (Option Numbered) Refusal → Result (Option Numbered) Refusal
pixel_unnumbered (Ok (Some d)) = Ok (Some (unnumbered d))
pixel_unnumbered (Ok None) = Ok None
pixel_unnumbered (Err r) = Err r

abbrev pub ReasonsUnobservable : Type 0
ReasonsUnobservable =
    (s : State)
    → ((day : Date) → day_unnumbered (day_at day (step compact s).state) ≡ day_unnumbered (day_at day s))
    × ((pixel : ℕ) → pixel_unnumbered (pixel_at pixel (step compact s).state) ≡ pixel_unnumbered (pixel_at pixel s))

-- the count that an answer for a pixel says it has: the new one of the correction named, or the opened one
abbrev pub count_said : Result (Option Numbered) Refusal → ℕ → List ℕ
count_said (Ok (Some d)) opened = d.line.new ∷ []
count_said (Ok None) opened = opened ∷ []
count_said (Err r) opened = []

-- each pixel of the held frame has the count that its answer says; where the opened pixels are these
abbrev pub CountsExplained : List ℕ → State → Type 0
CountsExplained opened s =
    (pixel : ℕ) → pixel < length opened → count_said (pixel_at pixel s) (get_or opened pixel 0) ≡ get_or (held_pixels s.held) pixel 0 ∷ []
