-- Document 01, "The ledger" and "Numbers given back", and document 02, A6: correction, withdrawal and amending, over the held buffer and the ledger.
use Rattle.ledger.specs.declared.Found.{Found}
use Rattle.std.specs.Prelude.{ℕ, ◌+◌, not, List, [], ◌∷◌, length, get_or, eqb, leb, ltb, if◌then◌else◌, Err, Ok, Result, None, Option, Some}
use Rattle.refusal.specs.declared.Refusal.{Refusal}
use Rattle.refusal.specs.declared.Refusal.TheVariants as R
use Rattle.calendar.specs.declared.Date.{Date}
use Rattle.ledger.specs.declared.Kind.{Kind}
use Rattle.ledger.specs.declared.Kind.TheVariants.{Correction, Keep, Withdrawal}
use Rattle.ledger.specs.declared.Line.{Line}
use Rattle.ledger.specs.Lines.{lines_of}
use Rattle.ledger.specs.Standing.{last_standing, any_line}
use Rattle.ledger.specs.Ledger.{ledger_malformed, ledger_full, with_line}
use Rattle.lists.specs.Bytes.{held_bytes}
use Rattle.writer.specs.Writer.{Made, frame, refused}
use Rattle.readback.specs.Held.{held_count, held_pixels, is_held}
use Rattle.replacement.specs.Replace.{changed_frame}

-- what a call answers, with the held buffer and the ledger after it
pub record Outcome : Type 0 where
  pub answer : Result ℕ Refusal
  pub held : List ℕ
  pub ledger : List ℕ

abbrev pub outcome : Result ℕ Refusal → List ℕ → List ℕ → Outcome
outcome a h l = record { answer = a; held = h; ledger = l }

abbrev pub no_date : Date
no_date = record { year = 0; month = 0; day = 0 }

-- the lines that a correction and a withdrawal append
abbrev pub correction_line : ℕ → ℕ → ℕ → Line
correction_line pixel old new = record { kind = Correction; date = no_date; pixel = pixel; old = old; new = new }

abbrev pub withdrawal_line : Line
withdrawal_line = record { kind = Withdrawal; date = no_date; pixel = 0; old = 0; new = 0 }

-- the bytes with lines written one after the other after the first `lines` lines
abbrev pub with_lines : List ℕ → ℕ → List Line → List ℕ
with_lines t lines [] = t
with_lines t lines (l ∷ ls) = with_lines (with_line t lines l) (lines + 1) ls

module _ (held ledger : List ℕ) (lines : ℕ) where
  -- a refusal changes no byte
  abbrev pub refuse : Refusal → Outcome
  refuse r = outcome (Err r) held ledger

  -- the held buffer becomes a frame, and lines are appended: 17, 18
  abbrev pub held_as : List Line → Made → Outcome
  held_as added (frame f) =
      if ltb (length held) (length f) then refuse R.OutputShort else
      outcome (Ok (lines + length added)) (held_bytes (length held) f) (with_lines ledger lines added)
  held_as added (refused r) = refuse r

  -- the frame held, with another count in one pixel
  abbrev pub changed : ℕ → ℕ → Made
  changed pixel count = changed_frame held pixel count

  -- correction: 19, 20, 24, 21, 17, 18
  unfoldable pub correct_outcome : ℕ → ℕ → Outcome
  correct_outcome pixel count =
      if not (is_held held) then refuse R.HeldNotCanonical else
      if ledger_malformed ledger lines then refuse R.LedgerMalformed else
      if leb (held_count held) pixel then refuse R.NoSuchPixel else
      if ledger_full ledger lines then refuse R.LedgerFull else
      held_as (correction_line pixel (get_or (held_pixels held) pixel 0) count ∷ []) (changed pixel count)

  -- a correction is taken back: 24, 23, 21, 17, 18
  abbrev pub correction_back : Line → Outcome
  correction_back l =
      if leb (held_count held) l.pixel then refuse R.NoSuchPixel else
      if not (eqb (get_or (held_pixels held) l.pixel 0) l.new) then refuse R.PixelDiffers else
      if ledger_full ledger lines then refuse R.LedgerFull else
      held_as (withdrawal_line ∷ []) (changed l.pixel l.old)

  -- a keep line is taken back: the held buffer stays
  abbrev pub keep_back : Outcome
  keep_back =
      if ledger_full ledger lines then refuse R.LedgerFull else
      outcome (Ok (lines + 1)) held (with_line ledger lines withdrawal_line)

  abbrev pub line_back : Kind → Line → Outcome
  line_back Correction l = correction_back l
  line_back Keep l = keep_back
  line_back Withdrawal l = refuse R.NothingStands

  -- 22: nothing stands
  abbrev pub last_back : Option Found → Outcome
  last_back None = refuse R.NothingStands
  last_back (Some fd) = line_back fd.line.kind fd.line

  -- withdrawal: 19, 20, then by the last standing line
  unfoldable pub withdraw_outcome : Outcome
  withdraw_outcome =
      if not (is_held held) then refuse R.HeldNotCanonical else
      if ledger_malformed ledger lines then refuse R.LedgerMalformed else
      last_back (last_standing any_line 0 (lines_of lines ledger))

  -- the line taken back and its pixel corrected anew, the old count being that before the line; 21 where fewer than two lines are free, and only the
  -- last frame is judged: 24, 23, 21, 17, 18
  abbrev pub correction_amended : ℕ → Line → Outcome
  correction_amended count l =
      if leb (held_count held) l.pixel then refuse R.NoSuchPixel else
      if not (eqb (get_or (held_pixels held) l.pixel 0) l.new) then refuse R.PixelDiffers else
      if ledger_full ledger (lines + 1) then refuse R.LedgerFull else
      held_as (withdrawal_line ∷ correction_line l.pixel l.old count ∷ []) (changed l.pixel count)

  -- 31: a keep line
  abbrev pub line_amended : ℕ → Kind → Line → Outcome
  line_amended count Correction l = correction_amended count l
  line_amended count Keep l = refuse R.LastIsKeep
  line_amended count Withdrawal l = refuse R.NothingStands

  abbrev pub last_amended : ℕ → Option Found → Outcome
  last_amended count None = refuse R.NothingStands
  last_amended count (Some fd) = line_amended count fd.line.kind fd.line

  -- amending: 19, 20, then by the last standing line
  unfoldable pub amend_outcome : ℕ → Outcome
  amend_outcome count =
      if not (is_held held) then refuse R.HeldNotCanonical else
      if ledger_malformed ledger lines then refuse R.LedgerMalformed else
      last_amended count (last_standing any_line 0 (lines_of lines ledger))
