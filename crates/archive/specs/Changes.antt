-- What correction, withdrawal and amending have in common: the refusals due where the held bytes are no frame or the ledger is full. No public
-- contract cites this file.
use Rattle.canonical.specs.declared.Place.{Place}
use Rattle.canonical.specs.Located.{unlocated}
use Rattle.canonical.specs.declared.Unlocated.{Unlocated}
use Rattle.std.specs.Prelude.{ℕ, ◌+◌, Bool, not, List, [], ◌∷◌, length, get_or, leb, if◌then◌else◌, Err, Ok, None, Option, Result, Some}
use Rattle.refusal.specs.declared.Refusal.{Refusal}
use Rattle.refusal.specs.declared.Refusal.TheVariants as R
use Rattle.ledger.specs.declared.Line.{Line}
use Rattle.ledger.specs.declared.Found.{Found}
use Rattle.ledger.specs.Lines.{lines_of}
use Rattle.ledger.specs.Standing.{last_standing, any_line}
use Rattle.ledger.specs.Ledger.{ledger_full, ledger_malformed}
use Rattle.readback.specs.Held.{held_count, held_pixels, is_held}
use Rattle.replacement.specs.Replace.{meets}
use Rattle.archive.specs.Calls.{Outcome, outcome, correction_line, withdrawal_line, with_lines, refuse, held_as, changed, keep_back}

-- an index of 32 bits; a larger one is as far outside every frame as the largest of these
unfoldable pub within32 : ℕ → ℕ
within32 pixel = if leb pixel 4294967295 then pixel else 4294967295

-- 19 before another refusal
unfoldable pub held_refusal : List ℕ → Refusal → Refusal
held_refusal held r = if not (is_held held) then R.HeldNotCanonical else r

-- where the ledger is full: 19, 24, 23, 21
abbrev pub full_refusal : Option ℕ → Result Place Unlocated → Refusal
full_refusal expected (Err u) = unlocated u
full_refusal expected (Ok place) = if meets expected place.old then R.LedgerFull else R.PixelDiffers

-- a pixel replaced, and then lines appended that may state the old count
abbrev pub replaced_outcome : List ℕ → ℕ → (ℕ → List Line) → List ℕ → Result ℕ Refusal → Outcome
replaced_outcome ledger lines added held (Err r) = outcome (Err r) held ledger
replaced_outcome ledger lines added held (Ok old) =
    outcome (Ok (lines + length (added old))) held (with_lines ledger lines (added old))

module _ (held ledger : List ℕ) (lines : ℕ) where
  -- 19, 24, 23, 21 by the room for the lines, and then the pixel: a correction made, taken back or amended
  unfoldable pub changing : Bool → Option ℕ → ℕ → ℕ → (ℕ → List Line) → Outcome
  changing full expected pixel count added =
      if not (is_held held) then refuse held ledger lines R.HeldNotCanonical else
      if leb (held_count held) pixel then refuse held ledger lines R.NoSuchPixel else
      if not (meets expected (get_or (held_pixels held) pixel 0)) then refuse held ledger lines R.PixelDiffers else
      if full then refuse held ledger lines R.LedgerFull else
      held_as held ledger lines (added (get_or (held_pixels held) pixel 0)) (changed held ledger lines pixel count)

  -- a correction's line taken back, and its pixel corrected anew
  abbrev pub amending : ℕ → Line → Outcome
  amending count l =
      changing (ledger_full ledger (lines + 1)) (Some l.new) l.pixel count (λ (old : ℕ). withdrawal_line ∷ correction_line l.pixel l.old count ∷ [])

  -- 20 and 22, each after 19, or the last standing line
  abbrev pub line_found_last : Option Found → Result Line Refusal
  line_found_last None = Err (held_refusal held R.NothingStands)
  line_found_last (Some fd) = Ok fd.line

  unfoldable pub last_line : Result Line Refusal
  last_line =
      if ledger_malformed ledger lines then Err (held_refusal held R.LedgerMalformed) else
      line_found_last (last_standing any_line 0 (lines_of lines ledger))

  -- 19, 21: a keep line taken back
  unfoldable pub keep_withdrawn : Outcome
  keep_withdrawn = if not (is_held held) then refuse held ledger lines R.HeldNotCanonical else keep_back held ledger lines
