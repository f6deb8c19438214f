-- What the ledger's bytes are, beside the reference model: its lines, and the bytes behind them.
use Rattle.std.specs.Prelude.{ℕ, ◌*◌, length, get_or, drop}
use mathlib.Core.List.{List, [], ◌∷◌, ◌++◌}
use Rattle.ledger.specs.declared.Line.{Line}
use Rattle.ledger.specs.Lines.{lines_bytes}
use Rattle.ledger.specs.Standing.{standing}
use Rattle.ledger.specs.Ledger.{keep_line}
use Rattle.compaction.specs.Compact.{behind_standing}
use Rattle.archive.specs.Calls.{correction_line, withdrawal_line}
use Rattle.model.specs.Model.{Call, correct, keep, withdraw, amend, compact, may_purge, Answer, accepted, refused, Entry, corrected, kept, Model, Opening, pixels_with, model_pixels, model_step}

-- the lines in their order, and every byte behind the last of them
pub record Ledger : Type 0 where
  pub lines : List Line
  pub behind : List ℕ

unfoldable pub ledger_bytes : Ledger → List ℕ
unfolding lines_bytes
ledger_bytes g = lines_bytes g.lines ++ g.behind

-- at first no line is used, and the bytes may be any
abbrev pub empty_ledger : List ℕ → Ledger
empty_ledger t = record { lines = []; behind = t }

-- lines appended: the earlier ones stay, and each takes 16 of the bytes behind
abbrev pub appended : Ledger → List Line → Ledger
appended g ls = record { lines = g.lines ++ ls; behind = drop (length ls * 16) g.behind }

-- compaction: the standing lines alone, with a 0 for each byte of the others
abbrev pub only_standing : Ledger → Ledger
only_standing g = record { lines = standing g.lines; behind = behind_standing g.lines g.behind }

module _ (o : Opening) where
  -- the two lines of amending: the old count is that of the pixels without the entry taken back
  abbrev pub amend_lines : ℕ → List Entry → List Line
  amend_lines count [] = []
  amend_lines count (kept d ∷ es) = []
  amend_lines count (corrected pixel old ∷ es) =
      withdrawal_line ∷ correction_line pixel (get_or (pixels_with o.pixels es) pixel 0) count ∷ []

  -- the ledger after an accepted call: the lines of "The ledger" appended, the model's count as the old one; a purge question leaves it
  abbrev pub ledger_by : Model → Call → Ledger → Ledger
  ledger_by m (correct pixel count) g = appended g (correction_line pixel (get_or (model_pixels o m) pixel 0) count ∷ [])
  ledger_by m (keep d) g = appended g (keep_line d ∷ [])
  ledger_by m withdraw g = appended g (withdrawal_line ∷ [])
  ledger_by m (amend count) g = appended g (amend_lines count m.stack)
  ledger_by m compact g = only_standing g
  ledger_by m (may_purge day) g = g

  -- a refused call leaves every byte
  abbrev pub ledger_after : Answer → Model → Call → Ledger → Ledger
  ledger_after accepted m c g = ledger_by m c g
  ledger_after (refused r) m c g = g

  -- the ledger after the calls of a list, in their order
  unfoldable pub ledger_run : List Call → Model → Ledger → Ledger
  unfolding model_step
  ledger_run [] m g = g
  ledger_run (c ∷ cs) m g = ledger_run cs (model_step o c m).state (ledger_after (model_step o c m).reply.answer m c g)
