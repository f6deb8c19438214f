-- Request A8, compaction: a ledger of its standing lines alone.
use Rattle.refusal.specs.declared.Refusal.{Refusal}
use Rattle.std.specs.Prelude.{ℕ, ◌-◌, ◌*◌, List, ◌++◌, length, drop, if◌then◌else◌, Err, Ok, Result}
use Rattle.lists.specs.Bytes.{zeros}
use Rattle.refusal.specs.declared.Refusal.TheVariants as R
use Rattle.ledger.specs.declared.Line.{Line}
use Rattle.ledger.specs.Lines.{lines_of, lines_bytes}
use Rattle.ledger.specs.Standing.{standing}
use Rattle.ledger.specs.Ledger.{ledger_malformed}

-- what is behind the standing lines of some lines: a 0 for each byte of the lines that go, and the bytes behind them all
abbrev pub behind_standing : List Line → List ℕ → List ℕ
behind_standing ls behind = zeros ((length ls - length (standing ls)) * 16) ++ behind

-- the bytes of a ledger of these lines, with these bytes behind them, once it is compacted: the standing lines in their order come first
unfoldable pub compacted : List Line → List ℕ → List ℕ
unfolding lines_bytes standing
compacted ls behind = lines_bytes (standing ls) ++ behind_standing ls behind

-- the answer: 20; otherwise how many lines stand
unfoldable pub compact_answer : List ℕ → ℕ → Result ℕ Refusal
unfolding ledger_malformed lines_of standing
compact_answer t lines =
    if ledger_malformed t lines then Err R.LedgerMalformed else
    Ok (length (standing (lines_of lines t)))

-- the bytes after it; a refused one leaves every byte
unfoldable pub compact_bytes : List ℕ → ℕ → List ℕ
unfolding ledger_malformed lines_of compacted
compact_bytes t lines = if ledger_malformed t lines then t else compacted (lines_of lines t) (drop (lines * 16) t)
