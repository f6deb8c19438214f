-- A survey from the last line to the first. No public contract cites this file.
use Rattle.ledger.specs.Standing.{line_found}
use Rattle.ledger.specs.declared.Found.{Found}
use Rattle.std.specs.Prelude.{ℕ, ◌+◌, ◌-◌, List, ltb, if◌then◌else◌, None, Option, Some}
use Rattle.std.specs.Option.{option_or}
use Rattle.ledger.specs.declared.Line.{Line}
use Rattle.ledger.specs.declared.Sought.{Sought}
use Rattle.ledger.specs.declared.Scan.{Scan}
use Rattle.ledger.specs.Lines.{line_of, bytes_at}
use Rattle.ledger.specs.Standing.{withdraws}
use Rattle.ledger.specs.Ledger.{is_sought}

-- One line further back: skip is how many of the lines before are cancelled by those passed, the rest what is known of those passed.
unfoldable pub scan_back : Scan → ℕ → Line → Sought → Scan
scan_back s index l sought =
    if withdraws l then record { skip = s.skip + 1; count = s.count; last = s.last; sought = s.sought } else
    if ltb 0 s.skip then record { skip = s.skip - 1; count = s.count; last = s.last; sought = s.sought } else
    record {
      skip = 0;
      count = s.count + 1;
      last = option_or s.last (Some index);
      sought = if is_sought sought l then option_or s.sought (Some index) else s.sought;
    }

abbrev pub found_by : ℕ → Option Line → Option Found
found_by index (Some l) = Some (line_found index l)
found_by index None = None

-- the line that was noted
unfoldable pub found_at : List ℕ → Option ℕ → Option Found
unfolding line_of
found_at t None = None
found_at t (Some index) = found_by index (line_of (bytes_at t index))
