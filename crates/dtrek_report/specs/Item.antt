-- Request A9: where an item of a d*TREK header stands in the file, read on from a place.
use Rattle.std.specs.Prelude.{ℕ, suc, ◌+◌, List, length, take, ltb, if◌then◌else◌, None, Option, Some}
use Rattle.refusal.specs.declared.Refusal.{Refusal}
use Rattle.refusal.specs.declared.Refusal.TheVariants as R
use Rattle.refusal.specs.Codes.{refusal_number}
use Rattle.numeral.specs.Runs.{leading}
use Rattle.dtrek_text.specs.declared.Scanned.{Scanned}
use Rattle.dtrek_text.specs.declared.Scanned.TheVariants as I
use Rattle.dtrek_text.specs.Bytes.{is_white, between, trimmed}
use Rattle.dtrek_text.specs.Scan.{item_from}
use Rattle.dtrek_header.specs.Length.{header_length}
use Rattle.dtrek_report.specs.declared.DtrekItemReport.{DtrekItemReport}

-- a value without the white space around it, of an item with its equals sign at `end` and its semicolon at `stop`
abbrev pub value_start : List ℕ → ℕ → ℕ → ℕ
value_start header end stop = suc end + leading is_white (between (suc end) stop header)

abbrev pub value_end : List ℕ → ℕ → ℕ → ℕ
value_end header end stop = value_start header end stop + length (trimmed (between (suc end) stop header))

abbrev pub item_refused : Refusal → DtrekItemReport
item_refused r = record {
  refusal = refusal_number r;
  found = 0;
  key_start = 0;
  key_end = 0;
  value_start = 0;
  value_end = 0;
  next = 0;
}

abbrev pub no_item : DtrekItemReport
no_item =
    record { refusal = 0; found = 0; key_start = 0; key_end = 0; value_start = 0; value_end = 0; next = 0 }

-- where keyword and value stand; 33 where a semicolon ends what is no item; not found where no semicolon follows
abbrev pub item_scanned : List ℕ → Scanned → DtrekItemReport
item_scanned header (I.Found start end stop next) = record {
  refusal = 0;
  found = 1;
  key_start = start;
  key_end = end;
  value_start = value_start header end stop;
  value_end = value_end header end stop;
  next = next.at;
}
item_scanned header I.Bad = item_refused R.BadSyntax
item_scanned header I.Last = no_item

abbrev pub item_by : List ℕ → ℕ → Option ℕ → DtrekItemReport
item_by bytes at None = item_refused R.BadHeaderStart
item_by bytes at (Some n) =
    if ltb (length bytes) n then item_refused R.HeaderTruncated else
    item_scanned (take n bytes) (item_from (take n bytes) at)

-- 32 and 1 as in reading, then the item from `at` on
unfoldable pub dtrek_item : List ℕ → ℕ → DtrekItemReport
unfolding item_from header_length
dtrek_item bytes at = item_by bytes at (header_length bytes)
