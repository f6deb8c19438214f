-- Document 01: refusal 8, and the header's numbers where it is not due.
use Rattle.lists.specs.Chain.{on_some}
use Rattle.refusal.specs.declared.Refusal.{Refusal}
use Rattle.std.specs.Prelude.{ℕ, Bool, not, ◌&&◌, eqb, leb, if◌then◌else◌, Err, None, Ok, Option, Result, Some}
use Rattle.refusal.specs.declared.Refusal.TheVariants.{OutOfRange}
use Rattle.layout.specs.declared.Width.{Width}
use Rattle.layout.specs.declared.EntryWidth.{EntryWidth}
use Rattle.layout.specs.declared.Image.{Image}
use Rattle.layout.specs.declared.Underflows.{Underflows}
use Rattle.layout.specs.declared.Underflows.TheVariants as U
use Rattle.layout.specs.declared.BinaryTables.{BinaryTables}
use Rattle.layout.specs.declared.Tables.{Tables}
use Rattle.layout.specs.declared.Tables.TheVariants as T
use Rattle.layout.specs.declared.Header.{Header}
use Rattle.layout.specs.Form.{width_from, entry_from}
use Rattle.header.specs.declared.Format.{Format}
use Rattle.header.specs.declared.Format.TheVariants as F
use Rattle.header.specs.declared.Counts.{Counts}
use Rattle.header.specs.declared.Counts.TheVariants as C
use Rattle.header.specs.declared.Numbers.{Numbers}

-- NROWS and NCOLS: 1 to 4096; for FORMAT 86 1 to 2048
abbrev pub most : Format → ℕ
most F.Format86 = 2048
most F.Format100 = 4096

abbrev pub is_size : Format → ℕ → Bool
is_size format n = leb 1 n && leb n (most format)

-- an underflow count: the baseline is 0 to 65535, the width 1 or 2, or 0 with a count of 0
unfoldable pub underflows_from : ℕ → ℕ → ℕ → Option Underflows
underflows_from count width baseline =
    if not (leb baseline 65535) then None else
    if eqb width 0 then (if eqb count 0 then Some (U.NoWidth baseline) else None) else
    on_some (entry_from width) None (λ entry. Some (U.Counted entry count baseline))

-- a count of -1: the width is 0, 1 or 2 all the same
abbrev pub unused_from : ℕ → Option Underflows
unused_from width = if leb width 2 then Some U.Unused else None

abbrev pub underflows_of : Option ℕ → ℕ → ℕ → Option Underflows
underflows_of None width baseline = unused_from width
underflows_of (Some n) width baseline = underflows_from n width baseline

abbrev pub binary_tables : Underflows → ℕ → ℕ → BinaryTables
binary_tables u two four = record { underflows = u; two = two; four = four }

abbrev pub tables_from : Counts → ℕ → ℕ → Option Tables
tables_from (C.Format86 n) width baseline = Some (T.Format86 n)
tables_from (C.Format100 u two four) width baseline =
    on_some (underflows_of u width baseline) None (λ listed. Some (T.Format100 (binary_tables listed two four)))

abbrev pub header_with : ℕ → Numbers → Width → Tables → Header
header_with length numbers width tables =
    record {
      image = record { start = length; rows = numbers.rows; columns = numbers.columns; width = width };
      tables = tables;
    }

-- 8: rows, columns, either width or the baseline outside the list, or underflow width 0 with a count above 0
unfoldable pub ranged_of : Format → ℕ → Numbers → Result Header Refusal
ranged_of format length numbers =
    if not (is_size format numbers.rows) then Err OutOfRange else
    if not (is_size format numbers.columns) then Err OutOfRange else
    on_some (width_from numbers.widths.pixel) (Err OutOfRange) (λ width.
    on_some (tables_from numbers.counts numbers.widths.underflow numbers.baseline) (Err OutOfRange) (λ tables.
    Ok (header_with length numbers width tables)))
