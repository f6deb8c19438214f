-- What a header says, as plain numbers: the C interface's answer to a question about a header.
use Rattle.layout.specs.declared.Header.{Header}
use Rattle.std.specs.Prelude.{ℕ, Err, Ok, Result}
use Rattle.layout.specs.Form.{width_bytes, entry_bytes}
use Rattle.layout.specs.declared.Image.{Image}
use Rattle.layout.specs.declared.BinaryTables.{BinaryTables}
use Rattle.layout.specs.declared.Underflows.{Underflows}
use Rattle.layout.specs.declared.Underflows.TheVariants as U
use Rattle.layout.specs.declared.Tables.{Tables}
use Rattle.layout.specs.declared.Tables.TheVariants as T
use Rattle.refusal.specs.declared.Refusal.{Refusal}
use Rattle.refusal.specs.Codes.{refusal_number, refusal_place}
use Rattle.header_report.specs.declared.UnderflowReport.{UnderflowReport}
use Rattle.header_report.specs.declared.HeaderReport.{HeaderReport}

-- subtracted is 1 where the underflow count is not -1; entry is 0 where there is no underflow width
abbrev pub underflow_report : Underflows → UnderflowReport
underflow_report U.Unused = record { subtracted = 0; entry = 0; baseline = 0; count = 0 }
underflow_report (U.NoWidth baseline) = record { subtracted = 1; entry = 0; baseline = baseline; count = 0 }
underflow_report (U.Counted e n baseline) = record { subtracted = 1; entry = entry_bytes e; baseline = baseline; count = n }

-- FORMAT 86 has overflow entries and no tables
abbrev pub report86 : Image → ℕ → HeaderReport
report86 i n = record {
  refusal = 0;
  place = 0;
  column = 0;
  format = 86;
  start = i.start;
  rows = i.rows;
  columns = i.columns;
  width = width_bytes i.width;
  entries = n;
  subtracted = 0;
  entry = 0;
  baseline = 0;
  underflows = 0;
  two = 0;
  four = 0;
}

abbrev pub report100 : Image → BinaryTables → HeaderReport
report100 i t = record {
  refusal = 0;
  place = 0;
  column = 0;
  format = 100;
  start = i.start;
  rows = i.rows;
  columns = i.columns;
  width = width_bytes i.width;
  entries = 0;
  subtracted = (underflow_report t.underflows).subtracted;
  entry = (underflow_report t.underflows).entry;
  baseline = (underflow_report t.underflows).baseline;
  underflows = (underflow_report t.underflows).count;
  two = t.two;
  four = t.four;
}

-- a refusal's number and its header line, every other field 0
abbrev pub report_refused : Refusal → HeaderReport
report_refused r = record {
  refusal = refusal_number r;
  place = refusal_place r;
  column = 0;
  format = 0;
  start = 0;
  rows = 0;
  columns = 0;
  width = 0;
  entries = 0;
  subtracted = 0;
  entry = 0;
  baseline = 0;
  underflows = 0;
  two = 0;
  four = 0;
}

abbrev pub report_tables : Image → Tables → HeaderReport
report_tables i (T.Format86 n) = report86 i n
report_tables i (T.Format100 t) = report100 i t

abbrev pub header_report : Result Header Refusal → HeaderReport
header_report (Ok h) = report_tables h.image h.tables
header_report (Err r) = report_refused r
