-- Request A9: what a d*TREK file's header and image say, as plain numbers: the C interface's answers.
use Rattle.layout.specs.declared.Frame.{Frame}
use Rattle.std.specs.Prelude.{ℕ, Err, Ok, Result}
use Rattle.refusal.specs.declared.Refusal.{Refusal}
use Rattle.refusal.specs.Codes.{refusal_number}
use Rattle.layout.specs.Form.{width_bytes}
use Rattle.layout.specs.Layout.{image_end}
use Rattle.byte_order.specs.declared.ByteOrder.{ByteOrder}
use Rattle.byte_order.specs.declared.ByteOrder.TheVariants as O
use Rattle.answers.specs.declared.ReadResult.{ReadResult}
use Rattle.dtrek_header.specs.declared.DtrekHeader.{DtrekHeader}
use Rattle.dtrek_report.specs.declared.DtrekHeaderReport.{DtrekHeaderReport}

abbrev pub big_endian : ByteOrder → ℕ
big_endian O.Little = 0
big_endian O.Big = 1

abbrev pub report_accepted : DtrekHeader → DtrekHeaderReport
report_accepted h = record {
  refusal = 0;
  start = h.image.start;
  rows = h.image.rows;
  columns = h.image.columns;
  width = width_bytes h.image.width;
  big_endian = big_endian h.order;
  end = image_end h.image;
}

-- every field but the refusal is 0
abbrev pub report_refused : Refusal → DtrekHeaderReport
report_refused r =
    record { refusal = refusal_number r; start = 0; rows = 0; columns = 0; width = 0; big_endian = 0; end = 0 }

abbrev pub dtrek_report : Result DtrekHeader Refusal → DtrekHeaderReport
dtrek_report (Ok h) = report_accepted h
dtrek_report (Err r) = report_refused r
