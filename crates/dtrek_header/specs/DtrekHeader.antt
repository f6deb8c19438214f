-- Request A9: what a d*TREK header says, for any bytes. Refusals 32, 1, 33, 34 and 35 in this order.
use Rattle.std.specs.Prelude.{ℕ, ◌≤◌, List, not, length, ltb, if◌then◌else◌, Err, None, Ok, Option, Result, Some}
use Rattle.dtrek_text.specs.Bytes.{between}
use Rattle.dtrek_text.specs.Items.{Item, items}
use Rattle.dtrek_items.specs.Survey.{is_malformed}
use Rattle.dtrek_header.specs.declared.DtrekHeader.{DtrekHeader}
use Rattle.refusal.specs.declared.Refusal.{Refusal}
use Rattle.refusal.specs.declared.Refusal.TheVariants as R
use Rattle.dtrek_header.specs.Length.{header_length}
use Rattle.dtrek_header.specs.Contents.{required, supported, header_of}

-- 34 and then 35
unfoldable pub contents_in : ℕ → List Item → Result DtrekHeader Refusal
contents_in n is =
    if not (required is) then Err R.BadContent else
    if not (supported is) then Err R.UnsupportedData else
    Ok (header_of n is)

-- 33 first: a header of n bytes, of which the text is all behind the opening brace
unfoldable pub header_in : ℕ → List ℕ → Result DtrekHeader Refusal
header_in n text =
    if is_malformed text then Err R.BadSyntax else
    contents_in n (items text)

abbrev pub header_by : List ℕ → Option ℕ → Result DtrekHeader Refusal
header_by bytes None = Err R.BadHeaderStart
header_by bytes (Some n) =
    if ltb (length bytes) n then Err R.HeaderTruncated else
    header_in n (between 1 n bytes)

unfoldable pub dtrek_header : List ℕ → Result DtrekHeader Refusal
unfolding header_in
dtrek_header bytes = header_by bytes (header_length bytes)

-- how large the numbers of an accepted header are
pub record Bounded (h : DtrekHeader) : Type 0 where
  pub start : h.image.start ≤ 99840
  pub rows : h.image.rows ≤ 4096
  pub columns : h.image.columns ≤ 4096
