-- Document 01: lines 0, 1 and 2, refusals 1 to 6.
use Rattle.lists.specs.Chain.{on_some}
use Rattle.header.specs.declared.Lead.{Lead}
use Rattle.std.specs.Prelude.{ℕ, ◌*◌, ◌%◌, List, Bool, true, ◌&&◌, not, length, eqb, leb, ltb, if◌then◌else◌, None, Option, Some, Err, Ok, Result}
use Rattle.refusal.specs.declared.Refusal.{Refusal}
use Rattle.refusal.specs.declared.Refusal.TheVariants as R
use Rattle.field.specs.Fields.{number_field, version_field}
use Rattle.header_lines.specs.declared.LineId.TheVariants as I
use Rattle.header_lines.specs.Lines.{on_line}
use Rattle.header.specs.declared.Format.{Format}
use Rattle.header.specs.declared.Format.TheVariants.{Format86, Format100}
use Rattle.header.specs.Steps.{line_number, on_number}

-- FORMAT: 86 or 100
unfoldable pub format_from : ℕ → Option Format
format_from n = if eqb n 86 then Some Format86 else if eqb n 100 then Some Format100 else None

-- VERSION: 1 to 17, not 6
abbrev pub is_version : ℕ → Bool
is_version n = leb 1 n && (leb n 17 && not (eqb n 6))

abbrev pub is_multiple : Format → ℕ → Bool
is_multiple Format86 n = eqb (n % 5) 0
is_multiple Format100 n = true

-- HDRBLKS: 10 to 64; for FORMAT 86 a multiple of 5
abbrev pub is_blocks : Format → ℕ → Bool
is_blocks f n = leb 10 n && (leb n 64 && is_multiple f n)

abbrev pub lead_read : Format → ℕ → Lead
lead_read format length = record { format = format; length = length }

abbrev pub on_lead : {A : Type 0} → Result Lead Refusal → (Refusal → A) → (Format → ℕ → A) → A
on_lead (Ok ld) up go = go ld.format ld.length
on_lead (Err r) up go = up r

-- lines 0, 1 and 2, each 3 and then its own number; a header is HDRBLKS blocks of 512 bytes
unfoldable pub lead_numbers : List ℕ → List ℕ → List ℕ → Result Lead Refusal
lead_numbers format version blocks =
    on_number (line_number I.Format (number_field format 0)) Err (λ f _.
    on_some (format_from f) (Err R.UnknownFormat) (λ listed.
    on_number (line_number I.Version (version_field version 0)) Err (λ v _.
    if not (is_version v) then Err R.UnknownVersion else
    on_number (line_number I.Hdrblks (number_field blocks 0)) Err (λ b _.
    if is_blocks listed b then Ok (lead_read listed (b * 512)) else Err R.BadHeaderBlocks))))

-- 1 and 2 come first
unfoldable pub lead_of : List ℕ → Result Lead Refusal
lead_of bytes =
    if ltb (length bytes) 240 then Err R.HeaderTruncated else
    on_line bytes I.Format (Err R.WrongName) (λ format.
    on_line bytes I.Version (Err R.WrongName) (λ version.
    on_line bytes I.Hdrblks (Err R.WrongName) (λ blocks.
    lead_numbers format version blocks)))
