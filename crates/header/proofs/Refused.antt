-- A header's refusals are 1 to 9.
-- Assumes nothing.
use Rattle.refusal.specs.declared.Refusal.TheVariants.{BadField}
use Rattle.header_lines.specs.Lines.{position_of}
use Rattle.lists.specs.Chain.{on_some}
use Rattle.field.specs.declared.Cursor.{Cursor}
use Rattle.field.specs.declared.Field.{Field}
use Rattle.header.specs.declared.Lead.{Lead}
use Rattle.std.specs.Prelude.{Err, None, Ok, Option, Result, Some, ℕ}
use Rattle.header.specs.declared.Widths.{Widths}
use Rattle.layout.specs.declared.Header.{Header}
use mathlib.Core.Path.{◌≡◌, refl}
use mathlib.Core.Bool.{Bool, true, false, not}
use mathlib.Core.List.{List}
use Prim.Native.Nat.{ℕ, ◌≤◌}
use native.Mathlib.Omega.{arith}
use lib.ListN.{length, take}
use lib.Dec.{ltb}
use Rattle.refusal.specs.declared.Refusal.{Refusal}
use Rattle.refusal.specs.Codes.{refusal_number}
use Rattle.layout.specs.declared.Tables.{Tables}
use Rattle.layout.specs.Form.{width_from}
use Rattle.field.specs.Fields.{number_field, version_field, count_field, field_from}
use Rattle.header_lines.specs.declared.LineId.{LineId}
use Rattle.header_lines.specs.declared.LineId.TheVariants as I
use Rattle.header.specs.declared.Format.{Format}
use Rattle.header.specs.declared.Format.TheVariants as F
use Rattle.header.specs.declared.Counts.{Counts}
use Rattle.header.specs.declared.Counts.TheVariants as C
use Rattle.header.specs.declared.Numbers.{Numbers}
use Rattle.header.specs.Steps.{line_number, value_of, number_in}
use Rattle.header.specs.Lead.{format_from, is_version, is_blocks, on_lead, lead_numbers, lead_of}
use Rattle.header.specs.Body.{on_field, counts86, counts100, binary_counts, after_underflows, counts_for, counts_in, widths86, widths100, widths_for, widths_in, baseline_text, baseline_of, baseline_in, is_linear}
use Rattle.header.specs.Ranges.{is_size, tables_from, ranged_of}
use Rattle.header.specs.Header.{scaled_of, numbers, body_of, header_of}
use Rattle.header.proofs.Ways.{if-good, number-good, ok-good, some-good, line-good}

abbrev Low : Refusal → Type 0
Low r = refusal_number r ≤ 9

number-low : (id : LineId) (s : Option (ℕ × Cursor)) (r : Refusal) → line_number id s ≡ Err r → Low r
number-low id (Some (n, k)) r e = absurd (let z : ◌≡◌ {A = ℕ} 0 1 = cc in omega arith)
number-low id None r e = let q : BadField (position_of id) ≡ r = cc in rw (← q) (omega arith)

-- an answer's refusal, if it is one
AnswerLow : {A : Type 0} → Result A Refusal → Type 0
AnswerLow (Ok a) = 0 ≤ 0
AnswerLow (Err r) = Low r

lead_low : (bytes : List ℕ) → AnswerLow (lead_of bytes)
unfolding lead_of lead_numbers AnswerLow
lead_low bytes =
    if-good AnswerLow (ltb (length bytes) 240) _ _ (λ _. omega arith) (λ _.
    line-good AnswerLow bytes I.Format _ _ (omega arith) (λ format.
    line-good AnswerLow bytes I.Version _ _ (omega arith) (λ version.
    line-good AnswerLow bytes I.Hdrblks _ _ (omega arith) (λ blocks.
    number-good AnswerLow (line_number I.Format (number_field format 0)) _ _ (number-low I.Format (number_field format 0)) (λ f _.
    some-good AnswerLow (format_from f) _ _ (omega arith) (λ listed.
    number-good AnswerLow (line_number I.Version (version_field version 0)) _ _ (number-low I.Version (version_field version 0)) (λ v _.
    if-good AnswerLow (not (is_version v)) _ _ (λ _. omega arith) (λ _.
    number-good AnswerLow (line_number I.Hdrblks (number_field blocks 0)) _ _ (number-low I.Hdrblks (number_field blocks 0)) (λ b _.
    if-good AnswerLow (is_blocks listed b) _ _ (λ _. omega arith) (λ _. omega arith))))))))))

binary-low : (text : List ℕ) (after : ℕ) (u : Option ℕ) → AnswerLow (binary_counts text after u)
unfolding binary_counts AnswerLow
binary-low text after u =
    number-good AnswerLow (line_number I.Noverfl (number_field text after)) _ _ (number-low I.Noverfl (number_field text after)) (λ two next.
    number-good AnswerLow (line_number I.Noverfl (number_field text next.at)) _ _ (number-low I.Noverfl (number_field text next.at)) (λ four _. omega arith))

after-low : (text : List ℕ) (s : Option (Option ℕ × Cursor)) → AnswerLow (after_underflows text s)
unfolding AnswerLow
after-low text (Some (Some n, next)) = binary-low text next.at (Some n)
after-low text (Some (None, next)) = binary-low text next.at None
after-low text None = omega arith

counts-for : (f : Format) (text : List ℕ) → AnswerLow (counts_for f text)
unfolding counts86 counts100 AnswerLow
counts-for F.Format86 text = number-good AnswerLow (line_number I.Noverfl (number_field text 0)) _ _ (number-low I.Noverfl (number_field text 0)) (λ n _. omega arith)
counts-for F.Format100 text = after-low text (count_field text 0)

counts-low : (f : Format) (header : List ℕ) → AnswerLow (counts_in f header)
unfolding counts_in AnswerLow
counts-low f header = line-good AnswerLow header I.Noverfl _ _ (omega arith) (λ text. counts-for f text)

widths-for : (f : Format) (text : List ℕ) → AnswerLow (widths_for f text)
unfolding widths86 widths100 AnswerLow
widths-for F.Format86 text = number-good AnswerLow (line_number I.Npixelb (number_field text 0)) _ _ (number-low I.Npixelb (number_field text 0)) (λ n _. omega arith)
widths-for F.Format100 text =
    number-good AnswerLow (line_number I.Npixelb (number_field text 0)) _ _ (number-low I.Npixelb (number_field text 0)) (λ pixel next.
    number-good AnswerLow (line_number I.Npixelb (number_field text next.at)) _ _ (number-low I.Npixelb (number_field text next.at)) (λ under _. omega arith))

widths-low : (f : Format) (header : List ℕ) → AnswerLow (widths_in f header)
unfolding widths_in AnswerLow
widths-low f header = line-good AnswerLow header I.Npixelb _ _ (omega arith) (λ text. widths-for f text)

value-of : (id : LineId) (s : Option (ℕ × Cursor)) → AnswerLow (value_of (line_number id s))
unfolding AnswerLow
value-of id (Some (n, k)) = omega arith
value-of id None = omega arith

number-in : (id : LineId) (header : List ℕ) → AnswerLow (number_in id header)
unfolding number_in AnswerLow
number-in id header = line-good AnswerLow header id _ _ (omega arith) (λ text. value-of id (number_field text 0))

field-low : (s : Option Field) (go : ℕ → Result ℕ Refusal) (missing : Result ℕ Refusal) → AnswerLow missing → ((n : ℕ) → AnswerLow (go n)) → AnswerLow (on_field s missing go)
field-low (Some fl) go missing p q = q fl.next.at
field-low None go missing p q = p

baseline-of : (header : List ℕ) → AnswerLow (baseline_of header)
unfolding baseline_of baseline_text AnswerLow
baseline-of header =
    line-good AnswerLow header I.Nexp _ _ (omega arith) (λ text.
    field-low (field_from text 0) _ _ (omega arith) (λ second.
    field-low (field_from text second) _ _ (omega arith) (λ third. value-of I.Nexp (number_field text third))))

baseline-in : (k : Counts) (header : List ℕ) → AnswerLow (baseline_in k header)
unfolding AnswerLow
baseline-in (C.Format86 n) header = omega arith
baseline-in (C.Format100 None two four) header = omega arith
baseline-in (C.Format100 (Some n) two four) header = baseline-of header

ranged-low : (f : Format) (n : ℕ) (k : Numbers) → AnswerLow (ranged_of f n k)
unfolding ranged_of AnswerLow
ranged-low f n k =
    if-good AnswerLow (not (is_size f k.rows)) _ _ (λ _. omega arith) (λ _.
    if-good AnswerLow (not (is_size f k.columns)) _ _ (λ _. omega arith) (λ _.
    some-good AnswerLow (width_from k.widths.pixel) _ _ (omega arith) (λ w.
    some-good AnswerLow (tables_from k.counts k.widths.underflow k.baseline) _ _ (omega arith) (λ t. omega arith))))

scaled-low : (s : Result Header Refusal) (linear : Bool) → AnswerLow s → AnswerLow (scaled_of s linear)
unfolding AnswerLow
scaled-low (Ok h) true g = g
scaled-low (Ok h) false g = omega arith
scaled-low (Err r) linear g = g

on-lead : (s : Result Lead Refusal) (go : Format → ℕ → Result Header Refusal) → AnswerLow s → ((f : Format) (n : ℕ) → AnswerLow (go f n)) → AnswerLow (on_lead s Err go)
unfolding AnswerLow
on-lead (Ok ld) go l q = q ld.format ld.length
on-lead (Err r) go l q = l

answer-refused : {A : Type 0} (v : Result A Refusal) → AnswerLow v → (r : Refusal) → v ≡ Err r → Low r
unfolding AnswerLow
answer-refused v l r e = rw e at l

body-low : (f : Format) (header : List ℕ) → AnswerLow (body_of f header)
unfolding body_of AnswerLow
body-low f header =
    ok-good AnswerLow (counts_in f header) _ _ (answer-refused _ (counts-low f header)) (λ k.
    ok-good AnswerLow (widths_in f header) _ _ (answer-refused _ (widths-low f header)) (λ w.
    ok-good AnswerLow (number_in I.Nrows header) _ _ (answer-refused _ (number-in I.Nrows header)) (λ rows.
    ok-good AnswerLow (number_in I.Ncols header) _ _ (answer-refused _ (number-in I.Ncols header)) (λ columns.
    line-good AnswerLow header I.Linear _ _ (omega arith) (λ linear.
    ok-good AnswerLow (baseline_in k header) _ _ (answer-refused _ (baseline-in k header)) (λ baseline.
    scaled-low (ranged_of f (length header) (numbers k w rows columns baseline)) (is_linear linear) (ranged-low f (length header) (numbers k w rows columns baseline))))))))

answer-low : (bytes : List ℕ) → AnswerLow (header_of bytes)
unfolding header_of AnswerLow
answer-low bytes =
    on-lead (lead_of bytes) _ (lead_low bytes) (λ f n. if-good AnswerLow (ltb (length bytes) n) _ _ (λ _. omega arith) (λ _. body-low f (take n bytes)))

pub header-low : (bytes : List ℕ) (r : Refusal) → header_of bytes ≡ Err r → refusal_number r ≤ 9
unfolding AnswerLow
header-low bytes r e = rw e at (answer-low bytes)
