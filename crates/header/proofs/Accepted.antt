-- Bounds on what an accepted header says.
-- Assumes nothing.
use Rattle.lists.specs.Chain.{on_some}
use Rattle.header.specs.declared.Lead.{Lead}
use Rattle.refusal.specs.declared.Refusal.{Refusal}
use Rattle.layout.specs.declared.EntryWidth.{EntryWidth}
use mathlib.Core.Path.{◌≡◌, refl, ◌∙◌}
use mathlib.Core.Bool.{Bool, true, false, not, ◌&&◌}
use mathlib.Core.List.{List}
use Prim.Native.Nat.{ℕ, ◌+◌, ◌*◌, ◌≤◌}
use native.Mathlib.Omega.{arith}
use lib.ListN.{length, take}
use lib.Seq.{length-take-le}
use lib.Dec.{leb, ltb, eqb}
use borrow.Author.Tests.{leb-true, ltb-false, not-false}
use Rattle.std.specs.Prelude.{if◌then◌else◌, Err, None, Ok, Option, Result, Some, ℕ}
use Rattle.lists.proofs.Tests.{and-true-left, and-true-right}
use Rattle.layout.specs.declared.Width.{Width}
use Rattle.layout.specs.declared.Underflows.{Underflows}
use Rattle.layout.specs.declared.Underflows.TheVariants as U
use Rattle.layout.specs.declared.Tables.{Tables}
use Rattle.layout.specs.declared.Tables.TheVariants as T
use Rattle.layout.specs.declared.Header.{Header}
use Rattle.layout.specs.Form.{width_from, entry_from}
use Rattle.field.specs.Fields.{number_field, version_field}
use Rattle.header_lines.specs.declared.LineId.TheVariants as I
use Rattle.header.specs.declared.Format.{Format}
use Rattle.header.specs.declared.Format.TheVariants as F
use Rattle.header.specs.declared.Counts.{Counts}
use Rattle.header.specs.declared.Counts.TheVariants as C
use Rattle.header.specs.declared.Numbers.{Numbers}
use Rattle.header.specs.Steps.{line_number, number_in}
use Rattle.header.specs.Lead.{format_from, is_version, is_multiple, is_blocks, on_lead, lead_numbers, lead_of}
use Rattle.header.specs.Body.{counts_in, widths_in, baseline_in, is_linear}
use Rattle.header.specs.Ranges.{most, is_size, underflows_from, underflows_of, binary_tables, tables_from, header_with, ranged_of}
use Rattle.header.specs.Header.{scaled_of, numbers, body_of, header_of}
use Rattle.header.proofs.Ways.{if-good, number-good, ok-good, some-good, line-good}

-- the header's length
LeadGood : Result Lead Refusal → Type 0
LeadGood (Ok ld) = (5120 ≤ ld.length) × (ld.length ≤ 32768)
LeadGood (Err r) = 0 ≤ 0

none : 0 ≤ 0
none = omega arith

blocks-bounds : (f : Format) (n : ℕ) → is_blocks f n ≡ true → (5120 ≤ n * 512) × (n * 512 ≤ 32768)
blocks-bounds f n t =
    let l = leb-true 10 n (and-true-left (leb 10 n) (leb n 64 && is_multiple f n) t) in
    let h = leb-true n 64 (and-true-left (leb n 64) (is_multiple f n) (and-true-right (leb 10 n) (leb n 64 && is_multiple f n) t)) in
    (omega arith, omega arith)

lead-good : (bytes : List ℕ) → LeadGood (lead_of bytes)
unfolding lead_of lead_numbers LeadGood
lead-good bytes =
    if-good LeadGood (ltb (length bytes) 240) _ _ (λ _. none) (λ _.
    line-good LeadGood bytes I.Format _ _ none (λ format.
    line-good LeadGood bytes I.Version _ _ none (λ version.
    line-good LeadGood bytes I.Hdrblks _ _ none (λ blocks.
    number-good LeadGood (line_number I.Format (number_field format 0)) _ _ (λ r _. none) (λ f _.
    some-good LeadGood (format_from f) _ _ none (λ listed.
    number-good LeadGood (line_number I.Version (version_field version 0)) _ _ (λ r _. none) (λ v _.
    if-good LeadGood (not (is_version v)) _ _ (λ _. none) (λ _.
    number-good LeadGood (line_number I.Hdrblks (number_field blocks 0)) _ _ (λ r _. none) (λ b _.
    if-good LeadGood (is_blocks listed b) _ _ (λ t. blocks-bounds listed b t) (λ _. none))))))))))

-- the baseline
unfoldable pub BaselineGood : Underflows → Type 0
BaselineGood U.Unused = 0 ≤ 0
BaselineGood (U.NoWidth b) = b ≤ 65535
BaselineGood (U.Counted e n b) = b ≤ 65535

unfoldable pub TablesGood : Tables → Type 0
unfolding BaselineGood
TablesGood (T.Format86 n) = 0 ≤ 0
TablesGood (T.Format100 t) = BaselineGood t.underflows

UnderflowsGood : Option Underflows → Type 0
UnderflowsGood (Some u) = BaselineGood u
UnderflowsGood None = 0 ≤ 0

entry-good : (s : Option EntryWidth) (n b : ℕ) → b ≤ 65535 → UnderflowsGood (on_some s None (λ entry. Some (U.Counted entry n b)))
unfolding UnderflowsGood BaselineGood
entry-good (Some e) n b h = h
entry-good None n b h = none

underflows-good : (u : Option ℕ) (width baseline : ℕ) → UnderflowsGood (underflows_of u width baseline)
unfolding UnderflowsGood BaselineGood underflows_from
underflows-good None width baseline = if-good UnderflowsGood (leb width 2) _ _ (λ _. none) (λ _. none)
underflows-good (Some n) width baseline =
    if-good UnderflowsGood (not (leb baseline 65535)) _ _ (λ _. none) (λ e.
    let h = leb-true baseline 65535 (not-false (leb baseline 65535) e) in
    if-good UnderflowsGood (eqb width 0) _ _ (λ _. if-good UnderflowsGood (eqb n 0) _ _ (λ _. h) (λ _. none)) (λ _.
    entry-good (entry_from width) n baseline h))

ListedGood : Option Tables → Type 0
ListedGood (Some t) = TablesGood t
ListedGood None = 0 ≤ 0

listed-good : (s : Option Underflows) (two four : ℕ) → UnderflowsGood s → ListedGood (on_some s None (λ listed. Some (T.Format100 (binary_tables listed two four))))
unfolding ListedGood TablesGood UnderflowsGood
listed-good (Some u) two four h = h
listed-good None two four h = none

tables-good : (k : Counts) (width baseline : ℕ) → ListedGood (tables_from k width baseline)
unfolding ListedGood TablesGood
tables-good (C.Format86 n) width baseline = none
tables-good (C.Format100 u two four) width baseline = listed-good (underflows_of u width baseline) two four (underflows-good u width baseline)

-- What an accepted header of n bytes says.
pub record Bounds (n : ℕ) (h : Header) : Type 0 where
  pub start : h.image.start ≡ n
  pub rows-low : 1 ≤ h.image.rows
  pub rows-high : h.image.rows ≤ 4096
  pub columns-low : 1 ≤ h.image.columns
  pub columns-high : h.image.columns ≤ 4096
  pub baseline : TablesGood h.tables

HeaderGood : ℕ → Result Header Refusal → Type 0
HeaderGood n (Ok h) = Bounds n h
HeaderGood n (Err r) = 0 ≤ 0

size-good : (f : Format) (n : ℕ) → is_size f n ≡ true → (1 ≤ n) × (n ≤ 4096)
size-good f n t = (leb-true 1 n (and-true-left (leb 1 n) (leb n (most f)) t), small f (leb-true n (most f) (and-true-right (leb 1 n) (leb n (most f)) t)))
  where
    small : (f : Format) → n ≤ most f → n ≤ 4096
    small F.Format86 h = omega arith
    small F.Format100 h = omega arith

with-tables : (n : ℕ) (k : Numbers) (w : Width) (s : Option Tables) → (1 ≤ k.rows) × (k.rows ≤ 4096) → (1 ≤ k.columns) × (k.columns ≤ 4096) → ListedGood s → (refusal : Result Header Refusal) → HeaderGood n refusal
    → HeaderGood n (on_some s refusal (λ tables. Ok (header_with n k w tables)))
unfolding HeaderGood ListedGood
with-tables n k w (Some t) r c g refusal q = record { start = refl; rows-low = r.0; rows-high = r.1; columns-low = c.0; columns-high = c.1; baseline = g }
with-tables n k w None r c g refusal q = q

ranged-good : (f : Format) (n : ℕ) (k : Numbers) → HeaderGood n (ranged_of f n k)
unfolding ranged_of HeaderGood
ranged-good f n k =
    if-good (HeaderGood n) (not (is_size f k.rows)) _ _ (λ _. none) (λ r.
    if-good (HeaderGood n) (not (is_size f k.columns)) _ _ (λ _. none) (λ c.
    some-good (HeaderGood n) (width_from k.widths.pixel) _ _ none (λ w.
    with-tables n k w (tables_from k.counts k.widths.underflow k.baseline) (size-good f k.rows (not-false (is_size f k.rows) r)) (size-good f k.columns (not-false (is_size f k.columns) c)) (tables-good k.counts k.widths.underflow k.baseline) _ none)))

scaled-good : (n : ℕ) (s : Result Header Refusal) (linear : Bool) → HeaderGood n s → HeaderGood n (scaled_of s linear)
unfolding HeaderGood
scaled-good n (Ok h) true g = g
scaled-good n (Ok h) false g = none
scaled-good n (Err r) linear g = none

body-good : (f : Format) (header : List ℕ) → HeaderGood (length header) (body_of f header)
unfolding body_of HeaderGood
body-good f header =
    let G = HeaderGood (length header) in
    ok-good G (counts_in f header) _ _ (λ r _. none) (λ k.
    ok-good G (widths_in f header) _ _ (λ r _. none) (λ w.
    ok-good G (number_in I.Nrows header) _ _ (λ r _. none) (λ rows.
    ok-good G (number_in I.Ncols header) _ _ (λ r _. none) (λ columns.
    line-good G header I.Linear _ _ none (λ linear.
    ok-good G (baseline_in k header) _ _ (λ r _. none) (λ baseline.
    scaled-good (length header) (ranged_of f (length header) (numbers k w rows columns baseline)) (is_linear linear) (ranged-good f (length header) (numbers k w rows columns baseline))))))))

-- What an accepted header says, and where its image starts in the bytes.
pub record AcceptedBounds (bytes : List ℕ) (h : Header) : Type 0 where
  pub start-low : 5120 ≤ h.image.start
  pub start-high : h.image.start ≤ 32768
  pub inside : h.image.start ≤ length bytes
  pub rows-low : 1 ≤ h.image.rows
  pub rows-high : h.image.rows ≤ 4096
  pub columns-low : 1 ≤ h.image.columns
  pub columns-high : h.image.columns ≤ 4096
  pub baseline : TablesGood h.tables

AnswerGood : List ℕ → Result Header Refusal → Type 0
AnswerGood bytes (Ok h) = AcceptedBounds bytes h
AnswerGood bytes (Err r) = 0 ≤ 0

at-start : (bytes : List ℕ) (n : ℕ) (s : Result Header Refusal) → (5120 ≤ n) × (n ≤ 32768) → n ≤ length bytes → HeaderGood n s → AnswerGood bytes s
unfolding AnswerGood HeaderGood
at-start bytes n (Ok h) b i g = record {
  start-low = rw g.start b.0;
  start-high = rw g.start b.1;
  inside = rw g.start i;
  rows-low = g.rows-low;
  rows-high = g.rows-high;
  columns-low = g.columns-low;
  columns-high = g.columns-high;
  baseline = g.baseline;
}
at-start bytes n (Err r) b i g = none

after-lead : (bytes : List ℕ) (s : Result Lead Refusal) → LeadGood s
    → (up : Result Header Refusal) → AnswerGood bytes up
    → AnswerGood bytes (on_lead s Err (λ format end. if◌then◌else◌ (ltb (length bytes) end) up (body_of format (take end bytes))))
unfolding AnswerGood LeadGood
after-lead bytes (Ok ld) g up q =
    if-good (AnswerGood bytes) (ltb (length bytes) ld.length) _ _ (λ _. q) (λ e.
    let h = ltb-false (length bytes) ld.length e in
    at-start bytes ld.length (body_of ld.format (take ld.length bytes)) g h (rw (length-take-le ld.length bytes h) at (body-good ld.format (take ld.length bytes))))
after-lead bytes (Err r) g up q = none

answer-good : (bytes : List ℕ) → AnswerGood bytes (header_of bytes)
unfolding header_of AnswerGood
answer-good bytes = after-lead bytes (lead_of bytes) (lead-good bytes) _ none

pub accepted-bounds : (bytes : List ℕ) (h : Header) → header_of bytes ≡ Ok h → AcceptedBounds bytes h
unfolding AnswerGood
accepted-bounds bytes h e = rw e at (answer-good bytes)
