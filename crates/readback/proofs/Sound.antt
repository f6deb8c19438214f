-- What holds of the lines of a header that is accepted as one of FORMAT 100.
-- Assumes nothing.
use Rattle.lists.specs.Chain.{on_ok, on_some}
use Rattle.header.specs.Lead.{lead_read}
use Rattle.header.specs.declared.Lead.{Lead}
use Rattle.layout.specs.declared.EntryWidth.{EntryWidth}
use mathlib.Core.Path.{◌≡◌, refl, sym, ap, subst, ◌∙◌}
use mathlib.Core.Bool.{Bool, true, false, not, ◌&&◌}
use mathlib.Core.List.{List}
use Prim.Native.Nat.{ℕ, ◌+◌, ◌*◌, ◌≤◌}
use native.Mathlib.Omega.{arith}
use borrow.Author.Tests.{leb-true, ltb-false}
use lib.Dec.{eqb, leb, ltb}
use lib.ListN.{length, take, drop}
use lib.Seq.{length-take-le}
use Rattle.std.specs.Prelude.{if◌then◌else◌, Err, None, Ok, Option, Result, Some, ℕ}
use Rattle.lists.proofs.Tests.{and-true-left}
use Rattle.refusal.specs.declared.Refusal.{Refusal}
use Rattle.refusal.specs.declared.Refusal.TheVariants as R
use Rattle.layout.specs.declared.Width.{Width}
use Rattle.layout.specs.declared.Underflows.{Underflows}
use Rattle.layout.specs.declared.Underflows.TheVariants as U
use Rattle.layout.specs.declared.BinaryTables.{BinaryTables}
use Rattle.layout.specs.declared.Tables.{Tables}
use Rattle.layout.specs.declared.Tables.TheVariants as T
use Rattle.layout.specs.declared.Header.{Header}
use Rattle.layout.specs.Form.{width_from, entry_from}
use Rattle.field.specs.declared.Cursor.{Cursor}
use Rattle.field.specs.Fields.{number_field, version_field}
use Rattle.header_lines.specs.declared.LineId.{LineId}
use Rattle.header_lines.specs.declared.LineId.TheVariants as I
use Rattle.header_lines.specs.Lines.{line_of, position_of, starts_with, place_in, place_of, data_at, on_line}
use Rattle.header.specs.declared.Format.{Format}
use Rattle.header.specs.declared.Format.TheVariants as F
use Rattle.header.specs.declared.Counts.{Counts}
use Rattle.header.specs.declared.Counts.TheVariants as C
use Rattle.header.specs.declared.Widths.{Widths}
use Rattle.header.specs.declared.Numbers.{Numbers}
use Rattle.header.specs.Steps.{line_number, on_number, number_in}
use Rattle.header.specs.Lead.{format_from, is_version, is_multiple, is_blocks, on_lead, lead_numbers, lead_of}
use Rattle.header.specs.Body.{counts86, counts_for, counts_in, widths_for, widths_in, baseline_of, baseline_in, is_linear}
use Rattle.header.specs.Ranges.{is_size, underflows_from, unused_from, underflows_of, binary_tables, tables_from, header_with, ranged_of}
use Rattle.header.specs.Header.{scaled_of, numbers, body_of, header_of}

-- an answer of one kind is not one of another
apart : {r : Refusal} {h : Header} → Err r ≡ Ok h → ⊥
apart e = let z : ◌≡◌ {A = ℕ} 0 1 = cc in omega arith

-- the baseline of the tables is line 79's
abbrev pub Based : List ℕ → Underflows → Type 0
Based header U.Unused = Unit {0}
Based header (U.NoWidth b) = (baseline_of header ≡ Ok b) × (b ≤ 65535)
Based header (U.Counted e n b) = (baseline_of header ≡ Ok b) × (b ≤ 65535)

pub record Sound (header : List ℕ) (h : Header) : Type 0 where
  pub start : h.image.start ≡ length header
  pub noverfl : place_of header I.Noverfl ≡ Some 1608
  pub npixelb : place_of header I.Npixelb ≡ Some 3128
  pub rows : number_in I.Nrows header ≡ Ok h.image.rows
  pub columns : number_in I.Ncols header ≡ Ok h.image.columns
  pub linear : on_line header I.Linear false is_linear ≡ true
  pub rows-size : is_size F.Format100 h.image.rows ≡ true
  pub columns-size : is_size F.Format100 h.image.columns ≡ true
  pub based : (t : BinaryTables) → h.tables ≡ T.Format100 t → Based header t.underflows

-- each step of reading was passed
module _ {P : Type 0} (h : Header) where
  on-counts : (a : Result Counts Refusal) (go : Counts → Result Header Refusal) → on_ok a Err go ≡ Ok h → ((c : Counts) → a ≡ Ok c → go c ≡ Ok h → P) → P
  on-counts (Ok c) go e k = k c refl e
  on-counts (Err r) go e k = absurd (apart e)

  on-widths : (a : Result Widths Refusal) (go : Widths → Result Header Refusal) → on_ok a Err go ≡ Ok h → ((w : Widths) → a ≡ Ok w → go w ≡ Ok h → P) → P
  on-widths (Ok w) go e k = k w refl e
  on-widths (Err r) go e k = absurd (apart e)

  on-value : (a : Result ℕ Refusal) (go : ℕ → Result Header Refusal) → on_ok a Err go ≡ Ok h → ((n : ℕ) → a ≡ Ok n → go n ≡ Ok h → P) → P
  on-value (Ok n) go e k = k n refl e
  on-value (Err r) go e k = absurd (apart e)

  on-data : (header : List ℕ) (p : Option ℕ) (go : List ℕ → Result Header Refusal) → data_at header p (Err R.BadLine) go ≡ Ok h
      → ((start : ℕ) → p ≡ Some start → go (take 72 (drop start header)) ≡ Ok h → P) → P
  on-data header (Some start) go e k = k start refl e
  on-data header None go e k = absurd (apart e)

  on-scaled : (a : Result Header Refusal) (linear : Bool) → scaled_of a linear ≡ Ok h → (linear ≡ true → a ≡ Ok h → P) → P
  on-scaled (Ok g) true e k = k refl e
  on-scaled (Ok g) false e k = absurd (apart e)
  on-scaled (Err r) linear e k = absurd (apart e)

  on-choice : (t : Bool) (r : Refusal) (a : Result Header Refusal) → if◌then◌else◌ (not t) (Err r) a ≡ Ok h → (t ≡ true → a ≡ Ok h → P) → P
  on-choice true r a e k = k refl e
  on-choice false r a e k = absurd (apart e)

  on-width : (a : Option Width) (go : Width → Result Header Refusal) → on_some a (Err R.OutOfRange) go ≡ Ok h → ((w : Width) → go w ≡ Ok h → P) → P
  on-width (Some w) go e k = k w e
  on-width None go e k = absurd (apart e)

  on-tables : (a : Option Tables) (go : Tables → Result Header Refusal) → on_some a (Err R.OutOfRange) go ≡ Ok h → ((t : Tables) → a ≡ Some t → go t ≡ Ok h → P) → P
  on-tables (Some t) go e k = k t refl e
  on-tables None go e k = absurd (apart e)

-- refusal 8 is not due
pub record Ranged (format : Format) (length : ℕ) (n : Numbers) (h : Header) : Type 0 where
  pub start_is : h.image.start ≡ length
  pub rows_is : h.image.rows ≡ n.rows
  pub columns-is : h.image.columns ≡ n.columns
  pub rows_in : is_size format n.rows ≡ true
  pub columns-in : is_size format n.columns ≡ true
  pub listed : tables_from n.counts n.widths.underflow n.baseline ≡ Some h.tables

ranged : (format : Format) (length : ℕ) (n : Numbers) (h : Header) → ranged_of format length n ≡ Ok h → Ranged format length n h
unfolding ranged_of
ranged format length n h e =
    on-choice h (is_size format n.rows) R.OutOfRange _ e (λ r e₁.
    on-choice h (is_size format n.columns) R.OutOfRange _ e₁ (λ c e₂.
    on-width h (width_from n.widths.pixel) _ e₂ (λ w e₃.
    on-tables h (tables_from n.counts n.widths.underflow n.baseline) _ e₃ (λ t l e₄.
    let q : header_with length n w t ≡ h = cc in
    record {
      start_is = sym (ap (λ (g : Header). g.image.start) q);
      rows_is = sym (ap (λ (g : Header). g.image.rows) q);
      columns-is = sym (ap (λ (g : Header). g.image.columns) q);
      rows_in = r;
      columns-in = c;
      listed = l ∙ ap (λ (g : Header). Some g.tables) q;
    }))))

-- where a line stands
place_at : (header : List ℕ) (id : LineId) (start : ℕ) → place_of header id ≡ Some start → place_of header id ≡ Some (position_of id * 80 + 8)
unfolding place_in
place_at header id start e =
    go (leb (position_of id * 80 + 80) (length header) && starts_with (line_of id).name (drop (position_of id * 80) header)) (position_of id * 80 + 8) e
  where
    go : (t : Bool) (p : ℕ) → if◌then◌else◌ t (Some p) None ≡ Some start → if◌then◌else◌ t (Some p) None ≡ Some p
    go true p q = refl
    go false p q = let z : ◌≡◌ {A = ℕ} 0 1 = cc in absurd (omega arith)

counts-place : (header : List ℕ) (f : Format) (c : Counts) → counts_in f header ≡ Ok c → place_of header I.Noverfl ≡ Some 1608
unfolding counts_in line_of
counts-place header f c e = go (place_of header I.Noverfl) refl e
  where
    go : (p : Option ℕ) → place_of header I.Noverfl ≡ p → data_at header p (Err R.BadLine) (λ text. counts_for f text) ≡ Ok c → place_of header I.Noverfl ≡ Some 1608
    go (Some start) q r = place_at header I.Noverfl start q
    go None q r = let z : ◌≡◌ {A = ℕ} 0 1 = cc in absurd (omega arith)

widths-place : (header : List ℕ) (f : Format) (w : Widths) → widths_in f header ≡ Ok w → place_of header I.Npixelb ≡ Some 3128
unfolding widths_in line_of
widths-place header f w e = go (place_of header I.Npixelb) refl e
  where
    go : (p : Option ℕ) → place_of header I.Npixelb ≡ p → data_at header p (Err R.BadLine) (λ text. widths_for f text) ≡ Ok w → place_of header I.Npixelb ≡ Some 3128
    go (Some start) q r = place_at header I.Npixelb start q
    go None q r = let z : ◌≡◌ {A = ℕ} 0 1 = cc in absurd (omega arith)

-- the tables' baseline
unlisted : {l : Underflows} → None ≡ Some l → ⊥
unlisted e = let z : ◌≡◌ {A = ℕ} 0 1 = cc in omega arith

underflows-based : (header : List ℕ) (n width baseline : ℕ) (l : Underflows) → underflows_from n width baseline ≡ Some l → baseline_of header ≡ Ok baseline → Based header l
unfolding underflows_from
underflows-based header n width baseline l e r = low (leb baseline 65535) refl e
  where
    entry : (a : Option EntryWidth) → baseline ≤ 65535 → on_some a None (λ e. Some (U.Counted e n baseline)) ≡ Some l → Based header l
    entry (Some e) h q = let z : U.Counted e n baseline ≡ l = cc in subst (Based header) z (r, h)
    entry None h q = absurd (unlisted q)

    none : (t : Bool) → baseline ≤ 65535 → if◌then◌else◌ t (Some (U.NoWidth baseline)) None ≡ Some l → Based header l
    none true h q = let z : U.NoWidth baseline ≡ l = cc in subst (Based header) z (r, h)
    none false h q = absurd (unlisted q)

    zero? : (t : Bool) → baseline ≤ 65535
        → if◌then◌else◌ t (if◌then◌else◌ (eqb n 0) (Some (U.NoWidth baseline)) None) (on_some (entry_from width) None (λ e. Some (U.Counted e n baseline))) ≡ Some l
        → Based header l
    zero? true h q = none (eqb n 0) h q
    zero? false h q = entry (entry_from width) h q

    low : (t : Bool) → leb baseline 65535 ≡ t
        → if◌then◌else◌ (not t) None
        (if◌then◌else◌ (eqb width 0) (if◌then◌else◌ (eqb n 0) (Some (U.NoWidth baseline)) None)
        (on_some (entry_from width) None (λ e. Some (U.Counted e n baseline)))) ≡ Some l
        → Based header l
    low true h q = zero? (eqb width 0) (leb-true baseline 65535 h) q
    low false h q = absurd (unlisted q)

unused-based : (header : List ℕ) (width : ℕ) (l : Underflows) → unused_from width ≡ Some l → Based header l
unused-based header width l e = go (leb width 2) e
  where
    go : (t : Bool) → if◌then◌else◌ t (Some U.Unused) None ≡ Some l → Based header l
    go true q = let z : U.Unused ≡ l = cc in subst (Based header) z tt
    go false q = absurd (unlisted q)

count-based : (header : List ℕ) (u : Option ℕ) (two four width baseline : ℕ) (l : Underflows)
    → underflows_of u width baseline ≡ Some l → baseline_in (C.Format100 u two four) header ≡ Ok baseline → Based header l
count-based header None two four width baseline l e r = unused-based header width l e
count-based header (Some n) two four width baseline l e r = underflows-based header n width baseline l e r

tables-based : (header : List ℕ) (c : Counts) (width baseline : ℕ) (t : BinaryTables)
    → tables_from c width baseline ≡ Some (T.Format100 t) → baseline_in c header ≡ Ok baseline → Based header t.underflows
tables-based header (C.Format86 n) width baseline t e r = let z : ◌≡◌ {A = ℕ} 0 1 = cc in absurd (omega arith)
tables-based header (C.Format100 u two four) width baseline t e r = go (underflows_of u width baseline) refl e
  where
    go : (a : Option Underflows) → underflows_of u width baseline ≡ a
        → on_some a None (λ listed. Some (T.Format100 (binary_tables listed two four))) ≡ Some (T.Format100 t) → Based header t.underflows
    go (Some l) q p =
        let z : binary_tables l two four ≡ t = cc in
        subst (λ (b : BinaryTables). Based header b.underflows) z (count-based header u two four width baseline l q r)
    go None q p = let z : ◌≡◌ {A = ℕ} 0 1 = cc in absurd (omega arith)

-- FORMAT 86 has no such tables
only86 : (header : List ℕ) (c : Counts) (width baseline : ℕ) (t : BinaryTables)
    → counts_in F.Format86 header ≡ Ok c → tables_from c width baseline ≡ Some (T.Format100 t) → ⊥
unfolding counts_in counts86
only86 header c width baseline t e q = place (place_of header I.Noverfl) e
  where
    step : (a : Result (ℕ × Cursor) Refusal) → on_number a Err (λ n _. Ok (C.Format86 n)) ≡ Ok c → ⊥
    step (Ok (n, next)) p =
        let w : C.Format86 n ≡ c = cc in
        let z : Some (T.Format86 n) ≡ Some (T.Format100 t) = ap (λ (d : Counts). tables_from d width baseline) w ∙ q in
        let y : ◌≡◌ {A = ℕ} 0 1 = cc in omega arith
    step (Err r) p = let z : ◌≡◌ {A = ℕ} 0 1 = cc in omega arith

    place : (p : Option ℕ) → data_at header p (Err R.BadLine) (λ text. counts86 text) ≡ Ok c → ⊥
    place (Some start) p = step (line_number I.Noverfl (number_field (take 72 (drop start header)) 0)) p
    place None p = let z : ◌≡◌ {A = ℕ} 0 1 = cc in omega arith

linear-at : (header : List ℕ) (p : Option ℕ) (start : ℕ) → p ≡ Some start → is_linear (take 72 (drop start header)) ≡ true → data_at header p false is_linear ≡ true
linear-at header p start e l = rw e l

-- an accepted header with the tables of FORMAT 100
pub sound : (f : Format) (header : List ℕ) (h : Header) (t : BinaryTables) → body_of f header ≡ Ok h → h.tables ≡ T.Format100 t → (f ≡ F.Format100) × Sound header h
unfolding body_of
sound f header h t e ht =
    on-counts h (counts_in f header) _ e (λ c c-is e₁.
    on-widths h (widths_in f header) _ e₁ (λ w w-is e₂.
    on-value h (number_in I.Nrows header) _ e₂ (λ rows rows_is e₃.
    on-value h (number_in I.Ncols header) _ e₃ (λ columns columns-is e₄.
    on-data h header (place_of header I.Linear) _ e₄ (λ start start_is e₅.
    on-value h (baseline_in c header) _ e₅ (λ baseline baseline-is e₆.
    on-scaled h (ranged_of f (length header) (numbers c w rows columns baseline)) (is_linear (take 72 (drop start header))) e₆ (λ linear e₇.
    let g = ranged f (length header) (numbers c w rows columns baseline) h e₇ in
    let l : tables_from c w.underflow baseline ≡ Some (T.Format100 t) = g.listed ∙ ap Some ht in
    let format : f ≡ F.Format100 = is100 f c w.underflow baseline c-is l in (
      format,
      record {
        start = g.start_is;
        noverfl = counts-place header f c c-is;
        npixelb = widths-place header f w w-is;
        rows = rows_is ∙ ap Ok (sym g.rows_is);
        columns = columns-is ∙ ap Ok (sym g.columns-is);
        linear = linear-at header (place_of header I.Linear) start start_is linear;
        rows-size = ap (λ (n : ℕ). is_size F.Format100 n) g.rows_is ∙ ap (λ (x : Format). is_size x rows) (sym format) ∙ g.rows_in;
        columns-size = ap (λ (n : ℕ). is_size F.Format100 n) g.columns-is ∙ ap (λ (x : Format). is_size x columns) (sym format) ∙ g.columns-in;
        based = λ u q. tables-based header c w.underflow baseline u (g.listed ∙ ap Some q) baseline-is;
      },
    ))))))))
  where
    is100 : (f : Format) (c : Counts) (width baseline : ℕ) → counts_in f header ≡ Ok c → tables_from c width baseline ≡ Some (T.Format100 t) → f ≡ F.Format100
    is100 F.Format86 c width baseline p q = absurd (only86 header c width baseline t p q)
    is100 F.Format100 c width baseline p q = refl

-- lines 0 to 2: a header has at least ten blocks of 512 bytes
no_lead : {r : Refusal} {f : Format} {n : ℕ} → Err r ≡ Ok (lead_read f n) → ⊥
no_lead e = let z : ◌≡◌ {A = ℕ} 0 1 = cc in omega arith

module _ {P : Type 0} (f : Format) (end : ℕ) where
  lead-number : (a : Result (ℕ × Cursor) Refusal) (go : ℕ → Cursor → Result Lead Refusal) → on_number a Err go ≡ Ok (lead_read f end) → ((n : ℕ) (c : Cursor) → go n c ≡ Ok (lead_read f end) → P) → P
  lead-number (Ok (n, next)) go e k = k n next e
  lead-number (Err r) go e k = absurd (no_lead e)

  lead-format : (a : Option Format) (go : Format → Result Lead Refusal) → on_some a (Err R.UnknownFormat) go ≡ Ok (lead_read f end) → ((g : Format) → go g ≡ Ok (lead_read f end) → P) → P
  lead-format (Some g) go e k = k g e
  lead-format None go e k = absurd (no_lead e)

  lead-choice : (t : Bool) (r : Refusal) (a : Result Lead Refusal) → if◌then◌else◌ (not t) (Err r) a ≡ Ok (lead_read f end) → (a ≡ Ok (lead_read f end) → P) → P
  lead-choice true r a e k = k e
  lead-choice false r a e k = absurd (no_lead e)

  lead-last : (t : Bool) (a : Result Lead Refusal) (r : Refusal) → if◌then◌else◌ t a (Err r) ≡ Ok (lead_read f end) → (t ≡ true → a ≡ Ok (lead_read f end) → P) → P
  lead-last true a r e k = k refl e
  lead-last false a r e k = absurd (no_lead e)

  lead-short : (t : Bool) (r : Refusal) (a : Result Lead Refusal) → if◌then◌else◌ t (Err r) a ≡ Ok (lead_read f end) → (a ≡ Ok (lead_read f end) → P) → P
  lead-short true r a e k = absurd (no_lead e)
  lead-short false r a e k = k e

  lead-data : (header : List ℕ) (p : Option ℕ) (go : List ℕ → Result Lead Refusal) → data_at header p (Err R.WrongName) go ≡ Ok (lead_read f end)
      → ((l : List ℕ) → go l ≡ Ok (lead_read f end) → P) → P
  lead-data header (Some start) go e k = k (take 72 (drop start header)) e
  lead-data header None go e k = absurd (no_lead e)

blocks-large : (g : Format) (n : ℕ) → is_blocks g n ≡ true → 10 ≤ n
blocks-large g n t = leb-true 10 n (and-true-left (leb 10 n) (leb n 64 && is_multiple g n) t)

numbers-large : (f : Format) (end : ℕ) (a b c : List ℕ) → lead_numbers a b c ≡ Ok (lead_read f end) → 5120 ≤ end
unfolding lead_numbers
numbers-large f end a b c e =
    lead-number f end (line_number I.Format (number_field a 0)) _ e (λ n _ e₁.
    lead-format f end (format_from n) _ e₁ (λ listed e₂.
    lead-number f end (line_number I.Version (version_field b 0)) _ e₂ (λ v _ e₃.
    lead-choice f end (is_version v) R.UnknownVersion _ e₃ (λ e₄.
    lead-number f end (line_number I.Hdrblks (number_field c 0)) _ e₄ (λ m _ e₅.
    lead-last f end (is_blocks listed m) (Ok (lead_read listed (m * 512))) R.BadHeaderBlocks e₅ (λ t e₆.
    let p : lead_read listed (m * 512) ≡ lead_read f end = cc in
    let q : m * 512 ≡ end = ap (λ (l : Lead). l.length) p in
    omega (arith, blocks-large listed m t)))))))

pub lead-large : (f : Format) (end : ℕ) (bytes : List ℕ) → lead_of bytes ≡ Ok (lead_read f end) → 5120 ≤ end
unfolding lead_of
lead-large f end bytes e =
    lead-short f end (ltb (length bytes) 240) R.HeaderTruncated _ e (λ e₁.
    lead-data f end bytes (place_of bytes I.Format) _ e₁ (λ a e₂.
    lead-data f end bytes (place_of bytes I.Version) _ e₂ (λ b e₃.
    lead-data f end bytes (place_of bytes I.Hdrblks) _ e₃ (λ c e₄.
    numbers-large f end a b c e₄))))

-- a header's image starts where the header ends
pub body-start : (f : Format) (header : List ℕ) (h : Header) → body_of f header ≡ Ok h → h.image.start ≡ length header
unfolding body_of
body-start f header h e =
    on-counts h (counts_in f header) _ e (λ c c-is e₁.
    on-widths h (widths_in f header) _ e₁ (λ w w-is e₂.
    on-value h (number_in I.Nrows header) _ e₂ (λ rows rows_is e₃.
    on-value h (number_in I.Ncols header) _ e₃ (λ columns columns-is e₄.
    on-data h header (place_of header I.Linear) _ e₄ (λ start start_is e₅.
    on-value h (baseline_in c header) _ e₅ (λ baseline baseline-is e₆.
    on-scaled h (ranged_of f (length header) (numbers c w rows columns baseline)) (is_linear (take 72 (drop start header))) e₆ (λ linear e₇.
    (ranged f (length header) (numbers c w rows columns baseline) h e₇).start_is)))))))

-- what holds of bytes that begin with an accepted header of FORMAT 100
pub record Opening (bytes : List ℕ) (h : Header) : Type 0 where
  pub lead : lead_of bytes ≡ Ok (lead_read F.Format100 h.image.start)
  pub large : 5120 ≤ h.image.start
  pub within : h.image.start ≤ length bytes
  pub lines : Sound (take h.image.start bytes) h

pub opening : (bytes : List ℕ) (h : Header) (t : BinaryTables) → header_of bytes ≡ Ok h → h.tables ≡ T.Format100 t → Opening bytes h
unfolding header_of
opening bytes h t e ht = go (lead_of bytes) refl e
  where
    made : (f : Format) (end : ℕ) → lead_of bytes ≡ Ok (lead_read f end) → end ≤ length bytes → body_of f (take end bytes) ≡ Ok h → Opening bytes h
    made f end l r b =
        let s = sound f (take end bytes) h t b ht in
        let n : h.image.start ≡ end = s.1.start ∙ length-take-le end bytes r in
        record {
          lead = l ∙ ap (λ (x : Format). Ok (lead_read x end)) s.0 ∙ ap (λ (m : ℕ). Ok (lead_read F.Format100 m)) (sym n);
          large = omega (arith, lead-large f end bytes l);
          within = omega arith;
          lines = subst (λ (m : ℕ). Sound (take m bytes) h) (sym n) s.1;
        }

    inside : (f : Format) (end : ℕ) → lead_of bytes ≡ Ok (lead_read f end) → (t : Bool) → ltb (length bytes) end ≡ t
        → if◌then◌else◌ t (Err R.HeaderTruncated) (body_of f (take end bytes)) ≡ Ok h → Opening bytes h
    inside f end l true q p = absurd (apart p)
    inside f end l false q p = made f end l (ltb-false (length bytes) end q) p

    go : (a : Result Lead Refusal) → lead_of bytes ≡ a
        → on_lead a Err (λ format end. if◌then◌else◌ (ltb (length bytes) end) (Err R.HeaderTruncated) (body_of format (take end bytes))) ≡ Ok h
        → Opening bytes h
    go (Ok ld) l p = inside ld.format ld.length l (ltb (length bytes) ld.length) refl p
    go (Err r) l p = absurd (apart p)
