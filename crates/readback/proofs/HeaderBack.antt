-- The rewritten header is accepted, and says what was written.
-- Assumes nothing.
use Rattle.lists.specs.Chain.{on_ok}
use Rattle.refusal.specs.declared.Refusal.{Refusal}
use mathlib.Core.Path.{◌≡◌, refl, sym, ap, ◌∙◌}
use mathlib.Core.Bool.{Bool, true, false, not}
use mathlib.Core.List.{List, ◌++◌}
use Prim.Native.Nat.{ℕ, ◌+◌, ◌≤◌, ◌<◌}
use native.Mathlib.Omega.{arith}
use borrow.Author.Tests.{le-leb, le-ltb}
use lib.Dec.{ltb}
use lib.ListN.{length, take, drop, length-append, take-append-drop}
use lib.Seq.{take_at, length-take-le}
use Rattle.std.specs.Prelude.{if◌then◌else◌, Err, None, Ok, Option, Result, Some, ℕ}
use Rattle.refusal.specs.declared.Refusal.TheVariants as R
use Rattle.layout.specs.declared.EntryWidth.{EntryWidth}
use Rattle.layout.specs.declared.EntryWidth.TheVariants as E
use Rattle.layout.specs.declared.Width.{Width}
use Rattle.layout.specs.declared.Width.TheVariants as W
use Rattle.layout.specs.declared.Underflow.{Underflow}
use Rattle.layout.specs.declared.Underflow.TheVariants as U
use Rattle.layout.specs.declared.Form.{Form}
use Rattle.layout.specs.declared.Header.{Header}
use Rattle.layout.specs.Form.{width_bytes, entry_bytes, width_from, entry_from, underflow_bytes}
use Rattle.header_lines.specs.declared.LineId.TheVariants as I
use Rattle.header_lines.specs.Lines.{line_of, place_of, data_at, on_line}
use Rattle.header.specs.declared.Format.TheVariants as F
use Rattle.header.specs.declared.Counts.TheVariants as C
use Rattle.header.specs.Steps.{number_in}
use Rattle.header.specs.Lead.{lead_of}
use Rattle.header.specs.Body.{counts_in, widths, widths_in, baseline_of, baseline_in, is_linear}
use Rattle.header.specs.Ranges.{is_size, underflows_from, underflows_of, ranged_of}
use Rattle.header.specs.Header.{scaled_of, numbers, body_of, header_of}
use Rattle.expand.specs.Steps.{Stored}
use Rattle.writer.specs.Frame.{rewritten}
use Rattle.readback.specs.Written.{underflows_for, header_for}
use Rattle.readback.proofs.Counts.{count_for, counts-read, widths-read}
use Rattle.readback.proofs.Rewriting.{Agree, part_of, rewritten-agree, noverfl-there, npixelb-there}
use Rattle.readback.proofs.SameLines.{same-lead, place-noverfl, place-npixelb, same_back, same_number, same-baseline}
use Rattle.readback.proofs.Sound.{Sound, Opening}

-- the baseline of a form that needs one is line 79's
abbrev pub Known : List ℕ → Underflow → ℕ → Type 0
Known header U.None b = Unit {0}
Known header (U.Subtracted e) b = (baseline_of header ≡ Ok b) × (b ≤ 65535)

-- the baseline that is read of a written frame
abbrev read_base : Underflow → ℕ → ℕ
read_base U.None b = 0
read_base (U.Subtracted e) b = b

width_back : (w : Width) → width_from (width_bytes w) ≡ Some w
unfolding width_from
width_back W.One = refl
width_back W.Two = refl
width_back W.Four = refl

entry-back : (e : EntryWidth) (n b : ℕ) → b ≤ 65535 → underflows_from n (entry_bytes e) b ≡ Some (underflows_for (U.Subtracted e) b n)
unfolding underflows_from entry_from
entry-back E.One n b h = rw (le-leb b 65535 h)
entry-back E.Two n b h = rw (le-leb b 65535 h)

underflows-back : (header : List ℕ) (u : Underflow) (n b : ℕ) → Known header u b → underflows_of (count_for u n) (underflow_bytes u) (read_base u b) ≡ Some (underflows_for u b n)
underflows-back header U.None n b k = refl
underflows-back header (U.Subtracted e) n b k = entry-back e n b k.1

baseline-back : (header : List ℕ) (u : Underflow) (n two four b : ℕ) → Known header u b → baseline_in (C.Format100 (count_for u n) two four) header ≡ Ok (read_base u b)
baseline-back header U.None n two four b k = refl
baseline-back header (U.Subtracted e) n two four b k = k.0

passed : {A : Type 0} (a b : Bool) (x y z : A) → a ≡ true → b ≡ true → if◌then◌else◌ (not a) x (if◌then◌else◌ (not b) y z) ≡ z
passed a b x y z p q = rw (p, q)

ranged-back : (header : List ℕ) (form : Form) (s : Stored) (start rows columns b : ℕ) → is_size F.Format100 rows ≡ true → is_size F.Format100 columns ≡ true → Known header form.underflow b
    → ranged_of F.Format100 start (numbers (C.Format100 (count_for form.underflow (length s.under)) (length s.two) (length s.four))
    (widths (width_bytes form.width) (underflow_bytes form.underflow)) rows columns (read_base form.underflow b))
    ≡ Ok (header_for form start rows columns b s)
unfolding ranged_of
ranged-back header form s start rows columns b hr hc k =
    passed (is_size F.Format100 rows) (is_size F.Format100 columns) _ _ _ hr hc
    ∙ rw (width_back form.width, underflows-back header form.underflow (length s.under) b k)

linear-back : (header : List ℕ) (p : Option ℕ) (wrong : Result Header Refusal) (go : Bool → Result Header Refusal) → data_at header p false is_linear ≡ true
    → data_at header p wrong (λ l. go (is_linear l)) ≡ go true
linear-back header (Some start) wrong go e = ap go e
linear-back header None wrong go e = let z : ◌≡◌ {A = ℕ} 0 1 = cc in absurd (omega arith)

module _ (header : List ℕ) (h : Header) (lines : Sound header h) (long : 3200 ≤ length header) (form : Form) (s : Stored) (b : ℕ)
    (known : Known header form.underflow b)
    (under-small : length s.under < 4294967296) (two-small : length s.two < 4294967296) (four-small : length s.four < 4294967296) where
  abbrev new : List ℕ
  new = rewritten form s header

  agrees : Agree new header
  agrees = rewritten-agree form s header long

  counts-back : counts_in F.Format100 new ≡ Ok (C.Format100 (count_for form.underflow (length s.under)) (length s.two) (length s.four))
  unfolding counts_in
  counts-back =
      rw (place-noverfl new header agrees, lines.noverfl, noverfl-there form s header long) (counts-read form s under-small two-small four-small)

  widths-back : widths_in F.Format100 new ≡ Ok (widths (width_bytes form.width) (underflow_bytes form.underflow))
  unfolding widths_in
  widths-back = rw (place-npixelb new header agrees, lines.npixelb, npixelb-there form s header long) (widths-read form)

  rows_back : number_in I.Nrows new ≡ Ok h.image.rows
  unfolding line_of
  rows_back = same_number new header agrees I.Nrows (omega arith) ∙ lines.rows

  columns-back : number_in I.Ncols new ≡ Ok h.image.columns
  unfolding line_of
  columns-back = same_number new header agrees I.Ncols (omega arith) ∙ lines.columns

  linear-kept : on_line new I.Linear false is_linear ≡ true
  unfolding line_of
  linear-kept = same_back new header agrees I.Linear (omega arith) false is_linear ∙ lines.linear

  known_kept : (u : Underflow) → Known header u b → Known new u b
  known_kept U.None k = tt
  known_kept (U.Subtracted e) k = (same-baseline new header agrees ∙ k.0, k.1)

  pub body_back : body_of F.Format100 new ≡ Ok (header_for form (length header) h.image.rows h.image.columns b s)
  unfolding body_of
  body_back =
      rw (counts-back, widths-back, rows_back, columns-back)
      (linear-back new (place_of new I.Linear) (Err R.BadLine) (λ linear.
      on_ok (baseline_in (C.Format100 (count_for form.underflow (length s.under)) (length s.two) (length s.four)) new) Err (λ baseline.
      scaled_of (ranged_of F.Format100 (length new) (numbers (C.Format100 (count_for form.underflow (length s.under)) (length s.two) (length s.four))
      (widths (width_bytes form.width) (underflow_bytes form.underflow)) h.image.rows h.image.columns baseline)) linear)) linear-kept
      ∙ rw (
        baseline-back new form.underflow (length s.under) (length s.two) (length s.four) b (known_kept form.underflow known),
        agrees.size,
        ranged-back header form s (length header) h.image.rows h.image.columns b lines.rows-size lines.columns-size known,
      ))

-- the bytes of a written frame begin with that header
module _ (given : List ℕ) (h : Header) (o : Opening given h) (form : Form) (s : Stored) (rest : List ℕ) where
  abbrev own : List ℕ
  own = take h.image.start given

  abbrev written : List ℕ
  written = rewritten form s own ++ rest

  pub own-length : length own ≡ h.image.start
  own-length = length-take-le h.image.start given o.within

  pub own-long : 3200 ≤ length own
  own-long = omega (arith, own-length, o.large)

  pub new-length : length (rewritten form s own) ≡ h.image.start
  new-length = (rewritten-agree form s own own-long).size ∙ own-length

  same-front : (k n : ℕ) → k + n ≤ 240 → take n (drop k written) ≡ take n (drop k given)
  same-front k n l =
      part_of (rewritten form s own) rest k n (omega (arith, new-length, o.large))
      ∙ (rewritten-agree form s own own-long).front k n (omega arith)
      ∙ sym (part_of own (drop h.image.start given) k n (omega (arith, own-length, o.large)))
      ∙ ap (λ (l : List ℕ). take n (drop k l)) (take-append-drop h.image.start given)

  lead-back : lead_of written ≡ lead_of given
  lead-back =
      same-lead written given (rw length-append (omega (arith, new-length, o.large))) (omega (arith, o.large, o.within)) same-front

  pub header-back : (b : ℕ) → Known own form.underflow b
      → length s.under < 4294967296 → length s.two < 4294967296 → length s.four < 4294967296
      → header_of written ≡ Ok (header_for form h.image.start h.image.rows h.image.columns b s)
  unfolding header_of
  header-back b known hu ht hf =
      let long : ltb (length written) h.image.start ≡ false = le-ltb (length written) h.image.start (rw length-append (omega (arith, new-length))) in
      rw (lead-back, o.lead, long, take_at (rewritten form s own) rest h.image.start new-length)
      (body_back own h o.lines own-long form s b known hu ht hf
      ∙ ap (λ (n : ℕ). Ok (header_for form n h.image.rows h.image.columns b s)) own-length)
