-- The two lines that the writer rewrites are read as the counts and the widths of the frame.
-- Assumes nothing.
use Rattle.std.specs.Prelude.{None, Ok, Option, Some}
use mathlib.Core.Path.{◌≡◌, refl, ap, ◌∙◌}
use mathlib.Core.Bool.{true, false}
use mathlib.Core.List.{List, ◌∷◌, ◌++◌, append_assoc}
use Prim.Native.Nat.{ℕ, suc, ◌+◌, ◌-◌, ◌≤◌, ◌<◌}
use native.Mathlib.Omega.{arith}
use lib.ListN.{length, drop, length-append, length-replicate}
use Rattle.lists.specs.Text.{codes}
use Rattle.lists.specs.Digits.{decimal}
use Rattle.layout.specs.declared.EntryWidth.TheVariants as E
use Rattle.layout.specs.declared.Width.{Width}
use Rattle.layout.specs.declared.Width.TheVariants as W
use Rattle.layout.specs.declared.Underflow.{Underflow}
use Rattle.layout.specs.declared.Underflow.TheVariants as U
use Rattle.layout.specs.declared.Form.{Form}
use Rattle.layout.specs.Form.{width_bytes, underflow_bytes}
use Rattle.numeral.specs.Numerals.{number_of, is_minus_one}
use Rattle.header.specs.declared.Counts.TheVariants as K
use Rattle.header.specs.Body.{counts100, binary_counts, widths100, widths}
use Rattle.expand.specs.Steps.{Stored}
use Rattle.header_text.specs.Text.{spaces, cell, underflow_text, npixelb_data}
use Rattle.writer.specs.Frame.{noverfl_data}
use Rattle.readback.proofs.Cells.{Solid, number-decimal, solid-decimal, decimal-some, decimal-length, decimal-plain, number_read, count-read, minus-read, from_end}

-- one less than the spaces of a cell
abbrev gap : List ℕ → ℕ
gap s = 23 - length s

cell-is : (s : List ℕ) → length s ≤ 10 → cell s ≡ s ++ spaces (suc (gap s))
unfolding cell
cell-is s h = let e : 24 - length s ≡ suc (23 - length s) = omega arith in rw e

pub length-cell : (s : List ℕ) → length s ≤ 10 → length (cell s) ≡ 24
unfolding cell
length-cell s h = rw (length-append, length-replicate) (omega arith)

noverfl-is : (form : Form) (s : Stored)
    → noverfl_data form s ≡ cell (underflow_text form.underflow (length s.under)) ++ (cell (decimal (length s.two)) ++ cell (decimal (length s.four)))
unfolding noverfl_data
noverfl-is form s = refl

npixelb-is : (form : Form) → npixelb_data form ≡ cell (decimal (width_bytes form.width)) ++ (cell (decimal (underflow_bytes form.underflow)) ++ spaces 24)
unfolding npixelb_data
npixelb-is form = refl

pixel-small : (w : Width) → width_bytes w < 4294967296
pixel-small W.One = omega arith
pixel-small W.Two = omega arith
pixel-small W.Four = omega arith

under-small : (u : Underflow) → underflow_bytes u < 4294967296
under-small U.None = omega arith
under-small (U.Subtracted E.One) = omega arith
under-small (U.Subtracted E.Two) = omega arith

text-length : (u : Underflow) (n : ℕ) → length (underflow_text u n) ≤ 10
text-length U.None n = omega arith
text-length (U.Subtracted e) n = decimal-length n

-- a text with at least one character, none of them a space
record Word (s : List ℕ) : Type 0 where
  solid : Solid s
  some : 1 ≤ length s

word-decimal : (n : ℕ) → Word (decimal n)
word-decimal n = record { solid = solid-decimal n; some = decimal-some n }

-- two words, each with spaces behind it, and then others
module _ (a b tail : List ℕ) (i j : ℕ) (wa : Word a) (wb : Word b) where
  abbrev line : List ℕ
  line = (a ++ spaces (suc i)) ++ ((b ++ spaces (suc j)) ++ tail)

  abbrev second : ℕ
  second = 0 + 0 + length a

  abbrev third : ℕ
  third = second + suc i + length b

  at_first : drop 0 line ≡ spaces 0 ++ (a ++ (32 ∷ (spaces i ++ ((b ++ spaces (suc j)) ++ tail))))
  at_first = append_assoc a (spaces (suc i)) _

  at_second : drop second line ≡ spaces (suc i) ++ (b ++ (32 ∷ (spaces j ++ tail)))
  at_second = from_end line 0 0 a _ wa.solid wa.some at_first ∙ ap (λ (l : List ℕ). spaces (suc i) ++ l) (append_assoc b (spaces (suc j)) _)

  at-third : drop third line ≡ spaces (suc j) ++ tail
  at-third = from_end line second (suc i) b _ wb.solid wb.some at_second

  widths-line : (pixel underflow : ℕ) → number_of a ≡ Some pixel → number_of b ≡ Some underflow → widths100 line ≡ Ok (widths pixel underflow)
  unfolding widths100
  widths-line pixel underflow p q =
      rw (
        number_read line 0 0 a _ wa.solid wa.some at_first pixel p,
        number_read line second (suc i) b _ wb.solid wb.some at_second underflow q,
      )

-- three words, each with spaces behind it
module _ (a b c : List ℕ) (i j k : ℕ) (wa : Word a) (wb : Word b) (wc : Word c) (two four : ℕ) (tb : number_of b ≡ Some two) (tc : number_of c ≡ Some four) where
  abbrev text : List ℕ
  text = line a b (c ++ spaces (suc k)) i j wa wb

  binary-read : (u : Option ℕ) → binary_counts text (0 + 0 + length a) u ≡ Ok (K.Format100 u two four)
  unfolding binary_counts
  binary-read u =
      rw (
        number_read text (0 + 0 + length a) (suc i) b _ wb.solid wb.some (at_second a b (c ++ spaces (suc k)) i j wa wb) two tb,
        number_read text (0 + 0 + length a + suc i + length b) (suc j) c _ wc.solid wc.some (at-third a b (c ++ spaces (suc k)) i j wa wb) four tc,
      )

  counted : (n : ℕ) → is_minus_one a ≡ false → number_of a ≡ Some n → counts100 text ≡ Ok (K.Format100 (Some n) two four)
  unfolding counts100
  counted n m e = rw (count-read text 0 0 a _ wa.solid wa.some (at_first a b (c ++ spaces (suc k)) i j wa wb) n m e) (binary-read (Some n))

  unused : is_minus_one a ≡ true → counts100 text ≡ Ok (K.Format100 None two four)
  unfolding counts100
  unused m = rw (minus-read text 0 0 a _ wa.solid wa.some (at_first a b (c ++ spaces (suc k)) i j wa wb) m) (binary-read None)

-- the first number of NOVERFL for a kind
abbrev pub count_for : Underflow → ℕ → Option ℕ
count_for U.None n = None
count_for (U.Subtracted e) n = Some n

minus-word : Word (codes "-1")
minus-word = record { solid = ((λ e. omega arith), ((λ e. omega arith), tt)); some = omega arith }

minus_is : is_minus_one (codes "-1") ≡ true
unfolding is_minus_one
minus_is = refl

first_read : (u : Underflow) (n two four : ℕ) → n < 4294967296 → two < 4294967296 → four < 4294967296
    → counts100 (cell (underflow_text u n) ++ (cell (decimal two) ++ cell (decimal four))) ≡ Ok (K.Format100 (count_for u n) two four)
first_read U.None n two four hn ht hf =
    rw (cell-is (codes "-1") (omega arith), cell-is (decimal two) (decimal-length two), cell-is (decimal four) (decimal-length four))
    (unused (codes "-1") (decimal two) (decimal four) (gap (codes "-1")) (gap (decimal two)) (gap (decimal four)) minus-word (word-decimal two) (word-decimal four) two four (number-decimal two ht) (number-decimal four hf) minus_is)
first_read (U.Subtracted e) n two four hn ht hf =
    rw (cell-is (decimal n) (decimal-length n), cell-is (decimal two) (decimal-length two), cell-is (decimal four) (decimal-length four))
    (counted (decimal n) (decimal two) (decimal four) (gap (decimal n)) (gap (decimal two)) (gap (decimal four)) (word-decimal n) (word-decimal two) (word-decimal four) two four (number-decimal two ht) (number-decimal four hf)
    n (decimal-plain n) (number-decimal n hn))

-- NOVERFL as it is written
pub counts-read : (form : Form) (s : Stored) → length s.under < 4294967296 → length s.two < 4294967296 → length s.four < 4294967296
    → counts100 (noverfl_data form s) ≡ Ok (K.Format100 (count_for form.underflow (length s.under)) (length s.two) (length s.four))
counts-read form s hu ht hf = ap counts100 (noverfl-is form s) ∙ first_read form.underflow (length s.under) (length s.two) (length s.four) hu ht hf

-- NPIXELB as it is written
pub widths-read : (form : Form) → widths100 (npixelb_data form) ≡ Ok (widths (width_bytes form.width) (underflow_bytes form.underflow))
widths-read form =
    let p : ℕ = width_bytes form.width in
    let u : ℕ = underflow_bytes form.underflow in
    rw (npixelb-is form, cell-is (decimal p) (decimal-length p), cell-is (decimal u) (decimal-length u))
    (widths-line (decimal p) (decimal u) (spaces 24) (gap (decimal p)) (gap (decimal u)) (word-decimal p) (word-decimal u) p u
    (number-decimal p (pixel-small form.width)) (number-decimal u (under-small form.underflow)))

pub length-noverfl : (form : Form) (s : Stored) → length (noverfl_data form s) ≡ 72
length-noverfl form s =
    rw (
      noverfl-is form s,
      length-append,
      length-append,
      length-cell (underflow_text form.underflow (length s.under)) (text-length form.underflow (length s.under)),
      length-cell (decimal (length s.two)) (decimal-length (length s.two)),
      length-cell (decimal (length s.four)) (decimal-length (length s.four)),
    )

pub length-npixelb : (form : Form) → length (npixelb_data form) ≡ 72
length-npixelb form =
    rw (
      npixelb-is form,
      length-append,
      length-append,
      length-cell (decimal (width_bytes form.width)) (decimal-length (width_bytes form.width)),
      length-cell (decimal (underflow_bytes form.underflow)) (decimal-length (underflow_bytes form.underflow)),
    )
