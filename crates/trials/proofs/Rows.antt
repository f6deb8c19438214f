-- Document 01, "Trials on both sides": the starred cases as rows of one table, under one theorem.
-- Assumes nothing.
use Rattle.std.specs.Prelude.{Err, Ok, Result}
use Rattle.refusal.specs.declared.Refusal.{Refusal}
use mathlib.Core.Path.{◌≡◌, refl}
use mathlib.Core.List.{List, [], ◌∷◌, ◌++◌}
use Prim.Native.Nat.{ℕ}
use Rattle.lists.specs.Bytes.{little, little_bytes, big_from, big_bytes, zeros}
use Rattle.refusal.specs.declared.Refusal.TheVariants as R
use Rattle.layout.specs.declared.Width.{Width}
use Rattle.layout.specs.declared.Width.TheVariants as W
use Rattle.layout.specs.declared.EntryWidth.TheVariants as E
use Rattle.layout.specs.declared.Underflow.{Underflow}
use Rattle.layout.specs.declared.Underflow.TheVariants as U
use Rattle.layout.specs.declared.Underflows.{Underflows}
use Rattle.layout.specs.declared.Underflows.TheVariants as H
use Rattle.layout.specs.declared.Form.{Form}
use Rattle.layout.specs.declared.Image.{Image}
use Rattle.layout.specs.declared.BinaryTables.{BinaryTables}
use Rattle.layout.specs.Layout.{table_bytes, text_table_bytes}
use Rattle.expand.specs.Steps.{Stored, fill_by, count}
use Rattle.expand.specs.Expand.{binary_answer, binary_pixels}
use Rattle.writer.specs.Storing.{stored_for}
use Rattle.writer.specs.Frame.{body_bytes}
use Rattle.calendar.specs.declared.Date.{Date}
use Rattle.ledger.specs.declared.Kind.TheVariants.{Correction, Withdrawal}
use Rattle.ledger.specs.declared.Line.{Line}
use Rattle.ledger.specs.Standing.{standing}
use Rattle.ledger.specs.Ledger.{keep_line, keep_answer, keep_bytes, purge_answer}

pub data Row : Type 0 where
  -- image and tables of so many bytes each are read: the answer, and an array of zeros afterwards
  reads : List ℕ → Image → BinaryTables → ℕ → Result ℕ Refusal → List ℕ → Row
  -- pixels are stored in a form with a baseline
  stores : Form → ℕ → List ℕ → Stored → Row
  -- pixels are written in a form with a baseline: the image and the tables in bytes
  writes : Form → ℕ → List ℕ → List ℕ → Row
  -- entries of so many bytes, so many of them, take so many bytes with their padding
  padded : ℕ → ℕ → ℕ → Row
  -- the same for the text entries of FORMAT 86
  text_padded : ℕ → ℕ → Row
  -- a keep entry into the bytes with so many lines: the answer, and the bytes after it
  kept : List ℕ → ℕ → Date → Result ℕ Refusal → List ℕ → Row
  -- a purge question
  asked : List ℕ → ℕ → Date → Result (Unit {0}) Refusal → Row
  -- lines, and those that stand
  left : List Line → List Line → Row

abbrev pub holds : Row → Type 0
holds (reads bytes i t n answer pixels) = (binary_answer bytes i t n ≡ answer) × (binary_pixels bytes i t (zeros n) ≡ pixels)
holds (stores form base vs s) = stored_for form base vs ≡ s
holds (writes form base vs bytes) = body_bytes form (stored_for form base vs) ≡ bytes
holds (padded w n bytes) = table_bytes w n ≡ bytes
holds (text_padded n bytes) = text_table_bytes n ≡ bytes
holds (kept t lines d answer after) = (keep_answer t lines d ≡ answer) × (keep_bytes t lines d ≡ after)
holds (asked t lines day answer) = purge_answer t lines day ≡ answer
holds (left ls some) = standing ls ≡ some

abbrev pub all : List Row → Type 0
all [] = Unit {0}
all (r ∷ rs) = holds r × all rs

-- how the rows are written
abbrev pub row : ℕ → Width → Image
row columns w = record { start = 0; rows = 1; columns = columns; width = w }

abbrev pub tables : Underflows → ℕ → ℕ → BinaryTables
tables u two four = record { underflows = u; two = two; four = four }

abbrev pub none : Width → Form
none w = record { width = w; underflow = U.None }

abbrev pub bytes_of1 : Form
bytes_of1 = record { width = W.One; underflow = U.Subtracted E.One }

abbrev pub stored : List ℕ → List ℕ → List ℕ → List ℕ → Stored
stored image under two four = record { image = image; under = under; two = two; four = four }

abbrev pub date : ℕ → ℕ → ℕ → Date
date y m d = record { year = y; month = m; day = d }

abbrev pub correction : ℕ → ℕ → ℕ → Line
correction p o n = record { kind = Correction; date = date 0 0 0; pixel = p; old = o; new = n }

abbrev pub withdrawal : Line
withdrawal = record { kind = Withdrawal; date = date 0 0 0; pixel = 0; old = 0; new = 0 }

-- stored 3 255 255 0, underflow 30, two-byte 300 65535, four-byte 70000: 52 bytes
abbrev pub example : List ℕ
example =
    (3 ∷ 255 ∷ 255 ∷ 0 ∷ [])
    ++ ((30 ∷ []) ++ zeros 15)
    ++ ((44 ∷ 1 ∷ 255 ∷ 255 ∷ []) ++ zeros 12)
    ++ ((112 ∷ 17 ∷ 1 ∷ 0 ∷ []) ++ zeros 12)

abbrev pub example_pixels : List ℕ
example_pixels = 35 ∷ 332 ∷ 70032 ∷ 30 ∷ []

-- keep until 2031-11-02: 5F BE C4 and thirteen zeros
abbrev pub kept_bytes : List ℕ
kept_bytes = 95 ∷ 190 ∷ 196 ∷ zeros 13

abbrev pub rows : List Row
rows =
    reads example (row 4 W.One) (tables (H.Counted E.One 1 32) 2 1) 4 (Ok 52) example_pixels
    ∷ reads (0 ∷ []) (row 1 W.One) (tables (H.Counted E.One 0 32) 0 0) 1 (Err R.CountMismatch) (0 ∷ [])
    ∷ reads (0 ∷ 7 ∷ []) (row 2 W.One) (tables H.Unused 0 0) 2 (Ok 2) (0 ∷ 7 ∷ [])
    ∷ writes bytes_of1 32 example_pixels example
    ∷ stores (none W.One) 0 (254 ∷ []) (stored (254 ∷ []) [] [] [])
    ∷ stores (none W.One) 0 (255 ∷ []) (stored (255 ∷ []) [] (255 ∷ []) [])
    ∷ stores (none W.One) 0 (65534 ∷ []) (stored (255 ∷ []) [] (65534 ∷ []) [])
    ∷ stores (none W.One) 0 (65535 ∷ []) (stored (255 ∷ []) [] (65535 ∷ []) (65535 ∷ []))
    ∷ stores (none W.Four) 0 (65535 ∷ []) (stored (65535 ∷ []) [] [] [])
    ∷ stores bytes_of1 32 (32 ∷ []) (stored (0 ∷ []) (32 ∷ []) [] [])
    ∷ stores bytes_of1 32 (33 ∷ []) (stored (1 ∷ []) [] [] [])
    ∷ padded 2 8 16
    ∷ padded 2 9 32
    ∷ padded 4 5 32
    ∷ text_padded 32 512
    ∷ text_padded 33 1024
    ∷ kept (zeros 16) 0 (date 2031 11 2) (Ok 1) kept_bytes
    ∷ asked kept_bytes 1 (date 2031 11 2) (Err R.NotYet)
    ∷ asked kept_bytes 1 (date 2031 11 3) (Ok tt)
    ∷ left (correction 17 300 301 ∷ keep_line (date 2031 11 2) ∷ correction 5 1 2 ∷ withdrawal ∷ withdrawal ∷ []) (correction 17 300 301 ∷ [])
    ∷ kept (zeros 16) 0 (date 1900 2 29) (Err R.NotADate) (zeros 16)
    ∷ []

-- each row by itself: what one of them unfolds need not be computed in the others
read-example : holds (reads example (row 4 W.One) (tables (H.Counted E.One 1 32) 2 1) 4 (Ok 52) example_pixels)
unfolding binary_answer binary_pixels
read-example = (refl, refl)

zero-wanting : holds (reads (0 ∷ []) (row 1 W.One) (tables (H.Counted E.One 0 32) 0 0) 1 (Err R.CountMismatch) (0 ∷ []))
unfolding binary_answer binary_pixels
zero-wanting = (refl, refl)

zeros-stay : holds (reads (0 ∷ 7 ∷ []) (row 2 W.One) (tables H.Unused 0 0) 2 (Ok 2) (0 ∷ 7 ∷ []))
unfolding binary_answer binary_pixels
zeros-stay = (refl, refl)

write-example : holds (writes bytes_of1 32 example_pixels example)
unfolding stored_for body_bytes
write-example = refl

plain-254 : holds (stores (none W.One) 0 (254 ∷ []) (stored (254 ∷ []) [] [] []))
unfolding stored_for
plain-254 = refl

entry-255 : holds (stores (none W.One) 0 (255 ∷ []) (stored (255 ∷ []) [] (255 ∷ []) []))
unfolding stored_for
entry-255 = refl

entry-65534 : holds (stores (none W.One) 0 (65534 ∷ []) (stored (255 ∷ []) [] (65534 ∷ []) []))
unfolding stored_for
entry-65534 = refl

entries-65535 : holds (stores (none W.One) 0 (65535 ∷ []) (stored (255 ∷ []) [] (65535 ∷ []) (65535 ∷ [])))
unfolding stored_for
entries-65535 = refl

width-4 : holds (stores (none W.Four) 0 (65535 ∷ []) (stored (65535 ∷ []) [] [] []))
unfolding stored_for
width-4 = refl

underflow-32 : holds (stores bytes_of1 32 (32 ∷ []) (stored (0 ∷ []) (32 ∷ []) [] []))
unfolding stored_for
underflow-32 = refl

stored-33 : holds (stores bytes_of1 32 (33 ∷ []) (stored (1 ∷ []) [] [] []))
unfolding stored_for
stored-33 = refl

pads : (table_bytes 2 8 ≡ 16) × ((table_bytes 2 9 ≡ 32) × (table_bytes 4 5 ≡ 32))
unfolding table_bytes
pads = (refl, (refl, refl))

text-pads : (text_table_bytes 32 ≡ 512) × (text_table_bytes 33 ≡ 1024)
unfolding text_table_bytes
text-pads = (refl, refl)

first-keep : holds (kept (zeros 16) 0 (date 2031 11 2) (Ok 1) kept_bytes)
unfolding keep_answer keep_bytes big_from big_bytes
first-keep = (refl, refl)

same-day : holds (asked kept_bytes 1 (date 2031 11 2) (Err R.NotYet))
unfolding purge_answer big_from
same-day = refl

next-day : holds (asked kept_bytes 1 (date 2031 11 3) (Ok tt))
unfolding purge_answer big_from
next-day = refl

two-withdrawn : holds (left (correction 17 300 301 ∷ keep_line (date 2031 11 2) ∷ correction 5 1 2 ∷ withdrawal ∷ withdrawal ∷ []) (correction 17 300 301 ∷ []))
unfolding standing
two-withdrawn = refl

no-leap-day : holds (kept (zeros 16) 0 (date 1900 2 29) (Err R.NotADate) (zeros 16))
unfolding keep_answer keep_bytes big_from big_bytes
no-leap-day = (refl, refl)

-- THE THEOREM: every row holds
pub every-row : all rows
every-row = (
  read-example,
  (
    zero-wanting,
    (
      zeros-stay,
      (
        write-example,
        (
          plain-254,
          (
            entry-255,
            (
              entry-65534,
              (
                entries-65535,
                (
                  width-4,
                  (
                    underflow-32,
                    (
                      stored-33,
                      (
                        pads.0,
                        (
                          pads.1.0,
                          (
                            pads.1.1,
                            (
                              text-pads.0,
                              (
                                text-pads.1,
                                (first-keep, (same-day, (next-day, (two-withdrawn, (no-leap-day, tt))))),
                              ),
                            ),
                          ),
                        ),
                      ),
                    ),
                  ),
                ),
              ),
            ),
          ),
        ),
      ),
    ),
  ),
)
