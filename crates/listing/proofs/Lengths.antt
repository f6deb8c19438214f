-- How long the parts of a listing can be.
-- Assumes nothing.
use mathlib.Core.Path.{◌≡◌, refl}
use mathlib.Core.Bool.{Bool, true, false}
use mathlib.Core.List.{◌++◌}
use Prim.Native.Nat.{ℕ, ◌≤◌}
use native.Mathlib.Omega.{arith}
use lib.ListN.{length, length-append}
use Rattle.lists.specs.Text.{codes}
use Rattle.calendar.specs.declared.Date.{Date}
use Rattle.ledger.specs.declared.Kind.{Kind}
use Rattle.ledger.specs.declared.Kind.TheVariants.{Correction, Keep, Withdrawal}
use Rattle.ledger.specs.declared.Line.{Line}
use Rattle.listing.specs.Listing.{date_text, counts_text, kind_text, end_text, line_text, standing_text, newline}
use Rattle.lists.specs.Digits.{decimal}
use Rattle.listing.proofs.WritingLaws.{length-decimal}

pub length-date : (d : Date) → length (date_text d) ≡ 10
unfolding date_text
length-date d = refl

counts-are : (l : Line) → counts_text l ≡ decimal l.pixel ++ (codes " " ++ (decimal l.old ++ (codes " " ++ decimal l.new)))
unfolding counts_text
counts-are l = refl

pub length-counts : (l : Line) → length (counts_text l) ≤ 32
length-counts l = rw (counts-are l) (simp length-append (omega (arith, length-decimal l.pixel, length-decimal l.old, length-decimal l.new)))

correct-is : (l : Line) → kind_text Correction l ≡ codes " correct " ++ counts_text l
unfolding kind_text
correct-is l = refl

keep-is : (l : Line) → kind_text Keep l ≡ codes " keep " ++ date_text l.date
unfolding kind_text
keep-is l = refl

le-correct : (l : Line) → length (kind_text Correction l) ≤ 41
le-correct l = rw (correct-is l) (simp length-append (omega (arith, length-counts l)))

le-withdrawal : (l : Line) → length (kind_text Withdrawal l) ≤ 41
unfolding kind_text
le-withdrawal l = omega arith

le-keep : (l : Line) → length (kind_text Keep l) ≤ 41
le-keep l = rw (keep-is l) (simp length-append (omega (arith, length-date l.date)))

pub length-kind : (k : Kind) (l : Line) → length (kind_text k l) ≤ 41
length-kind Correction l = le-correct l
length-kind Keep l = le-keep l
length-kind Withdrawal l = le-withdrawal l

pub length-end : (b : Bool) → length (end_text b) ≤ 11
unfolding end_text
length-end true = omega arith
length-end false = omega arith

line-is : (number : ℕ) (l : Line) (b : Bool) → line_text number l b ≡ codes "line " ++ (decimal number ++ (kind_text l.kind l ++ end_text b))
unfolding line_text
line-is number l b = refl

pub length-line : (number : ℕ) (l : Line) (b : Bool) → length (line_text number l b) ≤ 80
length-line number l b = rw (line-is number l b) (simp length-append (omega (arith, length-decimal number, length-kind l.kind l, length-end b)))

standing-is : (count : ℕ) → standing_text count ≡ codes "standing " ++ (decimal count ++ newline)
unfolding standing_text
standing-is count = refl

pub length-standing : (count : ℕ) → length (standing_text count) ≤ 32
length-standing count = rw (standing-is count) (simp length-append (omega (arith, length-decimal count)))
