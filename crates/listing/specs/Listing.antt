-- Document 01, "Trials on both sides": the text that the listing program prints for a ledger.
use Rattle.std.specs.Prelude.{ℕ, zero, suc, ◌+◌, ◌-◌, ◌*◌, ◌/◌, ◌%◌, Bool, true, false, not, ◌&&◌, List, [], ◌∷◌, ◌++◌, length, take, eqb, leb, ltb, if◌then◌else◌, None, Option, Some}
use Rattle.lists.specs.Text.{codes}
use Rattle.lists.specs.Digits.{digits_up_to, decimal}
use Rattle.calendar.specs.declared.Date.{Date}
use Rattle.ledger.specs.declared.Kind.{Kind}
use Rattle.ledger.specs.declared.Kind.TheVariants.{Correction, Keep, Withdrawal}
use Rattle.ledger.specs.declared.Line.{Line}
use Rattle.ledger.specs.Lines.{lines_of}
use Rattle.ledger.specs.Standing.{withdraws, cancelled, standing}
use Rattle.ledger.specs.Ledger.{capacity, ledger_malformed}
use Rattle.listing.specs.declared.Step.{Step}

-- k digits of n, zeros at the left where it has fewer
unfoldable pub digits : ℕ → ℕ → List ℕ
digits zero n = []
digits (suc k) n = digits k (n / 10) ++ (48 + n % 10) ∷ []

abbrev pub newline : List ℕ
newline = 10 ∷ []

unfoldable pub date_text : Date → List ℕ
unfolding digits
date_text d = digits 4 d.year ++ (codes "-" ++ (digits 2 d.month ++ (codes "-" ++ digits 2 d.day)))

unfoldable pub counts_text : Line → List ℕ
unfolding digits_up_to
counts_text l = decimal l.pixel ++ (codes " " ++ (decimal l.old ++ (codes " " ++ decimal l.new)))

-- what a line is
unfoldable pub kind_text : Kind → Line → List ℕ
unfolding date_text counts_text
kind_text Correction l = codes " correct " ++ counts_text l
kind_text Keep l = codes " keep " ++ date_text l.date
kind_text Withdrawal l = codes " withdraw"

unfoldable pub end_text : Bool → List ℕ
end_text isCancelled = (if isCancelled then codes " withdrawn" else []) ++ newline

-- a line of the listing, numbered from 1
unfoldable pub line_text : ℕ → Line → Bool → List ℕ
unfolding digits_up_to kind_text end_text
line_text number l isCancelled = codes "line " ++ (decimal number ++ (kind_text l.kind l ++ end_text isCancelled))

-- the lines, the first of them with this number
unfoldable pub lines_text : ℕ → List Line → List ℕ
unfolding line_text cancelled
lines_text number [] = []
lines_text number (l ∷ ls) = line_text number l (not (withdraws l) && cancelled ls) ++ lines_text (suc number) ls

unfoldable pub standing_text : ℕ → List ℕ
unfolding digits_up_to
standing_text count = codes "standing " ++ (decimal count ++ newline)

abbrev pub refused_text : List ℕ
refused_text = codes "refused 20" ++ newline

-- at most 4,096 lines, the last one whole, and no refusal 20
unfoldable pub is_listed : List ℕ → Bool
unfolding ledger_malformed
is_listed t = eqb (length t % 16) 0 && (leb (length t) 65536 && not (ledger_malformed t (capacity t)))

unfoldable pub lines_listed : List ℕ → List ℕ
unfolding lines_text standing_text lines_of standing
lines_listed t = lines_text 1 (lines_of (capacity t) t) ++ standing_text (length (standing (lines_of (capacity t) t)))

unfoldable pub listing_text : List ℕ → List ℕ
unfolding is_listed lines_listed
listing_text t = if is_listed t then lines_listed t else refused_text

-- the bytes that have to be lent: 32, and 80 for each line
unfoldable pub listing_room : List ℕ → ℕ
unfolding is_listed
listing_room t = if is_listed t then 32 + capacity t * 80 else 32

-- the answer, and the buffer afterwards: the text stands at its end
unfoldable pub shown_answer : ℕ → ℕ → List ℕ → Option ℕ
shown_answer lent needed text = if ltb lent needed then None else Some (length text)

unfoldable pub shown_bytes : List ℕ → ℕ → List ℕ → List ℕ
shown_bytes out needed text = if ltb (length out) needed then out else take (length out - length text) out ++ text

unfoldable pub list_answer : List ℕ → ℕ → Option ℕ
unfolding shown_answer listing_room listing_text
list_answer t lent = shown_answer lent (listing_room t) (listing_text t)

unfoldable pub list_bytes : List ℕ → List ℕ → List ℕ
unfolding shown_bytes listing_room listing_text
list_bytes t out = shown_bytes out (listing_room t) (listing_text t)

-- one line further back: whether it is cancelled, and how many of the lines before are
unfoldable pub step_back : ℕ → Line → Step
step_back skip l =
    if withdraws l then record { cancelled = false; skip = skip + 1 } else
    if ltb 0 skip then record { cancelled = true; skip = skip - 1 } else
    record { cancelled = false; skip = 0 }
