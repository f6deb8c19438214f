-- What request A11 asks of the answers, for any bytes and any number of lines. proofs/Answers.antt proves these statements; those over further calls are the model's.
use Rattle.refusal.specs.declared.Refusal.{Refusal}
use Rattle.std.specs.Prelude.{ℕ, zero, suc, ◌<◌, ◌≡◌, Bool, true, false, ◌&&◌, List, [], ◌∷◌, ◌++◌, drop, Err, Ok, Result, None, Option, Some}
use Rattle.refusal.specs.declared.Refusal.TheVariants as R
use Rattle.calendar.specs.declared.Date.{Date}
use Rattle.calendar.specs.Calendar.{is_date}
use Rattle.ledger.specs.declared.Line.{Line}
use Rattle.ledger.specs.Lines.{lines_of}
use Rattle.ledger.specs.Standing.{keeps, corrects, stands, cancelled}
use Rattle.ledger.specs.Ledger.{ledger_malformed, purge_answer}
use Rattle.listing.specs.Listing.{line_text, lines_text}
use Rattle.why.specs.declared.Numbered.{Numbered}
use Rattle.why.specs.declared.DayAnswer.{DayAnswer}
use Rattle.why.specs.declared.DayAnswer.TheVariants as D
use Rattle.why.specs.Why.{day_reason, pixel_reason}

-- the line that an answer names, if it names one
abbrev pub day_names : Result DayAnswer Refusal → List Numbered
day_names (Ok (D.Allowed d)) = d ∷ []
day_names (Ok (D.NotYet d)) = d ∷ []
day_names (Err r) = []

abbrev pub pixel_names : Result (Option Numbered) Refusal → List Numbered
pixel_names (Ok (Some d)) = d ∷ []
pixel_names (Ok None) = []
pixel_names (Err r) = []

-- its number, and 0 for none: of two answers the one with the smaller number names an earlier line, or none
abbrev pub number_in : List Numbered → ℕ
number_in [] = 0
number_in (d ∷ ds) = d.number

-- the line with this index stands and passes the test
unfoldable pub stands_at : (Line → Bool) → ℕ → List Line → Bool
unfolding cancelled
stands_at test index [] = false
stands_at test zero (l ∷ ls) = stands l ls && test l
stands_at test (suc index) (l ∷ ls) = stands_at test index ls

abbrev pub NoneStands : (Line → Bool) → List Line → Type 0
NoneStands test ls = (index : ℕ) → stands_at test index ls ≡ false

-- The line d of these lines decides: it has this number from 1, it passes the test and stands, and no later line does both.
pub record Decides (test : Line → Bool) (ls : List Line) (d : Numbered) : Type 0 where
  pub index : ℕ
  pub number : d.number ≡ suc index
  pub line : drop index ls ≡ d.line ∷ drop (suc index) ls
  pub passes : test d.line ≡ true
  pub stands : stands d.line (drop (suc index) ls) ≡ true
  pub last : (later : ℕ) → index < later → stands_at test later ls ≡ false

-- The listing has this line under this number, and not as withdrawn; the lines after it follow.
pub record ListedAs (ls : List Line) (d : Numbered) : Type 0 where
  pub earlier : List ℕ
  pub text : lines_text 1 ls ≡ earlier ++ (line_text d.number d.line false ++ lines_text (suc d.number) (drop d.number ls))

-- for a day: the line named is a keep line that stands, no later one does, and the listing has it under its number
abbrev pub DayDecided : Type 0
DayDecided =
    (t : List ℕ) (n : ℕ) (day : Date) (d : Numbered) → day_names (day_reason t n day) ≡ d ∷ []
    → Decides keeps (lines_of n t) d × ListedAs (lines_of n t) d

-- for a pixel: a correction of it that stands
abbrev pub PixelDecided : Type 0
PixelDecided =
    (t : List ℕ) (n pixel : ℕ) (d : Numbered) → pixel_names (pixel_reason t n pixel) ≡ d ∷ []
    → Decides (corrects pixel) (lines_of n t) d × ListedAs (lines_of n t) d

-- 26 exactly where no keep line stands, in a ledger that is not malformed and for a calendar date
abbrev pub NoKeepExactly : Type 0
NoKeepExactly =
    (t : List ℕ) (n : ℕ) (day : Date)
    → (day_reason t n day ≡ Err R.NoKeepLine → NoneStands keeps (lines_of n t))
    × (ledger_malformed t n ≡ false → is_date day ≡ true → NoneStands keeps (lines_of n t) → day_reason t n day ≡ Err R.NoKeepLine)

-- as opened exactly where no correction of the pixel stands, in a ledger that is not malformed
abbrev pub AsOpenedExactly : Type 0
AsOpenedExactly =
    (t : List ℕ) (n pixel : ℕ)
    → (pixel_reason t n pixel ≡ Ok None → NoneStands (corrects pixel) (lines_of n t))
    × (ledger_malformed t n ≡ false → NoneStands (corrects pixel) (lines_of n t) → pixel_reason t n pixel ≡ Ok None)

-- the purge question's answer in an answer for a day
abbrev pub purge_in : Result DayAnswer Refusal → Result (Unit {0}) Refusal
purge_in (Ok (D.Allowed d)) = Ok tt
purge_in (Ok (D.NotYet d)) = Err R.NotYet
purge_in (Err r) = Err r

-- both questions agree, whatever is asked
abbrev pub DayIsPurge : Type 0
DayIsPurge = (t : List ℕ) (n : ℕ) (day : Date) → purge_answer t n day ≡ purge_in (day_reason t n day)
