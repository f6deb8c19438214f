-- Document 01, "The ledger": which lines stand.
use Rattle.ledger.specs.declared.Found.{Found}
use Rattle.std.specs.Prelude.{ℕ, suc, ◌+◌, Bool, true, false, not, ◌&&◌, ◌||◌, List, [], ◌∷◌, ◌++◌, length, eqb, ltb, if◌then◌else◌, None, Option, Some}
use Rattle.ledger.specs.declared.Kind.{Kind}
use Rattle.ledger.specs.declared.Kind.TheVariants.{Correction, Keep, Withdrawal}
use Rattle.ledger.specs.declared.Line.{Line}

abbrev pub line_found : ℕ → Line → Found
line_found index line = record { index = index; line = line }

abbrev pub is_withdrawal : Kind → Bool
is_withdrawal Correction = false
is_withdrawal Keep = false
is_withdrawal Withdrawal = true

abbrev pub is_keep : Kind → Bool
is_keep Correction = false
is_keep Keep = true
is_keep Withdrawal = false

abbrev pub is_correction : Kind → Bool
is_correction Correction = true
is_correction Keep = false
is_correction Withdrawal = false

abbrev pub withdraws : Line → Bool
withdraws l = is_withdrawal l.kind

abbrev pub keeps : Line → Bool
keeps l = is_keep l.kind

-- a correction of this pixel
abbrev pub corrects : ℕ → Line → Bool
corrects pixel l = is_correction l.kind && eqb l.pixel pixel

-- counting on from so many withdrawals and so many other lines: somewhere there have been more of the first
unfoldable pub outnumbered : ℕ → ℕ → List Line → Bool
outnumbered withdrawals others [] = false
outnumbered withdrawals others (l ∷ ls) =
    if withdraws l then ltb others (withdrawals + 1) || outnumbered (withdrawals + 1) others ls else
    outnumbered withdrawals (others + 1) ls

-- a line of kind 0 or 1, followed by these lines, is cancelled
unfoldable pub cancelled : List Line → Bool
unfolding outnumbered
cancelled after = outnumbered 0 0 after

-- a line, followed by these lines, stands
abbrev pub stands : Line → List Line → Bool
stands l after = not (withdraws l) && not (cancelled after)

-- the lines that stand, in order
unfoldable pub standing : List Line → List Line
unfolding cancelled
standing [] = []
standing (l ∷ ls) = if stands l ls then l ∷ standing ls else standing ls

-- after the lines before come these: one of them is a withdrawal with nothing standing
unfoldable pub overdrawn : List Line → List Line → Bool
unfolding standing
overdrawn earlier [] = false
overdrawn earlier (l ∷ ls) =
    (withdraws l && eqb (length (standing earlier)) 0) || overdrawn (earlier ++ l ∷ []) ls

-- the first if there is one, else the second
abbrev pub or_else : Option Found → Option Found → Option Found
or_else (Some fd) other = Some (line_found fd.index fd.line)
or_else None other = other

-- the last line that stands and passes the test, with its index, where the first has this one
unfoldable pub last_standing : (Line → Bool) → ℕ → List Line → Option Found
unfolding cancelled
last_standing test index [] = None
last_standing test index (l ∷ ls) =
    if stands l ls && test l then or_else (last_standing test (suc index) ls) (Some (line_found index l)) else
    last_standing test (suc index) ls

abbrev pub any_line : Line → Bool
any_line l = true
