-- An accepted correction, withdrawal or amend, and the line that it appended.
-- Assumes nothing.
use Rattle.std.specs.Prelude.{Some}
use Rattle.ledger.specs.Standing.{line_found}
use mathlib.Core.Path.{◌≡◌, refl, sym, ap, ◌∙◌}
use mathlib.Core.List.{List, [], ◌∷◌, ◌++◌}
use Prim.Native.Nat.{ℕ, ◌+◌, ◌/◌, ◌^◌, ◌<◌}
use native.Mathlib.Omega.{arith}
use lib.ListN.{length}
use Rattle.refusal.specs.declared.Refusal.{Refusal}
use Rattle.ledger.specs.declared.Line.{Line}
use Rattle.ledger.specs.Lines.{lines_of, right_for}
use Rattle.ledger.specs.Standing.{last_standing, any_line}
use Rattle.ledger.specs.Ledger.{with_line}
use Rattle.ledger.proofs.Packing.{Sized, line-of-bytes}
use Rattle.ledger.proofs.StandingLaws.{stack}
use Rattle.ledger.proofs.Scanning.{line-fields}
use Rattle.ledger.proofs.Appending.{read_as, lines-appended, found_lines, first_where, last-is-top}
use Rattle.ledger.proofs.Written.{Writable}
use Rattle.archive.specs.Calls.{Outcome, correction_line, withdrawal_line}
use Rattle.archive.proofs.Outcomes.{Either, left, done}
use Rattle.model.specs.Model.{accepted, refused}
use Rattle.model.specs.Run.{answered}

pub unaccepted : {r : Refusal} → refused r ≡ accepted → ⊥
unaccepted e = let z : ◌≡◌ {A = ℕ} 0 1 = cc in omega arith

-- what is known of an accepted call
pub taken : (h t : List ℕ) (n : ℕ) {o : Outcome} {P : Type 0} → Either h t n o P → answered o.answer ≡ accepted → P
taken h t n (left r e) a = absurd (unaccepted (ap (λ (o : Outcome). answered o.answer) (sym e) ∙ a))
taken h t n (done p) a = p

pub withdrawal-sized : Sized withdrawal_line
withdrawal-sized = record { year = omega arith; month = omega arith; day = omega arith; pixel = omega arith; old = omega arith; new = omega arith }

pub correction-sized : (pixel old new : ℕ) → pixel < 2 ^ 24 → old < 4294967296 → new < 4294967296 → Sized (correction_line pixel old new)
correction-sized pixel old new p a b = record { year = omega arith; month = omega arith; day = omega arith; pixel = p; old = a; new = b }

pub withdrawal-writable : Writable withdrawal_line
unfolding right_for
withdrawal-writable = record { sized = withdrawal-sized; right = refl }

pub correction-writable : (pixel old new : ℕ) → pixel < 2 ^ 24 → old < 4294967296 → new < 4294967296 → Writable (correction_line pixel old new)
unfolding right_for
correction-writable pixel old new p a b = record { sized = correction-sized pixel old new p a b; right = refl }

-- a line is read as it was written
pub read-as : {l : Line} → Writable l → read_as l ≡ l
read-as {l} w = sym (line-fields _ l (line-of-bytes l w.sized w.right))

-- the lines with one more
pub line-more : (t : List ℕ) (n : ℕ) {l : Line} → n < length t / 16 → Writable l → lines_of (n + 1) (with_line t n l) ≡ lines_of n t ++ l ∷ []
line-more t n {l} room w = lines-appended t n l room ∙ rw (read-as w)

-- the last line that stands is the top of the stack
pub record Top (ls : List Line) (l : Line) : Type 0 where
  pub below : List Line
  pub is : stack [] ls ≡ l ∷ below

pub last-top : (ls : List Line) (i : ℕ) (l : Line) → last_standing any_line 0 ls ≡ Some (line_found i l) → Top ls l
last-top ls i l e = go (stack [] ls) refl (sym (ap found_lines e) ∙ last-is-top any_line 0 ls)
  where
    go : (st : List Line) → stack [] ls ≡ st → l ∷ [] ≡ first_where any_line st → Top ls l
    go [] q r = let z : ◌≡◌ {A = ℕ} 0 1 = cc in absurd (omega arith)
    go (x ∷ st) q r = let same : x ≡ l = cc in record { below = st; is = q ∙ rw same }
