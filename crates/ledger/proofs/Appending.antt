-- A line appended: what the lines are then, whether the ledger is malformed, and which line stands last.
-- Assumes nothing.
use Rattle.ledger.specs.Standing.{line_found}
use Rattle.ledger.specs.declared.Found.{Found}
use mathlib.Core.Path.{◌≡◌, refl, sym, ap, ◌∙◌}
use mathlib.Core.Bool.{Bool, true, false, ◌&&◌, ◌||◌, or_assoc, or-false}
use mathlib.Core.List.{List, [], ◌∷◌, ◌++◌, append_assoc, append-nil}
use Prim.Native.Nat.{ℕ, zero, suc, ◌+◌, ◌*◌, ◌≤◌, ◌<◌}
use native.Mathlib.Nat.{suc-add, zero-add}
use native.Mathlib.Omega.{arith}
use lib.ListN.{length, take, drop, length-append, length-drop}
use lib.Seq.{drop-drop, take-add, take_at, drop_at, length-take-le, drop-nil}
use lib.Dec.{eqb, ltb}
use borrow.Author.Tests.{lt-ltb, le-ltb}
use Rattle.std.specs.Prelude.{if◌then◌else◌, Ok, None, Option, Some}
use Rattle.lists.specs.Bytes.{big}
use Rattle.lists.proofs.BigEndian.{length-big_bytes}
use Rattle.ledger.specs.declared.Line.{Line}
use Rattle.ledger.specs.Lines.{fields_of, line_of, line_number, line_bytes, lines_of, some_malformed, is_malformed}
use Rattle.ledger.specs.Standing.{withdraws, standing, overdrawn, or_else, last_standing}
use Rattle.ledger.specs.Ledger.{capacity, ledger_malformed, ledger_full, with_line, append_answer, append_bytes}
use Rattle.ledger.proofs.StandingLaws.{stack, depth, cancelled-is, stack-split, length-standing}
use Rattle.ledger.proofs.Scanning.{malformed-tests, some-split}

pub length-line : (l : Line) → length (line_bytes l) ≡ 16
unfolding line_bytes
length-line l = length-big_bytes 16 (line_number l)

-- the first n lines are those of the first n * 16 bytes

module _ (t r : List ℕ) (m : ℕ) (h : 16 ≤ length t) where
  parts : take (16 + m) t ++ r ≡ take 16 t ++ (take m (drop 16 t) ++ r)
  parts = rw (take-add 16 m t, append_assoc)

  front : take 16 (take (16 + m) t ++ r) ≡ take 16 t
  front = rw parts (take_at (take 16 t) _ 16 (length-take-le 16 t h))

  rest : drop 16 (take (16 + m) t ++ r) ≡ take m (drop 16 t) ++ r
  rest = rw parts (drop_at (take 16 t) _ 16 (length-take-le 16 t h))

lines-front : (n : ℕ) (t r : List ℕ) → n * 16 ≤ length t → lines_of n (take (n * 16) t ++ r) ≡ lines_of n t
unfolding lines_of
lines-front zero t r h = refl
lines-front (suc n) t r h =
    let e : suc n * 16 ≡ 16 + n * 16 = omega arith in
    rw (e, front t r (n * 16) (omega arith), rest t r (n * 16) (omega arith), lines-front n (drop 16 t) r (rw length-drop (omega arith)))

malformed-front : (n : ℕ) (t r : List ℕ) → n * 16 ≤ length t → some_malformed n (take (n * 16) t ++ r) ≡ some_malformed n t
unfolding some_malformed
malformed-front zero t r h = refl
malformed-front (suc n) t r h =
    let e : suc n * 16 ≡ 16 + n * 16 = omega arith in
    rw (e, front t r (n * 16) (omega arith), rest t r (n * 16) (omega arith), malformed-front n (drop 16 t) r (rw length-drop (omega arith)))

lines_split : (a b : ℕ) (t : List ℕ) → lines_of (a + b) t ≡ lines_of a t ++ lines_of b (drop (a * 16) t)
unfolding lines_of
lines_split zero b t = rw zero-add
lines_split (suc a) b t =
    let e : suc a * 16 ≡ 16 + a * 16 = omega arith in
    rw (suc-add, lines_split a b (drop 16 t), e, ← drop-drop (a * 16) 16 t)

-- one line more: a withdrawal with nothing standing among them all, or among the earlier ones
pub overdrawn-more : (earlier ls : List Line) (l : Line) → overdrawn earlier (ls ++ l ∷ []) ≡ overdrawn earlier ls || (withdraws l && eqb (length (standing (earlier ++ ls))) 0)
unfolding overdrawn
overdrawn-more earlier [] l = rw (append-nil earlier) (or-false _)
overdrawn-more earlier (x ∷ ls) l =
    let e : (earlier ++ x ∷ []) ++ ls ≡ earlier ++ x ∷ ls = append_assoc earlier (x ∷ []) ls in
    rw (overdrawn-more (earlier ++ x ∷ []) ls l, e) (sym (or_assoc (withdraws x && eqb (length (standing earlier)) 0) (overdrawn (earlier ++ x ∷ []) ls) _))

-- a line appended where there is room
pub appended-answer : (t : List ℕ) (lines : ℕ) → ledger_full t lines ≡ false → append_answer t lines ≡ Ok (lines + 1)
unfolding append_answer
appended-answer t lines h = rw h

pub appended-bytes : (t : List ℕ) (lines : ℕ) (l : Line) → ledger_full t lines ≡ false → append_bytes t lines l ≡ with_line t lines l
unfolding append_bytes
appended-bytes t lines l h = rw h

-- the line that the bytes of a line are read as: a field that is too large is cut off
abbrev pub read_as : Line → Line
read_as l = fields_of (big (line_bytes l))

regroup : (a b c d : Bool) → (a || b) || (c || d) ≡ (a || c) || (b || d)
regroup true b c d = refl
regroup false true true d = refl
regroup false true false d = refl
regroup false false c d = refl

-- a line written after the first n, whatever its fields

module _ (t : List ℕ) (n : ℕ) (l : Line) (room : n < capacity t) where
  at : drop (n * 16) (with_line t n l) ≡ line_bytes l ++ drop (n * 16 + 16) t
  unfolding with_line
  at = drop_at (take (n * 16) t) _ (n * 16) (length-take-le (n * 16) t (omega arith))

  line : take 16 (drop (n * 16) (with_line t n l)) ≡ line_bytes l
  line = rw at (take_at (line_bytes l) _ 16 (length-line l))

  earlier-lines : lines_of n (with_line t n l) ≡ lines_of n t
  unfolding with_line
  earlier-lines = lines-front n t _ (omega arith)

  one_line : lines_of 1 (drop (n * 16) (with_line t n l)) ≡ read_as l ∷ []
  unfolding lines_of
  one_line = ap (λ (bs : List ℕ). fields_of (big bs) ∷ []) line

  pub lines-appended : lines_of (n + 1) (with_line t n l) ≡ lines_of n t ++ read_as l ∷ []
  lines-appended = lines_split n 1 (with_line t n l) ∙ rw (earlier-lines, one_line)

  earlier-malformed : some_malformed n (with_line t n l) ≡ some_malformed n t
  unfolding with_line
  earlier-malformed = malformed-front n t _ (omega arith)

  one-malformed : some_malformed 1 (drop (n * 16) (with_line t n l)) ≡ is_malformed (line_of (line_bytes l))
  unfolding some_malformed
  one-malformed = rw line (or-false (is_malformed (line_of (line_bytes l))))

  malformed-appended : some_malformed (n + 1) (with_line t n l) ≡ some_malformed n t || is_malformed (line_of (line_bytes l))
  malformed-appended = some-split n 1 (with_line t n l) ∙ rw (earlier-malformed, one-malformed)

  pub length-appended : length (with_line t n l) ≡ length t
  unfolding with_line
  length-appended =
      let e : n * 16 + 16 ≤ length t = omega arith in
      simp (length-append, length-drop, length-line l, length-take-le (n * 16) t (omega arith)) (omega arith)

  -- the ledger is then malformed as before, or by this line
  pub ledger-appended : ledger_malformed (with_line t n l) (n + 1) ≡ ledger_malformed t n || (is_malformed (line_of (line_bytes l)) || (withdraws (read_as l) && eqb (length (stack [] (lines_of n t))) 0))
  ledger-appended =
      let full : ltb (capacity t) (n + 1) ≡ false = le-ltb (capacity t) (n + 1) (omega arith) in
      let fits : ltb (capacity t) n ≡ false = le-ltb (capacity t) n (omega arith) in
      malformed-tests (with_line t n l) (n + 1)
      ∙ rw (length-appended, full, malformed-appended, lines-appended, overdrawn-more [] (lines_of n t) (read_as l), length-standing (lines_of n t), malformed-tests t n, fits)
      (regroup (some_malformed n t) (is_malformed (line_of (line_bytes l))) (overdrawn [] (lines_of n t)) (withdraws (read_as l) && eqb (length (stack [] (lines_of n t))) 0))

-- the last line that stands is the uppermost of the pile

abbrev pub found_lines : Option Found → List Line
found_lines (Some fd) = fd.line ∷ []
found_lines None = []

-- the first that passes the test
abbrev pub first_where : (Line → Bool) → List Line → List Line
first_where test [] = []
first_where test (l ∷ ls) = if test l then l ∷ [] else first_where test ls

module _ (test : Line → Bool) where
  first_some : (st r : List Line) (x : Line) → x ∷ [] ≡ first_where test st → first_where test (st ++ r) ≡ x ∷ []
  first_some [] r x e = let z : ◌≡◌ {A = ℕ} 0 1 = cc in absurd (omega arith)
  first_some (s ∷ st) r x e = go (test s) refl (first_some st r x)
    where
      go : (b : Bool) → test s ≡ b → (x ∷ [] ≡ first_where test st → first_where test (st ++ r) ≡ x ∷ []) → first_where test (s ∷ st ++ r) ≡ x ∷ []
      go true q ih = rw q (sym (rw q at e))
      go false q ih = rw q (ih (rw q at e))

  first-none : (st r : List Line) → [] ≡ first_where test st → first_where test (st ++ r) ≡ first_where test r
  first-none [] r e = refl
  first-none (s ∷ st) r e = go (test s) refl (first-none st r)
    where
      go : (b : Bool) → test s ≡ b → ([] ≡ first_where test st → first_where test (st ++ r) ≡ first_where test r) → first_where test (s ∷ st ++ r) ≡ first_where test r
      go true q ih = let z : ◌≡◌ {A = ℕ} 0 1 = let w : [] ≡ s ∷ [] = rw q at e in cc in absurd (omega arith)
      go false q ih = rw q (ih (rw q at e))

  top : (i : ℕ) (l : Line) (f : Option Found) (st : List Line) → found_lines f ≡ first_where test st
      → found_lines (if◌then◌else◌ (test l) (or_else f (Some (line_found i l))) f) ≡ first_where test (st ++ l ∷ [])
  top i l (Some fd) st e = go (test l) ∙ sym (first_some st (l ∷ []) fd.line e)
    where
      go : (b : Bool) → found_lines (if◌then◌else◌ b (Some (line_found fd.index fd.line)) (Some (line_found fd.index fd.line))) ≡ fd.line ∷ []
      go true = refl
      go false = refl
  top i l None st e = go (test l) refl ∙ sym (first-none st (l ∷ []) e)
    where
      go : (b : Bool) → test l ≡ b → found_lines (if◌then◌else◌ (test l) (Some (line_found i l)) None) ≡ first_where test (l ∷ [])
      go true q = rw q
      go false q = rw q

  pub last-is-top : (i : ℕ) (ls : List Line) → found_lines (last_standing test i ls) ≡ first_where test (stack [] ls)
  unfolding last_standing stack
  last-is-top i [] = refl
  last-is-top i (l ∷ ls) = go (withdraws l) refl (depth ls) refl (last-is-top (suc i) ls)
    where
      go : (b : Bool) → withdraws l ≡ b → (d : ℕ) → depth ls ≡ d → found_lines (last_standing test (suc i) ls) ≡ first_where test (stack [] ls)
          → found_lines (last_standing test i (l ∷ ls)) ≡ first_where test (stack [] (l ∷ ls))
      go true e d f ih = rw e ih
      go false e zero f ih = rw (e, cancelled-is ls, stack-split (l ∷ []) ls, f) (top i l (last_standing test (suc i) ls) (stack [] ls) ih)
      go false e (suc d) f ih =
          rw (e, cancelled-is ls, stack-split (l ∷ []) ls, f, lt-ltb 0 (suc d) (omega arith), drop-nil d, append-nil) ih
