-- The bytes of lines, one after the other, are read as those lines.
-- Assumes nothing.
use mathlib.Core.Path.{◌≡◌, refl, sym, ◌∙◌}
use mathlib.Core.Bool.{Bool, true, false}
use mathlib.Core.List.{List, [], ◌∷◌, ◌++◌, append_assoc}
use Prim.Native.Nat.{ℕ, zero, suc, ◌+◌, ◌*◌, ◌≤◌}
use native.Mathlib.Omega.{arith}
use lib.ListN.{length, take, drop, length-append}
use lib.Seq.{take_at, drop_at}
use lib.Dec.{eqb}
use borrow.Author.Tests.{le-ltb}
use Rattle.std.specs.Prelude.{if◌then◌else◌, None, Option, Some}
use Rattle.lists.specs.Bytes.{big}
use Rattle.ledger.specs.declared.Line.{Line}
use Rattle.ledger.specs.Lines.{right_for, fields_of, line_from, line_of, line_bytes, lines_bytes, lines_of, is_malformed, some_malformed}
use Rattle.ledger.specs.Standing.{overdrawn}
use Rattle.ledger.specs.Ledger.{capacity, ledger_malformed}
use Rattle.ledger.proofs.Packing.{Sized, line-of-bytes, line_read}
use Rattle.ledger.proofs.Scanning.{line-fields, or-none, malformed-tests}
use Rattle.ledger.proofs.Appending.{length-line}

-- every line of a list has a property
abbrev pub Each : (Line → Type 0) → List Line → Type 0
Each P [] = Unit {0}
Each P (l ∷ ls) = P l × Each P ls

-- a line whose bytes are read as it
pub record Writable (l : Line) : Type 0 where
  pub sized : Sized l
  pub right : right_for l.kind l ≡ true

pub length-lines-bytes : (ls : List Line) → length (lines_bytes ls) ≡ length ls * 16
unfolding lines_bytes
length-lines-bytes [] = refl
length-lines-bytes (l ∷ ls) = length-append (line_bytes l) (lines_bytes ls) ∙ omega (arith, length-line l, length-lines-bytes ls)

module _ (l : Line) (ls : List Line) (r : List ℕ) where
  front : take 16 (lines_bytes (l ∷ ls) ++ r) ≡ line_bytes l
  unfolding lines_bytes
  front = rw append_assoc (take_at (line_bytes l) _ 16 (length-line l))

  rest : drop 16 (lines_bytes (l ∷ ls) ++ r) ≡ lines_bytes ls ++ r
  unfolding lines_bytes
  rest = rw append_assoc (drop_at (line_bytes l) _ 16 (length-line l))

pub lines-read : (ls : List Line) (r : List ℕ) → Each Writable ls → lines_of (length ls) (lines_bytes ls ++ r) ≡ ls
unfolding lines_of
lines-read [] r h = refl
lines-read (l ∷ ls) r h =
    rw (front l ls r, rest l ls r, lines-read ls r h.1, ← line-fields (line_bytes l) l (line-of-bytes l h.0.sized h.0.right))

none-malformed : (ls : List Line) (r : List ℕ) → Each Writable ls → some_malformed (length ls) (lines_bytes ls ++ r) ≡ false
unfolding some_malformed
none-malformed [] r h = refl
none-malformed (l ∷ ls) r h =
    rw (front l ls r, rest l ls r, none-malformed ls r h.1, line-of-bytes l h.0.sized h.0.right)

-- a ledger that begins with them has no refusal 20
pub written-well : (ls : List Line) (r : List ℕ) → Each Writable ls → overdrawn [] ls ≡ false → ledger_malformed (lines_bytes ls ++ r) (length ls) ≡ false
written-well ls r h o =
    let n : length (lines_bytes ls ++ r) ≡ length ls * 16 + length r = length-append (lines_bytes ls) r ∙ rw (length-lines-bytes ls) in
    let k : length ls ≤ capacity (lines_bytes ls ++ r) = omega arith in
    malformed-tests (lines_bytes ls ++ r) (length ls) ∙ rw (le-ltb (capacity (lines_bytes ls ++ r)) (length ls) k, none-malformed ls r h, lines-read ls r h, o)

-- the lines that well-formed bytes hold are such lines

fields-sized : (n : ℕ) → Sized (fields_of n)
unfolding fields_of
fields-sized n = record { year = omega arith; month = omega arith; day = omega arith; pixel = omega arith; old = omega arith; new = omega arith }

line-tests : (t : List ℕ) → line_of t ≡ if◌then◌else◌ (eqb (length t) 16) (line_from (big t)) None
unfolding line_of
line-tests t = refl

line-writable : (t : List ℕ) → is_malformed (line_of t) ≡ false → Writable (fields_of (big t))
line-writable t e = go (line_of t) refl e
  where
    whole : (l : Line) (b : Bool) → if◌then◌else◌ b (line_from (big t)) None ≡ Some l → line_from (big t) ≡ Some l
    whole l true q = q
    whole l false q = let z : ◌≡◌ {A = ℕ} 0 1 = cc in absurd (omega arith)

    go : (a : Option Line) → line_of t ≡ a → is_malformed a ≡ false → Writable (fields_of (big t))
    go (Some l) q h =
        let r = line_read (big t) l (whole l (eqb (length t) 16) (sym (line-tests t) ∙ q)) in
        record { sized = fields-sized (big t); right = rw (← r.is) r.right }
    go None q h = let z : ◌≡◌ {A = ℕ} 0 1 = cc in absurd (omega arith)

pub lines-writable : (n : ℕ) (t : List ℕ) → some_malformed n t ≡ false → Each Writable (lines_of n t)
unfolding some_malformed lines_of
lines-writable zero t h = tt
lines-writable (suc n) t h =
    let o = or-none (is_malformed (line_of (take 16 t))) (some_malformed n (drop 16 t)) h in
    (line-writable (take 16 t) o.0, lines-writable n (drop 16 t) o.1)
