-- The standing lines alone: they all stand, none is a withdrawal, the stack is the same, and the ledger stays well formed.
-- Assumes nothing.
use mathlib.Core.Path.{◌≡◌, refl, sym, ap, ◌∙◌}
use mathlib.Core.Bool.{Bool, true, false, not, ◌&&◌}
use mathlib.Core.List.{List, [], ◌∷◌, reverse, reverse-reverse}
use Prim.Native.Nat.{ℕ, ◌+◌, ◌-◌, ◌*◌}
use native.Mathlib.Omega.{arith}
use lib.ListN.{length, drop, length-append, length-replicate}
use lib.Seq.{drop_at}
use Rattle.ledger.specs.declared.Line.{Line}
use Rattle.ledger.specs.Lines.{lines_of, lines_bytes}
use Rattle.ledger.specs.Standing.{withdraws, cancelled, standing, overdrawn}
use Rattle.ledger.specs.Ledger.{ledger_malformed}
use Rattle.ledger.proofs.StandingLaws.{stack, depth, cancelled-is, standing-is, standing-small, overdrawn-all}
use Rattle.ledger.proofs.Written.{Each, Writable, length-lines-bytes, lines-read, written-well}
use Rattle.compaction.specs.Compact.{behind_standing, compacted}

-- no withdrawal
abbrev pub Stays : Line → Type 0
Stays l = withdraws l ≡ false

pub each-standing : (P : Line → Type 0) (ls : List Line) → Each P ls → Each P (standing ls)
unfolding standing
each-standing P [] h = tt
each-standing P (l ∷ ls) h = go (not (withdraws l) && not (cancelled ls)) refl (each-standing P ls h.1)
  where
    go : (t : Bool) → (not (withdraws l) && not (cancelled ls)) ≡ t → Each P (standing ls) → Each P (standing (l ∷ ls))
    go true e ih = rw e (h.0, ih)
    go false e ih = rw e ih

-- none of the standing lines is a withdrawal
pub standing-stays : (ls : List Line) → Each Stays (standing ls)
unfolding standing
standing-stays [] = tt
standing-stays (l ∷ ls) = go (withdraws l) refl (not (cancelled ls)) refl (standing-stays ls)
  where
    go : (w : Bool) → withdraws l ≡ w → (c : Bool) → not (cancelled ls) ≡ c → Each Stays (standing ls) → Each Stays (standing (l ∷ ls))
    go true e c f ih = rw e ih
    go false e true f ih = rw (e, f) (e, ih)
    go false e false f ih = rw (e, f) ih

-- lines with no withdrawal among them cancel none and all stand
pub depth-stays : (ls : List Line) → Each Stays ls → depth ls ≡ 0
unfolding depth
depth-stays [] h = refl
depth-stays (l ∷ ls) h = rw (h.0, depth-stays ls h.1)

pub all-stand : (ls : List Line) → Each Stays ls → standing ls ≡ ls
unfolding standing
all-stand [] h = refl
all-stand (l ∷ ls) h = rw (h.0, cancelled-is ls, depth-stays ls h.1, all-stand ls h.1)

-- the standing lines all stand
pub standing-again : (ls : List Line) → standing (standing ls) ≡ standing ls
standing-again ls = all-stand (standing ls) (standing-stays ls)

-- the stack is the same
pub stack-again : (ls : List Line) → stack [] (standing ls) ≡ stack [] ls
stack-again ls =
    let e : reverse (stack [] (standing ls)) ≡ reverse (stack [] ls) = sym (standing-is (standing ls)) ∙ standing-again ls ∙ standing-is ls in
    sym (reverse-reverse (stack [] (standing ls))) ∙ ap reverse e ∙ reverse-reverse (stack [] ls)

-- no withdrawal without a line
pub never-overdrawn : (ls : List Line) → overdrawn [] (standing ls) ≡ false
never-overdrawn ls = overdrawn-all (standing ls) ∙ rw (depth-stays (standing ls) (standing-stays ls))

-- compaction keeps the ledger's length, its lines are the standing ones, and it is well formed
module _ (ls : List Line) (r : List ℕ) where
  pub compacted-length : length (compacted ls r) ≡ length ls * 16 + length r
  unfolding compacted
  compacted-length =
      simp (length-append, length-replicate, length-lines-bytes) (omega (arith, standing-small ls))

  -- behind its lines
  pub compacted-behind : drop (length (standing ls) * 16) (compacted ls r) ≡ behind_standing ls r
  unfolding compacted
  compacted-behind = drop_at (lines_bytes (standing ls)) (behind_standing ls r) (length (standing ls) * 16) (length-lines-bytes (standing ls))

  -- its lines are all left
  pub compacted-again : compacted (standing ls) (behind_standing ls r) ≡ compacted ls r
  unfolding compacted
  compacted-again =
      let none : (length (standing ls) - length (standing ls)) * 16 ≡ 0 = omega arith in
      rw (standing-again ls, none)

  module _ (h : Each Writable ls) where
    pub compacted-read : lines_of (length (standing ls)) (compacted ls r) ≡ standing ls
    unfolding compacted
    compacted-read = lines-read (standing ls) (behind_standing ls r) (each-standing Writable ls h)

    pub compacted-well : ledger_malformed (compacted ls r) (length (standing ls)) ≡ false
    unfolding compacted
    compacted-well = written-well (standing ls) (behind_standing ls r) (each-standing Writable ls h) (never-overdrawn ls)
