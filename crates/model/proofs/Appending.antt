-- Lines appended to a ledger, and compaction: what is read there, and that the ledger stays well formed.
-- Assumes nothing.
use mathlib.Core.Path.{◌≡◌, refl, sym, ap, ◌∙◌}
use mathlib.Core.Bool.{true, false, ◌&&◌}
use mathlib.Core.List.{List, [], ◌∷◌, ◌++◌, append_assoc, append-nil}
use Prim.Native.Nat.{ℕ, ◌+◌, ◌*◌, ◌/◌, ◌<◌}
use native.Mathlib.Omega.{arith}
use lib.ListN.{length, drop, length-append, length-drop}
use lib.Seq.{take_at, drop_at, drop-drop, drop-append-add}
use lib.Dec.{eqb}
use Rattle.ledger.specs.declared.Line.{Line}
use Rattle.ledger.specs.Lines.{line_bytes, lines_bytes, lines_of, right_for}
use Rattle.ledger.specs.Standing.{withdraws, standing, overdrawn}
use Rattle.ledger.specs.Ledger.{ledger_malformed, with_line}
use Rattle.ledger.proofs.Packing.{Sized}
use Rattle.ledger.proofs.StandingLaws.{stack, length-standing}
use Rattle.ledger.proofs.Appending.{overdrawn-more}
use Rattle.ledger.proofs.Written.{Each, Writable, length-lines-bytes, lines-read, written-well}
use Rattle.compaction.specs.Compact.{compacted}
use Rattle.compaction.proofs.Laws.{each-standing, never-overdrawn, compacted-length}
use Rattle.archive.specs.Calls.{with_lines}
use Rattle.model.specs.Ledger.{Ledger, ledger_bytes, empty_ledger, appended, only_standing}

lines-bytes-more : (ls : List Line) (l : Line) → lines_bytes (ls ++ l ∷ []) ≡ lines_bytes ls ++ line_bytes l
unfolding lines_bytes
lines-bytes-more [] l = append-nil (line_bytes l)
lines-bytes-more (x ∷ ls) l = rw (lines-bytes-more ls l, append_assoc)

pub one_more : (ls : List Line) (l : Line) → length (ls ++ l ∷ []) ≡ length ls + 1
one_more ls l = length-append ls (l ∷ [])

-- lines appended at once, and one after the other
pub appended_then : (g : Ledger) (ls ks : List Line) → appended (appended g ls) ks ≡ appended g (ls ++ ks)
appended_then g ls ks =
    let e : length ls * 16 + length ks * 16 ≡ length (ls ++ ks) * 16 = omega (arith, length-append ls ks) in
    rw (append_assoc, drop-drop, e)

appended-none : (g : Ledger) → appended g [] ≡ g
appended-none g = rw append-nil

-- a line written behind the last
ledger-one : (g : Ledger) (l : Line) → with_line (ledger_bytes g) (length g.lines) l ≡ ledger_bytes (appended g (l ∷ []))
unfolding with_line ledger_bytes
ledger-one g l =
    let n : ℕ = length g.lines * 16 in
    let e : length (lines_bytes g.lines) ≡ n = length-lines-bytes g.lines in
    let k : n + 16 ≡ length (lines_bytes g.lines) + 16 = omega arith in
    rw (take_at (lines_bytes g.lines) g.behind n e, k, drop-append-add (lines_bytes g.lines) g.behind 16, lines-bytes-more g.lines l, append_assoc)

-- several lines, one after the other
pub ledger-more : (g : Ledger) (ks : List Line) → with_lines (ledger_bytes g) (length g.lines) ks ≡ ledger_bytes (appended g ks)
ledger-more g [] = ap ledger_bytes (sym (appended-none g))
ledger-more g (k ∷ ks) =
    rw (ledger-one g k, ← one_more g.lines k) (ledger-more (appended g (k ∷ [])) ks ∙ ap ledger_bytes (appended_then g (k ∷ []) ks))

-- the bytes behind the lines
pub behind-lines : (g : Ledger) → drop (length g.lines * 16) (ledger_bytes g) ≡ g.behind
unfolding ledger_bytes
behind-lines g = drop_at (lines_bytes g.lines) g.behind (length g.lines * 16) (length-lines-bytes g.lines)

ledger-length : (g : Ledger) → length (ledger_bytes g) ≡ length g.lines * 16 + length g.behind
unfolding ledger_bytes
ledger-length g = length-append (lines_bytes g.lines) g.behind ∙ rw (length-lines-bytes g.lines)

-- what is known of a ledger of n bytes with its lines
pub record Holds (n : ℕ) (g : Ledger) : Type 0 where
  pub each : Each Writable g.lines
  pub drawn : overdrawn [] g.lines ≡ false
  pub size : length (ledger_bytes g) ≡ n
  pub read : lines_of (length g.lines) (ledger_bytes g) ≡ g.lines
  pub well : ledger_malformed (ledger_bytes g) (length g.lines) ≡ false

holds_by : {n : ℕ} {g : Ledger} → Each Writable g.lines → overdrawn [] g.lines ≡ false → length (ledger_bytes g) ≡ n → Holds n g
unfolding ledger_bytes
holds_by {n} {g} each drawn size = record {
  each = each;
  drawn = drawn;
  size = size;
  read = lines-read g.lines g.behind each;
  well = written-well g.lines g.behind each drawn;
}

pub holds-none : (t : List ℕ) → Holds (length t) (empty_ledger t)
unfolding ledger_bytes lines_bytes overdrawn
holds-none t = holds_by tt refl refl

each_more : (ls : List Line) (l : Line) → Each Writable ls → Writable l → Each Writable (ls ++ l ∷ [])
each_more [] l h k = (k, tt)
each_more (x ∷ ls) l h k = (h.0, each_more ls l h.1 k)

pub holds_more : {n : ℕ} {g : Ledger} → Holds n g → (l : Line) → length g.lines < n / 16 → Sized l → right_for l.kind l ≡ true
    → (withdraws l && eqb (length (stack [] g.lines)) 0) ≡ false → Holds n (appended g (l ∷ []))
holds_more {n} {g} h l room sized right d =
    let whole = ledger-length g in
    let s : length g.lines * 16 + length g.behind ≡ n = sym whole ∙ h.size in
    let e : length (standing g.lines) ≡ length (stack [] g.lines) = length-standing g.lines in
    holds_by
    (each_more g.lines l h.each (record { sized = sized; right = right }))
    (overdrawn-more [] g.lines l ∙ rw (h.drawn, e, d))
    (ledger-length (appended g (l ∷ [])) ∙ rw (one_more g.lines l, length-drop) (omega arith))

-- compaction
pub compacted-is : (g : Ledger) → compacted g.lines g.behind ≡ ledger_bytes (only_standing g)
unfolding compacted ledger_bytes
compacted-is g = refl

pub holds-standing : {n : ℕ} {g : Ledger} → Holds n g → Holds n (only_standing g)
holds-standing {n} {g} h =
    holds_by
    (each-standing Writable g.lines h.each)
    (never-overdrawn g.lines)
    (ap length (sym (compacted-is g)) ∙ compacted-length g.lines g.behind ∙ sym (ledger-length g) ∙ h.size)
