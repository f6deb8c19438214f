-- Two ledgers of one length with the same stack, the second with no more lines used: what keeps them so.
-- Assumes nothing.
use mathlib.Core.Path.{◌≡◌, refl, sym, ap, ◌∙◌}
use mathlib.Core.Bool.{Bool, false}
use mathlib.Core.List.{List, []}
use Prim.Native.Nat.{ℕ, ◌+◌, ◌*◌, ◌/◌, ◌≤◌, ◌<◌}
use native.Mathlib.Omega.{arith}
use lib.ListN.{length, drop, length-drop}
use Rattle.std.specs.Prelude.{if◌then◌else◌, Err, Ok}
use Rattle.refusal.specs.declared.Refusal.TheVariants as R
use Rattle.ledger.specs.declared.Line.{Line}
use Rattle.ledger.specs.Lines.{lines_of}
use Rattle.ledger.specs.Standing.{standing, last_standing}
use Rattle.ledger.specs.Ledger.{capacity, ledger_malformed, with_line}
use Rattle.ledger.proofs.StandingLaws.{stack, stack-more, length-standing, standing-small}
use Rattle.ledger.proofs.Scanning.{lines-well, lines_fit, length-lines}
use Rattle.ledger.proofs.Appending.{read_as, lines-appended, length-appended, ledger-appended, found_lines, first_where, last-is-top}
use Rattle.ledger.proofs.Written.{lines-writable}
use Rattle.compaction.specs.Compact.{compacted, compact_answer, compact_bytes}
use Rattle.compaction.proofs.Laws.{standing-again, stack-again, compacted-length, compacted-behind, compacted-again, compacted-read, compacted-well}

pub record Alike (t : List ℕ) (n : ℕ) (u : List ℕ) (k : ℕ) : Type 0 where
  pub size : length u ≡ length t
  pub fewer : k ≤ n
  pub malformed : ledger_malformed u k ≡ ledger_malformed t n
  pub top : stack [] (lines_of k u) ≡ stack [] (lines_of n t)

-- the last standing line that passes a test is the same, its index apart
pub alike-last : {t u : List ℕ} {n k : ℕ} → Alike t n u k → (test : Line → Bool) → found_lines (last_standing test 0 (lines_of k u)) ≡ found_lines (last_standing test 0 (lines_of n t))
alike-last {t} {u} {n} {k} a test = last-is-top test 0 (lines_of k u) ∙ ap (first_where test) a.top ∙ sym (last-is-top test 0 (lines_of n t))

-- the same line written after both
pub alike-more : {t u : List ℕ} {n k : ℕ} → Alike t n u k → n < length t / 16 → (l : Line) → Alike (with_line t n l) (n + 1) (with_line u k l) (k + 1)
alike-more {t} {u} {n} {k} a room l =
    let e : length u ≡ length t = a.size in
    let free : k < length u / 16 = rw e (omega (arith, a.fewer)) in
    record {
      size = length-appended u k l free ∙ e ∙ sym (length-appended t n l room);
      fewer = omega (arith, a.fewer);
      malformed = ledger-appended u k l free ∙ rw (a.malformed, a.top) (sym (ledger-appended t n l room));
      top = rw (lines-appended u k l free, lines-appended t n l room, stack-more [] (lines_of k u) (read_as l), stack-more [] (lines_of n t) (read_as l), a.top);
    }

-- compaction

pub compact-answer : (t : List ℕ) (n : ℕ) → compact_answer t n ≡ if◌then◌else◌ (ledger_malformed t n) (Err R.LedgerMalformed) (Ok (length (standing (lines_of n t))))
unfolding compact_answer
compact-answer t n = refl

pub compact-bytes : (t : List ℕ) (n : ℕ) → compact_bytes t n ≡ if◌then◌else◌ (ledger_malformed t n) t (compacted (lines_of n t) (drop (n * 16) t))
unfolding compact_bytes
compact-bytes t n = refl

-- of a ledger that is well formed
pub record Compacting (t : List ℕ) (n : ℕ) (u : List ℕ) (k : ℕ) : Type 0 where
  pub size : length u ≡ length t
  pub fewer : k ≤ n
  pub well : ledger_malformed u k ≡ false
  pub top : stack [] (lines_of k u) ≡ stack [] (lines_of n t)
  pub count : k ≡ length (stack [] (lines_of n t))

pub compacting : (t : List ℕ) (n : ℕ) → ledger_malformed t n ≡ false → Compacting t n (compacted (lines_of n t) (drop (n * 16) t)) (length (standing (lines_of n t)))
compacting t n w =
    let ls : List Line = lines_of n t in
    let r : List ℕ = drop (n * 16) t in
    let h = lines-writable n t (lines-well t n w) in
    let long : length ls ≡ n = length-lines n t in
    let fits : n ≤ capacity t = lines_fit t n w in
    record {
      size = compacted-length ls r ∙ rw (long, length-drop) (omega arith);
      fewer = omega (arith, standing-small ls, long);
      well = compacted-well ls r h;
      top = rw (compacted-read ls r h) (stack-again ls);
      count = length-standing ls;
    }

-- compaction of both
pub alike-compacted : {t u : List ℕ} {n k : ℕ} → Alike t n u k → ledger_malformed t n ≡ false
    → Alike (compacted (lines_of n t) (drop (n * 16) t)) (length (standing (lines_of n t))) (compacted (lines_of k u) (drop (k * 16) u)) (length (standing (lines_of k u)))
alike-compacted {t} {u} {n} {k} a w =
    let c = compacting t n w in
    let d = compacting u k (a.malformed ∙ w) in
    let e : length (stack [] (lines_of k u)) ≡ length (stack [] (lines_of n t)) = ap length a.top in
    record {
      size = d.size ∙ a.size ∙ sym c.size;
      fewer = omega (arith, c.count, d.count, e);
      malformed = d.well ∙ sym c.well;
      top = d.top ∙ a.top ∙ sym c.top;
    }

-- a ledger, and the same one compacted
pub alike-first : (t : List ℕ) (n : ℕ) → ledger_malformed t n ≡ false → Alike t n (compacted (lines_of n t) (drop (n * 16) t)) (length (standing (lines_of n t)))
alike-first t n w =
    let c = compacting t n w in
    record { size = c.size; fewer = c.fewer; malformed = c.well ∙ sym w; top = c.top }

pub alike-itself : (t : List ℕ) (n : ℕ) → Alike t n t n
alike-itself t n = record { size = refl; fewer = omega arith; malformed = refl; top = refl }

-- compacted again

pub compacted-twice : (t : List ℕ) (n : ℕ) → ledger_malformed t n ≡ false
    → (let u = compacted (lines_of n t) (drop (n * 16) t) in let k = length (standing (lines_of n t)) in
    (length (standing (lines_of k u)) ≡ k) × (compacted (lines_of k u) (drop (k * 16) u) ≡ u))
compacted-twice t n w =
    let ls : List Line = lines_of n t in
    let r : List ℕ = drop (n * 16) t in
    let h = lines-writable n t (lines-well t n w) in
    (rw (compacted-read ls r h, standing-again ls), rw (compacted-read ls r h, compacted-behind ls r) (compacted-again ls r))
