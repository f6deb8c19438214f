-- Compaction as the function makes it: the standing lines gathered, moved to the front, and zeros behind them.
-- Assumes nothing.
use mathlib.Core.Path.{◌≡◌, refl, sym, ap, ◌∙◌}
use mathlib.Core.Bool.{true, false}
use mathlib.Core.List.{List, ◌++◌, append_assoc}
use Prim.Native.Nat.{ℕ, ◌+◌, ◌-◌, ◌*◌, ◌≤◌}
use native.Mathlib.Omega.{arith}
use lib.ListN.{length, take, drop}
use lib.Seq.{take-add, take_at, drop_at, drop-drop, length-take-le}
use Rattle.std.specs.Prelude.{Err, Ok}
use Rattle.lists.specs.Bytes.{zeros}
use Rattle.refusal.specs.declared.Refusal.TheVariants as R
use Rattle.ledger.specs.declared.Line.{Line}
use Rattle.ledger.specs.Lines.{lines_of, lines_bytes}
use Rattle.ledger.specs.Standing.{standing}
use Rattle.ledger.specs.Ledger.{ledger_malformed}
use Rattle.ledger.proofs.Scanning.{lines_fit, length-lines}
use Rattle.ledger.proofs.Written.{length-lines-bytes}
use Rattle.splice.specs.Moves.{without_front}
use Rattle.splice.proofs.Tables.{front_out}
use Rattle.compaction.specs.Compact.{compacted, compact_answer, compact_bytes}
use Rattle.compaction.specs.Gather.{Gathered}
use Rattle.compaction.proofs.Alike.{compact-answer, compact-bytes}

part-fits : (t : List ℕ) (n : ℕ) (g : List ℕ) (to : ℕ) → ledger_malformed t n ≡ false → Gathered t n g to → to * 16 ≤ length (take (n * 16) g)
part-fits t n g to w h =
    let k : n * 16 ≤ length g = omega (arith, lines_fit t n w, h.size) in
    rw (length-take-le (n * 16) g k) (omega (arith, h.count))

compacted-parts : (ls : List Line) (r : List ℕ) → compacted ls r ≡ lines_bytes (standing ls) ++ (zeros ((length ls - length (standing ls)) * 16) ++ r)
unfolding compacted
compacted-parts ls r = refl

pub compact-refused : (t : List ℕ) (n : ℕ) → ledger_malformed t n ≡ true → (Err R.LedgerMalformed ≡ compact_answer t n) × (t ≡ compact_bytes t n)
compact-refused t n m = (sym (compact-answer t n ∙ rw m), sym (compact-bytes t n ∙ rw m))

module _ (t : List ℕ) (n : ℕ) (g : List ℕ) (to : ℕ) (d : List ℕ) (well : ledger_malformed t n ≡ false) (gathered : Gathered t n g to) where
  abbrev st : List Line
  st = standing (lines_of n t)

  abbrev count : ℕ
  count = length st

  whole : n * 16 ≡ to * 16 + count * 16
  whole = omega (arith, gathered.count)

  long : to * 16 ≤ length g
  long = omega (arith, gathered.count, gathered.size, lines_fit t n well)

  front : drop (to * 16) (take (n * 16) g) ≡ lines_bytes st
  front =
      rw (whole, take-add (to * 16) (count * 16) g, drop_at (take (to * 16) g) (take (count * 16) (drop (to * 16) g)) (to * 16) (length-take-le (to * 16) g long), gathered.lines)
      (take_at (lines_bytes st) (drop (n * 16) t) (count * 16) (length-lines-bytes st))

  behind : drop (n * 16) g ≡ drop (n * 16) t
  behind =
      ap (λ (k : ℕ). drop k g) whole ∙ sym (drop-drop (count * 16) (to * 16) g) ∙ ap (drop (count * 16)) gathered.lines
      ∙ drop_at (lines_bytes st) (drop (n * 16) t) (count * 16) (length-lines-bytes st)

  pub compact-done : d ≡ without_front (take (n * 16) g) (to * 16) → (Ok (n - to) ≡ compact_answer t n) × (d ++ drop (n * 16) g ≡ compact_bytes t n)
  compact-done e =
      let k : n - to ≡ count = omega (arith, gathered.count) in
      let z : (length (lines_of n t) - count) * 16 ≡ to * 16 = omega (arith, length-lines n t, gathered.count) in
      (sym (compact-answer t n ∙ rw (well, k)), rw (e, front_out (take (n * 16) g) (to * 16) (part-fits t n g to well gathered), front, behind, append_assoc, compact-bytes t n, well, compacted-parts (lines_of n t) (drop (n * 16) t), z))
