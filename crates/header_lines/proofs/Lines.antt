-- Laws of the line table and of `starts_with`.
-- Assumes nothing.
use mathlib.Core.Path.{◌≡◌, refl, sym, ◌∙◌}
use mathlib.Core.Bool.{Bool, true, false, ◌&&◌}
use mathlib.Core.List.{List, [], ◌∷◌}
use lib.Pointwise.{pointwise}
use Prim.Native.Nat.{ℕ, zero, suc, ◌+◌, ◌-◌, ◌*◌, ◌≤◌, ◌<◌}
use native.Mathlib.Numerals.{add-one}
use native.Mathlib.Nat.{add-suc}
use native.Mathlib.Omega.{arith}
use borrow.Author.Tests.{eq-eqb, ne_eqb, leb-true}
use lib.Dec.{eqb, leb, leb→le}
use lib.ListN.{length, get_or, take, drop, drop_of_length-le}
use lib.Seq.{drop-cons}
use Rattle.std.specs.Prelude.{if◌then◌else◌, None, Some}
use Rattle.lists.proofs.Tests.{and-false, every-at}
use Rattle.header_lines.specs.declared.Line.{Line}
use Rattle.header_lines.specs.declared.LineId.{LineId}
use Rattle.header_lines.specs.declared.LineId.TheVariants as I
use Rattle.header_lines.specs.Lines.{starts_with, lines, no_line, index_of, line_of, position_of, place_in, place_of}

-- std's prefix of a line is the definition's
pub start-in : (n s : List ℕ) (k : ℕ) → length n ≤ k → pointwise eqb n (take (length n) (take k s)) ≡ starts_with n s
unfolding starts_with
start-in [] s k h = refl
start-in (n ∷ ns) s zero h = absurd (omega arith)
start-in (n ∷ ns) [] (suc k) h = refl
start-in (n ∷ ns) (b ∷ bs) (suc k) h = rw (start-in ns bs k (omega arith))

pub start-by : (n s : List ℕ) (at : ℕ) (r : Bool) → length n ≤ 80 → r ≡ pointwise eqb n (take (length n) (take (at + 80 - at) (drop at s))) → r ≡ starts_with n (drop at s)
start-by n s at r h e = e ∙ start-in n (drop at s) (at + 80 - at) (omega arith)

pub index-small : (id : LineId) → index_of id < 9
index-small I.Format = omega arith
index-small I.Version = omega arith
index-small I.Hdrblks = omega arith
index-small I.Noverfl = omega arith
index-small I.Npixelb = omega arith
index-small I.Nrows = omega arith
index-small I.Ncols = omega arith
index-small I.Linear = omega arith
index-small I.Nexp = omega arith

pub position-small : (id : LineId) → position_of id ≤ 79
unfolding line_of
position-small id = leb→le (get_or lines (index_of id) no_line).position 79 (every-at (λ (l : Line). leb l.position 79) lines no_line tt tt (index_of id))

placed : (a b : Bool) (start from n : ℕ) → a ≡ leb (from + 80) n → Some start ≡ if◌then◌else◌ (a && b) (Some (from + 8)) None → start + 72 ≤ n
placed true true start from n t p = let e : start ≡ from + 8 = cc in omega (arith, leb-true (from + 80) n (sym t))
placed true false start from n t p = let z : ◌≡◌ {A = ℕ} 0 1 = cc in absurd (omega arith)
placed false b start from n t p = let z : ◌≡◌ {A = ℕ} 0 1 = cc in absurd (omega arith)

-- a line's data ends within the header
pub place-within : (header : List ℕ) (id : LineId) (start : ℕ) → Some start ≡ place_of header id → start + 72 ≤ length header
unfolding place_in
place-within header id start p = placed _ _ start (position_of id * 80) (length header) refl p
