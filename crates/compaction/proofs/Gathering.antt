-- The pass that gathers the standing lines, from the last line to the first.
-- Assumes nothing.
use mathlib.Core.Path.{◌≡◌, refl, sym, ap, ◌∙◌}
use mathlib.Core.Bool.{Bool, true, false, not, ◌&&◌}
use mathlib.Core.List.{List, [], ◌∷◌, ◌++◌, append_assoc}
use Prim.Native.Nat.{ℕ, suc, pred, ◌+◌, ◌-◌, ◌*◌, ◌/◌, ◌≤◌, ◌<◌}
use native.Mathlib.Nat.{add-zero}
use native.Mathlib.Omega.{arith}
use lib.ListN.{length, take, drop, get_or, length-take, length-drop, get_or-eq_default}
use lib.Seq.{take-add, take-take, drop_at, take-append-le, length-take-le, get_or-take, get_or-drop}
use lib.Dec.{eqb, ltb}
use borrow.Author.Tests.{lt-ltb, le-ltb, ltb-true, ltb-false, eq-eqb, ne_eqb}
use Rattle.std.specs.Prelude.{if◌then◌else◌, None, Option, Some}
use Rattle.lists.specs.Bytes.{big}
use Rattle.ledger.specs.declared.Line.{Line}
use Rattle.ledger.specs.Lines.{line_bytes, lines_bytes, line_of, fields_of, lines_of, bytes_at, some_malformed}
use Rattle.ledger.specs.Standing.{withdraws, standing}
use Rattle.ledger.specs.Ledger.{capacity, with_line}
use Rattle.ledger.proofs.Packing.{bytes-of-line, kind-byte}
use Rattle.ledger.proofs.StandingLaws.{depth, cancelled-is, depth_small}
use Rattle.ledger.proofs.Scanning.{lines-from, malformed-from, malformed-later, line-fields, length-lines}
use Rattle.ledger.proofs.Appending.{length-appended}
use Rattle.splice.specs.Moves.{moved}
use Rattle.compaction.specs.Gather.{Gathered}

-- the lines from index i on
abbrev pub lines_from : List ℕ → ℕ → ℕ → List Line
lines_from t n i = lines_of (n - i) (drop (i * 16) t)

pub record Gathering (t₀ : List ℕ) (n : ℕ) (t : List ℕ) (skip to i : ℕ) : Type 0 where
  pub fits : n ≤ capacity t₀
  pub well : some_malformed n t₀ ≡ false
  pub upto : i ≤ to
  pub size : length t ≡ length t₀
  pub deep : skip ≡ depth (lines_from t₀ n i)
  pub count : to + length (standing (lines_from t₀ n i)) ≡ n
  pub before : take (i * 16) t ≡ take (i * 16) t₀
  pub lines : drop (to * 16) t ≡ lines_bytes (standing (lines_from t₀ n i)) ++ drop (n * 16) t₀

none_from : (t : List ℕ) (n : ℕ) → lines_from t n n ≡ []
unfolding lines_of
none_from t n = let e : n - n ≡ 0 = omega arith in rw e

pub gathering-start : (t : List ℕ) (n : ℕ) → n ≤ capacity t → some_malformed n t ≡ false → Gathering t n t 0 n n
unfolding depth standing lines_bytes
gathering-start t n h w = record {
  fits = h;
  well = w;
  upto = omega arith;
  size = refl;
  deep = rw (none_from t n);
  count = rw (none_from t n) (omega arith);
  before = refl;
  lines = rw (none_from t n);
}

-- as many lines are cancelled as there are after, at most
pub gathering-small : {t₀ t : List ℕ} {n skip to i : ℕ} → Gathering t₀ n t skip to i → skip + i ≤ n
gathering-small {t₀} {t} {n} {skip} {to} {i} g =
    omega (arith, g.deep, depth_small (lines_from t₀ n i), length-lines (n - i) (drop (i * 16) t₀), g.upto, g.count)

-- a line by the bytes up to its end
bytes-within : (t : List ℕ) (j : ℕ) → j * 16 ≤ length t → bytes_at t j ≡ drop (j * 16) (take (j * 16 + 16) t)
bytes-within t j h = sym (rw (take-add (j * 16) 16 t) (drop_at (take (j * 16) t) _ (j * 16) (length-take-le (j * 16) t h)))

-- the 16 bytes of a line

length_at : (t : List ℕ) (j : ℕ) → j * 16 + 16 ≤ length t → length (bytes_at t j) ≡ 16
length_at t j h = length-take-le 16 (drop (j * 16) t) (rw length-drop (omega arith))

first-at : (t : List ℕ) (j : ℕ) → get_or (bytes_at t j) 0 0 ≡ get_or t (j * 16) 0
first-at t j = get_or-take 16 (drop (j * 16) t) 0 0 (omega arith) ∙ get_or-drop (j * 16) t 0 0 ∙ rw add-zero

part_small : (t : List ℕ) (j : ℕ) → ((k : ℕ) → get_or t k 0 < 256) → (i : ℕ) → get_or (bytes_at t j) i 0 < 256
part_small t j small i = go (ltb i 16) refl
  where
    go : (b : Bool) → ltb i 16 ≡ b → get_or (bytes_at t j) i 0 < 256
    go true e = rw (get_or-take 16 (drop (j * 16) t) i 0 (ltb-true i 16 e), get_or-drop (j * 16) t i 0) (small (j * 16 + i))
    go false e =
        let h : length (bytes_at t j) ≤ i = omega (arith, length-take 16 (drop (j * 16) t), ltb-false i 16 e) in
        rw (get_or-eq_default (bytes_at t j) 0 h) (omega arith)

-- copied to place k, they are the line written there
copied-line : (t : List ℕ) (j k : ℕ) (l : Line) → line_bytes l ≡ bytes_at t j → moved t (j * 16) (k * 16) 16 ≡ with_line t k l
unfolding moved with_line
copied-line t j k l e = rw e

depth-more : (l : Line) (ls : List Line) → depth (l ∷ ls) ≡ if◌then◌else◌ (withdraws l) (suc (depth ls)) (pred (depth ls))
unfolding depth
depth-more l ls = refl

standing-more : (l : Line) (ls : List Line) → standing (l ∷ ls) ≡ if◌then◌else◌ (not (withdraws l) && not (ltb 0 (depth ls))) (l ∷ standing ls) (standing ls)
unfolding standing
standing-more l ls = rw (cancelled-is ls)

lines-bytes-more : (l : Line) (ls : List Line) → lines_bytes (l ∷ ls) ≡ line_bytes l ++ lines_bytes ls
unfolding lines_bytes
lines-bytes-more l ls = refl

with-line : (t : List ℕ) (k : ℕ) (l : Line) → with_line t k l ≡ take (k * 16) t ++ (line_bytes l ++ drop (k * 16 + 16) t)
unfolding with_line
with-line t k l = refl

module _ {t₀ t : List ℕ} {n skip to i : ℕ} (g : Gathering t₀ n t skip to i) (j : ℕ) (e : i ≡ suc j) where
  inside : suc j ≤ n
  inside = omega (arith, g.upto, g.count)

  place : suc j * 16 ≡ j * 16 + 16
  place = omega arith

  same-before : take (suc j * 16) t ≡ take (suc j * 16) t₀
  same-before = rw (← e) g.before

  here : bytes_at t j ≡ bytes_at t₀ j
  here =
      let k : suc j * 16 ≤ length t₀ = omega (arith, g.fits, inside) in
      bytes-within t j (rw g.size (omega arith)) ∙ rw (← place, same-before, place) (sym (bytes-within t₀ j (omega arith)))

  fewer : take (j * 16) t ≡ take (j * 16) t₀
  fewer = sym (take-take (j * 16) (suc j * 16) t (omega arith)) ∙ rw same-before (take-take (j * 16) (suc j * 16) t₀ (omega arith))

  -- no line is malformed
  never-malformed : line_of (bytes_at t j) ≡ None → ⊥
  never-malformed m =
      let bad : some_malformed (n - j) (drop (j * 16) t₀) ≡ true = malformed-from t₀ n j inside ∙ rw (← here, m) in
      let all : some_malformed n t₀ ≡ true = malformed-later t₀ n j (omega (arith, inside)) bad in
      let z : ◌≡◌ {A = ℕ} 0 1 = cc g.well in omega arith

  -- the line there
  abbrev l : Line
  l = fields_of (big (bytes_at t j))

  read : line_of (bytes_at t j) ≡ Some l
  read = go (line_of (bytes_at t j)) refl
    where
      go : (a : Option Line) → line_of (bytes_at t j) ≡ a → line_of (bytes_at t j) ≡ Some l
      go (Some x) e = e ∙ ap Some (line-fields (bytes_at t j) x e)
      go None e = absurd (never-malformed e)

  now : lines_from t₀ n j ≡ l ∷ lines_from t₀ n i
  now = lines-from t₀ n j inside ∙ rw (← here, ← e)

  module _ (small : (k : ℕ) → get_or t k 0 < 256) where
    there : j * 16 + 16 ≤ length t
    there = rw g.size (omega (arith, g.fits, inside))

    -- its kind by the first byte
    kind-is : withdraws l ≡ eqb (get_or t (j * 16) 0 / 64) 2
    kind-is = kind-byte (bytes_at t j) l (length_at t j there) (part_small t j small) read ∙ rw (first-at t j)

    -- a withdrawal
    pub gathering-back : get_or t (j * 16) 0 / 64 ≡ 2 → Gathering t₀ n t (skip + 1) to j
    gathering-back two =
        let w : withdraws l ≡ true = kind-is ∙ eq-eqb (get_or t (j * 16) 0 / 64) 2 two in
        record {
          fits = g.fits;
          well = g.well;
          upto = omega (arith, g.upto);
          size = g.size;
          deep = rw (now, depth-more l (lines_from t₀ n i), w) (omega (arith, g.deep));
          count = rw (now, standing-more l (lines_from t₀ n i), w) g.count;
          before = fewer;
          lines = rw (now, standing-more l (lines_from t₀ n i), w) g.lines;
        }

    -- a cancelled line
    pub gathering-skip : (get_or t (j * 16) 0 / 64 ≡ 2 → ⊥) → 0 < skip → Gathering t₀ n t (skip - 1) to j
    gathering-skip other h =
        let w : withdraws l ≡ false = kind-is ∙ ne_eqb (get_or t (j * 16) 0 / 64) 2 other in
        let deep : 0 < depth (lines_from t₀ n i) = omega (arith, g.deep) in
        let c : ltb 0 (depth (lines_from t₀ n i)) ≡ true = lt-ltb 0 (depth (lines_from t₀ n i)) deep in
        record {
          fits = g.fits;
          well = g.well;
          upto = omega (arith, g.upto);
          size = g.size;
          deep = rw (now, depth-more l (lines_from t₀ n i), w) (let p : skip - 1 ≡ pred (depth (lines_from t₀ n i)) = omega (arith, g.deep) in p);
          count = rw (now, standing-more l (lines_from t₀ n i), w, c) g.count;
          before = fewer;
          lines = rw (now, standing-more l (lines_from t₀ n i), w, c) g.lines;
        }

    -- a line that stands
    pub gathering-stay : (get_or t (j * 16) 0 / 64 ≡ 2 → ⊥) → skip ≤ 0 → Gathering t₀ n (moved t (j * 16) ((to - 1) * 16) 16) skip (to - 1) j
    gathering-stay other h =
        let w : withdraws l ≡ false = kind-is ∙ ne_eqb (get_or t (j * 16) 0 / 64) 2 other in
        let deep : depth (lines_from t₀ n i) ≤ 0 = omega (arith, g.deep) in
        let c : ltb 0 (depth (lines_from t₀ n i)) ≡ false = le-ltb 0 (depth (lines_from t₀ n i)) deep in
        let k : ℕ = to - 1 in
        let next : k * 16 + 16 ≡ to * 16 = omega (arith, g.upto) in
        let room : k < capacity t = rw g.size (omega (arith, g.upto, g.count, g.fits)) in
        let long : k * 16 ≤ length t = omega arith in
        let same : line_bytes l ≡ bytes_at t j = bytes-of-line (bytes_at t j) l (length_at t j there) (part_small t j small) read in
        let st : standing (lines_from t₀ n j) ≡ l ∷ standing (lines_from t₀ n i) = rw (now, standing-more l (lines_from t₀ n i), w, c) in
        rw (copied-line t j k l same)
        (record {
          fits = g.fits;
          well = g.well;
          upto = omega (arith, g.upto);
          size = length-appended t k l room ∙ g.size;
          deep = rw (now, depth-more l (lines_from t₀ n i), w) (let p : skip ≡ pred (depth (lines_from t₀ n i)) = omega (arith, g.deep) in p);
          count = rw st (let p : k + suc (length (standing (lines_from t₀ n i))) ≡ n = omega (arith, g.count, g.upto) in p);
          before =
              rw (with-line t k l, take-append-le (j * 16) (take (k * 16) t) _ (rw (length-take-le (k * 16) t long) (omega (arith, g.upto))), take-take (j * 16) (k * 16) t (omega (arith, g.upto)))
              fewer;
          lines =
              rw (with-line t k l, drop_at (take (k * 16) t) (line_bytes l ++ drop (k * 16 + 16) t) (k * 16) (length-take-le (k * 16) t long), next, g.lines, st, lines-bytes-more l (standing (lines_from t₀ n i)), append_assoc);
        })

pub gathering-done : {t₀ t : List ℕ} {n skip to i : ℕ} → Gathering t₀ n t skip to i → i ≡ 0 → Gathered t₀ n t to
gathering-done {t₀} {t} {n} {skip} {to} {i} g z =
    let e : lines_from t₀ n i ≡ lines_of n t₀ = let m : n - i ≡ n = omega arith in let k : i * 16 ≡ 0 = omega arith in rw (m, k) in
    record { count = rw (← e) g.count; size = g.size; lines = rw (← e) g.lines }
