-- The lines of a listing, written from the last to the first.
-- Assumes nothing.
use Rattle.std.specs.Prelude.{None, Some}
use mathlib.Core.Path.{◌≡◌, refl, sym, ap, ◌∙◌, subst}
use mathlib.Core.Bool.{Bool, true, false, not, ◌&&◌}
use mathlib.Core.List.{List, ◌∷◌, ◌++◌}
use Prim.Native.Nat.{ℕ, zero, suc, ◌+◌, ◌-◌, ◌*◌, ◌≤◌, ◌<◌}
use native.Mathlib.Numerals.{add-one}
use native.Mathlib.Omega.{arith}
use lib.ListN.{length, drop}
use borrow.Author.Tests.{lt-ltb}
use Rattle.lists.specs.Bytes.{big}
use Rattle.ledger.specs.declared.Line.{Line}
use Rattle.ledger.specs.Lines.{fields_of, line_of, bytes_at, lines_of, some_malformed}
use Rattle.ledger.specs.Standing.{withdraws, cancelled}
use Rattle.ledger.proofs.StandingLaws.{depth, cancelled-is, depth_small}
use Rattle.ledger.proofs.Scanning.{lines-from, malformed-from, malformed-later, line-fields, length-lines}
use Rattle.listing.specs.declared.Step.{Step}
use Rattle.listing.specs.Writing.{Wrote}
use Rattle.listing.specs.Listing.{line_text, lines_text, step_back}
use Rattle.listing.proofs.WritingLaws.{wrote_none, wrote_then}
use Rattle.listing.proofs.Lengths.{length-line}

-- what the step back says of a line and the lines after it
step_is : (l : Line) (ls : List Line) → step_back (depth ls) l ≡ record { cancelled = not (withdraws l) && cancelled ls; skip = depth (l ∷ ls) }
unfolding step_back depth
step_is l ls = go (withdraws l) refl (depth ls) refl
  where
    go : (t : Bool) → withdraws l ≡ t → (d : ℕ) → depth ls ≡ d → step_back (depth ls) l ≡ record { cancelled = not (withdraws l) && cancelled ls; skip = depth (l ∷ ls) }
    go true e d f = rw (e, add-one)
    go false e zero f = rw (e, cancelled-is ls, f)
    go false e (suc d) f =
        let p : suc d - 1 ≡ d = omega arith in
        rw (e, cancelled-is ls, f, lt-ltb 0 (suc d) (omega arith), p)

pub lines_cons : (number : ℕ) (l : Line) (ls : List Line) → lines_text number (l ∷ ls) ≡ line_text number l (not (withdraws l) && cancelled ls) ++ lines_text (suc number) ls
unfolding lines_text
lines_cons number l ls = refl

-- none of the lines is malformed
pub well-at : (t : List ℕ) (n j : ℕ) → j < n → some_malformed n t ≡ false → line_of (bytes_at t j) ≡ None → ⊥
well-at t n j h w m =
    let b : some_malformed (n - j) (drop (j * 16) t) ≡ true = malformed-from t n j h ∙ rw m in
    let c : some_malformed n t ≡ true = malformed-later t n j (omega arith) b in
    let z : ◌≡◌ {A = ℕ} 0 1 = let q : true ≡ false = sym c ∙ w in cc in
    omega arith

-- the lines from i on are written
pub record Entering (t : List ℕ) (n i skip : ℕ) (b : List ℕ) (at : ℕ) (c : List ℕ) (place : ℕ) : Type 0 where
  pub upto : i ≤ n
  pub deep : skip ≡ depth (lines_of (n - i) (drop (i * 16) t))
  pub wrote : Wrote b at c place (lines_text (suc i) (lines_of (n - i) (drop (i * 16) t)))
  pub room : i * 80 ≤ place

pub entering-start : (t : List ℕ) (n : ℕ) (b : List ℕ) (at : ℕ) → n * 80 ≤ at → at ≤ length b → Entering t n n 0 b at b at
unfolding lines_of depth lines_text
entering-start t n b at h k =
    let e : n - n ≡ 0 = omega arith in
    record { upto = omega arith; deep = rw e; wrote = rw e (wrote_none b at k); room = h }

module _ {t : List ℕ} {n i skip : ℕ} {b : List ℕ} {at : ℕ} {c : List ℕ} {place : ℕ} (f : Entering t n i skip b at c place) where
  pub skip-small : skip + i ≤ n
  skip-small =
      let ls = lines_of (n - i) (drop (i * 16) t) in
      omega (arith, f.deep, f.upto, depth_small ls, length-lines (n - i) (drop (i * 16) t))

  pub entering-more : (j : ℕ) (l : Line) (s : Step) (c' : List ℕ) (place' : ℕ) → i ≡ suc j → line_of (bytes_at t j) ≡ Some l → s ≡ step_back skip l
      → Wrote c place c' place' (line_text (j + 1) l s.cancelled) → Entering t n j s.skip b at c' place'
  entering-more j l s c' place' e m q w =
      let h : j < n = omega (arith, f.upto) in
      let k : Entering t n (suc j) skip b at c place = rw e at f in
      let ls : List Line = lines_of (n - suc j) (drop (suc j * 16) t) in
      let g : l ≡ fields_of (big (bytes_at t j)) = line-fields (bytes_at t j) l m in
      let all : l ∷ ls ≡ lines_of (n - j) (drop (j * 16) t) = ap (λ (x : Line). x ∷ ls) g ∙ sym (lines-from t n j h) in
      let r : s ≡ record { cancelled = not (withdraws l) && cancelled ls; skip = depth (l ∷ ls) } = q ∙ ap (λ (d : ℕ). step_back d l) k.deep ∙ step_is l ls in
      let rest : List ℕ = lines_text (suc (suc j)) ls in
      let text : line_text (j + 1) l s.cancelled ++ rest ≡ lines_text (suc j) (lines_of (n - j) (drop (j * 16) t)) =
      ap (λ (m : ℕ). line_text m l s.cancelled ++ rest) (add-one j) ∙ ap (λ (x : Step). line_text (suc j) l x.cancelled ++ rest) r ∙ sym (lines_cons (suc j) l ls) ∙ ap (lines_text (suc j)) all in
      record {
        upto = omega arith;
        deep = ap (λ (x : Step). x.skip) r ∙ ap depth all;
        wrote = subst (λ (x : List ℕ). Wrote b at c' place' x) text (wrote_then k.wrote w);
        room = omega (arith, k.room, w.place, length-line (j + 1) l s.cancelled);
      }

  pub entering-done : i ≤ 0 → Wrote b at c place (lines_text 1 (lines_of n t))
  entering-done h =
      let e : i ≡ 0 = omega arith in
      let z : n - 0 ≡ n = omega arith in
      let k : Entering t n 0 skip b at c place = rw e at f in
      subst (λ (m : ℕ). Wrote b at c place (lines_text 1 (lines_of m t))) z k.wrote
