-- The last standing line that passes a test: it decides; the listing has it under its number; and after withdrawals that took it, an earlier one decides, or none.
-- Assumes nothing.
use Rattle.ledger.specs.Standing.{line_found}
use Rattle.ledger.specs.declared.Found.{Found}
use mathlib.Core.Path.{◌≡◌, refl, sym, ap, ◌∙◌}
use mathlib.Core.Bool.{Bool, true, false, not, ◌&&◌, and-true}
use mathlib.Core.List.{List, [], ◌∷◌, ◌++◌, append_assoc}
use Prim.Native.Nat.{ℕ, zero, suc, pred, ◌+◌, ◌-◌, ◌≤◌, ◌<◌}
use native.Mathlib.Omega.{arith}
use lib.ListN.{length, drop, length-drop}
use lib.Dec.{ltb}
use borrow.Author.Tests.{not-true, le-ltb, ltb-true, ltb-false}
use Rattle.std.specs.Prelude.{None, Option, Some}
use Rattle.lists.proofs.Tests.{and-true-left, and-true-right}
use Rattle.ledger.specs.declared.Line.{Line}
use Rattle.ledger.specs.Standing.{withdraws, stands, cancelled, last_standing}
use Rattle.ledger.specs.Lines.{lines_of}
use Rattle.ledger.proofs.StandingLaws.{depth, cancelled-is}
use Rattle.ledger.proofs.Scanning.{length-lines}
use Rattle.listing.specs.Listing.{line_text, lines_text}
use Rattle.why.specs.declared.Numbered.{Numbered}
use Rattle.why.specs.Why.{numbered}
use Rattle.why.specs.Theorems.{number_in, stands_at, NoneStands, Decides, ListedAs}

apart : true ≡ false → ⊥
apart e = let z : ◌≡◌ {A = ℕ} 0 1 = cc in omega arith

-- the line found, by its number
abbrev pub named_in : Option Found → List Numbered
named_in None = []
named_in (Some fd) = numbered fd.index fd.line ∷ []

module _ (test : Line → Bool) where
  -- nothing is found exactly where none stands

  pub none-stands : (i : ℕ) (ls : List Line) → last_standing test i ls ≡ None → NoneStands test ls
  unfolding last_standing stands_at
  none-stands i [] e m = refl
  none-stands i (x ∷ ls) e m = go m (stands x ls && test x) refl (last_standing test (suc i) ls) refl (none-stands (suc i) ls)
    where
      go : (m : ℕ) (b : Bool) → (stands x ls && test x) ≡ b → (f : Option Found) → last_standing test (suc i) ls ≡ f
          → (last_standing test (suc i) ls ≡ None → NoneStands test ls) → stands_at test m (x ∷ ls) ≡ false
      go m true q None h ih = let w : Some (line_found i x) ≡ None = rw (q, h) at e in let z : ◌≡◌ {A = ℕ} 0 1 = cc in absurd (omega arith)
      go m true q (Some fd) h ih = let w : Some (line_found fd.index fd.line) ≡ None = rw (q, h) at e in let z : ◌≡◌ {A = ℕ} 0 1 = cc in absurd (omega arith)
      go zero false q f h ih = q
      go (suc m) false q f h ih = ih (rw q at e) m

  -- what is found decides, where the first line has index i
  found_from : (i : ℕ) (ls : List Line) (j : ℕ) (l : Line) → last_standing test i ls ≡ Some (line_found j l) → (i ≤ j) × Decides test ls (numbered (j - i) l)
  unfolding last_standing stands_at
  found_from i [] j l e = let z : ◌≡◌ {A = ℕ} 0 1 = cc in absurd (omega arith)
  found_from i (x ∷ ls) j l e = go (stands x ls && test x) refl (last_standing test (suc i) ls) refl (found_from (suc i) ls j l)
    where
      later : (k : ℕ) → Decides test ls (numbered k l) → Decides test (x ∷ ls) (numbered (suc k) l)
      later k d = record { index = suc d.index; number = (let e : k + 1 ≡ suc d.index = d.number in omega arith); line = d.line; passes = d.passes; stands = d.stands; last = λ m h. at m h }
        where
          at : (m : ℕ) → suc d.index < m → stands_at test m (x ∷ ls) ≡ false
          at zero h = absurd (omega arith)
          at (suc m) h = d.last m (omega arith)

      on : (suc i ≤ j) × Decides test ls (numbered (j - suc i) l) → (i ≤ j) × Decides test (x ∷ ls) (numbered (j - i) l)
      on r = let e : j - i ≡ suc (j - suc i) = omega (arith, r.0) in (omega (arith, r.0), rw e (later (j - suc i) r.1))

      first : (stands x ls && test x) ≡ true → NoneStands test ls → Decides test (x ∷ ls) (numbered 0 x)
      first q n = record { index = 0; number = refl; line = refl; passes = and-true-right (stands x ls) (test x) q; stands = and-true-left (stands x ls) (test x) q; last = λ m h. at m h }
        where
          at : (m : ℕ) → 0 < m → stands_at test m (x ∷ ls) ≡ false
          at zero h = absurd (omega arith)
          at (suc m) h = n m

      go : (b : Bool) → (stands x ls && test x) ≡ b → (f : Option Found) → last_standing test (suc i) ls ≡ f
          → (last_standing test (suc i) ls ≡ Some (line_found j l) → (suc i ≤ j) × Decides test ls (numbered (j - suc i) l)) → (i ≤ j) × Decides test (x ∷ ls) (numbered (j - i) l)
      go false q f h ih = on (ih (rw q at e))
      go true q (Some fd) h ih = let w : Some (line_found fd.index fd.line) ≡ Some (line_found j l) = rw (q, h) at e in on (ih (h ∙ w))
      go true q None h ih =
          let w : Some (line_found i x) ≡ Some (line_found j l) = rw (q, h) at e in
          let f : line_found i x ≡ line_found j l = cc in
          let k : i ≡ j = ap (λ (fd : Found). fd.index) f in
          let y : x ≡ l = ap (λ (fd : Found). fd.line) f in
          let z : j - i ≡ 0 = omega arith in
          (omega arith, rw (z, ← y) (first q (none-stands (suc i) ls h)))

  pub found-decides : (ls : List Line) (d : Numbered) → named_in (last_standing test 0 ls) ≡ d ∷ [] → Decides test ls d
  found-decides ls d e = go (last_standing test 0 ls) refl e
    where
      go : (f : Option Found) → last_standing test 0 ls ≡ f → named_in f ≡ d ∷ [] → Decides test ls d
      go None q h = let z : ◌≡◌ {A = ℕ} 0 1 = cc in absurd (omega arith)
      go (Some fd) q h =
          let is : numbered fd.index fd.line ≡ d = cc in
          let z : fd.index - 0 ≡ fd.index = omega arith in
          rw is at (rw z at (found_from 0 ls fd.index fd.line q).1)

  stands-at : (ls : List Line) (k : ℕ) (l : Line) → drop k ls ≡ l ∷ drop (suc k) ls → stands l (drop (suc k) ls) ≡ true → test l ≡ true → stands_at test k ls ≡ true
  unfolding stands_at
  stands-at [] zero l e s p = let z : ◌≡◌ {A = ℕ} 0 1 = cc in absurd (omega arith)
  stands-at [] (suc k) l e s p = let z : ◌≡◌ {A = ℕ} 0 1 = cc in absurd (omega arith)
  stands-at (x ∷ ls) zero l e s p = let y : x ≡ l = cc in rw (y, p) (let q : (stands l ls && true) ≡ stands l ls = and-true (stands l ls) in q ∙ s)
  stands-at (x ∷ ls) (suc k) l e s p = stands-at ls k l e s p

  pub decides-stands : (ls : List Line) (d : Numbered) → (r : Decides test ls d) → stands_at test r.index ls ≡ true
  decides-stands ls d r = stands-at ls r.index d.line r.line r.stands r.passes

  pub found_nothing : (ls : List Line) → NoneStands test ls → last_standing test 0 ls ≡ None
  found_nothing ls none = go (last_standing test 0 ls) refl
    where
      go : (f : Option Found) → last_standing test 0 ls ≡ f → f ≡ None
      go None q = refl
      go (Some fd) q =
          let r = found-decides ls (numbered fd.index fd.line) (ap named_in q) in
          absurd (apart (sym (decides-stands ls (numbered fd.index fd.line) r) ∙ none r.index))

-- its number is at most that of the lines

index-small : (k : ℕ) (ls : List Line) (l : Line) (r : List Line) → drop k ls ≡ l ∷ r → k < length ls
index-small k ls l r e = omega (arith, sym (length-drop k ls) ∙ ap length e)

pub number_small : (test : Line → Bool) (t : List ℕ) (n j : ℕ) (l : Line) → last_standing test 0 (lines_of n t) ≡ Some (line_found j l) → j + 1 ≤ n
number_small test t n j l e =
    let r = found-decides test (lines_of n t) (numbered j l) (ap named_in e) in
    let is : j + 1 ≡ suc r.index = r.number in
    omega (arith, index-small r.index (lines_of n t) l _ r.line, length-lines n t)

-- the listing's text, where the first line has this number

record ListedFrom (number k : ℕ) (ls : List Line) (l : Line) : Type 0 where
  earlier : List ℕ
  text : lines_text number ls ≡ earlier ++ (line_text (number + k) l false ++ lines_text (suc (number + k)) (drop (suc k) ls))

not-withdrawn : (w c : Bool) → (not w && not c) ≡ true → (not w && c) ≡ false
not-withdrawn true c e = refl
not-withdrawn false true e = let z : ◌≡◌ {A = ℕ} 0 1 = cc in absurd (omega arith)
not-withdrawn false false e = refl

listed-from : (number k : ℕ) (ls : List Line) (l : Line) → drop k ls ≡ l ∷ drop (suc k) ls → stands l (drop (suc k) ls) ≡ true → ListedFrom number k ls l
unfolding lines_text
listed-from number zero [] l e s = let z : ◌≡◌ {A = ℕ} 0 1 = cc in absurd (omega arith)
listed-from number (suc k) [] l e s = let z : ◌≡◌ {A = ℕ} 0 1 = cc in absurd (omega arith)
listed-from number zero (x ∷ ls) l e s =
    let y : x ≡ l = cc in
    let n : number + 0 ≡ number = omega arith in
    record { earlier = []; text = rw (n, y, not-withdrawn (withdraws l) (cancelled ls) s) }
listed-from number (suc k) (x ∷ ls) l e s =
    let r = listed-from (suc number) k ls l e s in
    let n : number + suc k ≡ suc number + k = omega arith in
    record {
      earlier = line_text number x (not (withdraws x) && cancelled ls) ++ r.earlier;
      text = rw (n, r.text) (sym (append_assoc (line_text number x (not (withdraws x) && cancelled ls)) r.earlier _));
    }

pub listed-as : {test : Line → Bool} {ls : List Line} {d : Numbered} → Decides test ls d → ListedAs ls d
listed-as {test} {ls} {d} r =
    let f = listed-from 1 r.index ls d.line r.line r.stands in
    let n : 1 + r.index ≡ suc r.index = omega arith in
    record { earlier = f.earlier; text = rw r.number (rw n at f.text) }

-- withdrawals that follow cancel no less than before

abbrev pub AllWithdraw : List Line → Type 0
AllWithdraw [] = Unit {0}
AllWithdraw (l ∷ ls) = (withdraws l ≡ true) × AllWithdraw ls

depth-more : (ls ws : List Line) → depth ls ≤ depth (ls ++ ws)
unfolding depth
depth-more [] ws = omega arith
depth-more (x ∷ ls) ws = go (withdraws x) refl (depth-more ls ws)
  where
    go : (b : Bool) → withdraws x ≡ b → depth ls ≤ depth (ls ++ ws) → depth (x ∷ ls) ≤ depth (x ∷ ls ++ ws)
    go true e ih = rw e (omega arith)
    go false e ih = rw e less
      where
        less : pred (depth ls) ≤ pred (depth (ls ++ ws))
        less = omega arith

not-cancelled : (ls ws : List Line) → not (cancelled (ls ++ ws)) ≡ true → not (cancelled ls) ≡ true
not-cancelled ls ws h =
    let q : ltb 0 (depth (ls ++ ws)) ≡ false = sym (cancelled-is (ls ++ ws)) ∙ not-true (cancelled (ls ++ ws)) h in
    let k : depth (ls ++ ws) ≤ 0 = ltb-false 0 (depth (ls ++ ws)) q in
    let d : depth ls ≤ 0 = omega (arith, depth-more ls ws) in
    rw (cancelled-is ls, le-ltb 0 (depth ls) d)

module _ (test : Line → Bool) where
  withdrawals-none : (ws : List Line) → AllWithdraw ws → (m : ℕ) → stands_at test m ws ≡ false
  unfolding stands_at
  withdrawals-none [] a m = refl
  withdrawals-none (w ∷ ws) a zero = rw a.0
  withdrawals-none (w ∷ ws) a (suc m) = withdrawals-none ws a.1 m

  -- what stands after withdrawals stood before them
  stood : (ls ws : List Line) → AllWithdraw ws → (m : ℕ) → stands_at test m (ls ++ ws) ≡ true → stands_at test m ls ≡ true
  unfolding stands_at
  stood [] ws a m h = absurd (apart (sym h ∙ withdrawals-none ws a m))
  stood (x ∷ ls) ws a zero h =
      let s : (not (withdraws x) && not (cancelled (ls ++ ws))) ≡ true = and-true-left _ (test x) h in
      let c : not (cancelled ls) ≡ true = not-cancelled ls ws (and-true-right (not (withdraws x)) _ s) in
      let p : test x ≡ true = and-true-right (not (withdraws x) && not (cancelled (ls ++ ws))) (test x) h in
      let o : not (withdraws x) ≡ true = and-true-left (not (withdraws x)) _ s in
      rw (o, c, p)
  stood (x ∷ ls) ws a (suc m) h = stood ls ws a m h

  -- the deciding line of some lines, once it is gone by withdrawals: the number falls
  pub number-falls : (ls ws : List Line) → AllWithdraw ws → (d : Numbered) (r : Decides test ls d) → stands_at test r.index (ls ++ ws) ≡ false
      → number_in (named_in (last_standing test 0 (ls ++ ws))) < d.number
  number-falls ls ws a d r gone = go (last_standing test 0 (ls ++ ws)) refl
    where
      before : (k : ℕ) → stands_at test k (ls ++ ws) ≡ true → (b : Bool) → ltb k r.index ≡ b → (c : Bool) → ltb r.index k ≡ c → k < r.index
      before k now true p c q = ltb-true k r.index p
      before k now false p true q = absurd (apart (sym (stood ls ws a k now) ∙ r.last k (ltb-true r.index k q)))
      before k now false p false q =
          let y : k ≡ r.index = omega (arith, ltb-false k r.index p, ltb-false r.index k q) in
          absurd (apart (sym now ∙ (ap (λ (i : ℕ). stands_at test i (ls ++ ws)) y ∙ gone)))

      go : (f : Option Found) → last_standing test 0 (ls ++ ws) ≡ f → number_in (named_in f) < d.number
      go None e = omega (arith, r.number)
      go (Some fd) e =
          let x = found-decides test (ls ++ ws) (numbered fd.index fd.line) (ap named_in e) in
          let k = x.index in
          let n : fd.index + 1 ≡ suc k = x.number in
          omega (arith, r.number, before k (decides-stands test (ls ++ ws) (numbered fd.index fd.line) x) (ltb k r.index) refl (ltb r.index k) refl)
