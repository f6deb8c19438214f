-- The lines that stand are what a pile holds, oldest first: a line of kind 0 or 1 is put on it, a withdrawal takes the top off.
-- Assumes nothing.
use mathlib.Core.Path.{◌≡◌, refl, sym, ap, ◌∙◌}
use mathlib.Core.Bool.{Bool, true, false, not, ◌&&◌, ◌||◌}
use mathlib.Core.List.{List, [], ◌∷◌, ◌++◌, reverse, reverse-append, append_assoc, append-nil}
use Prim.Native.Nat.{ℕ, zero, suc, pred, ◌+◌, ◌-◌, ◌≤◌, ◌<◌}
use native.Mathlib.Omega.{arith}
use lib.ListN.{length, drop, length-drop, length-reverse}
use lib.Seq.{drop-nil}
use lib.Dec.{eqb, ltb}
use borrow.Author.Tests.{lt-ltb, le-ltb, ltb-true, ltb-false, ne_eqb}
use Rattle.std.specs.Prelude.{if◌then◌else◌}
use Rattle.ledger.specs.declared.Line.{Line}
use Rattle.ledger.specs.Standing.{withdraws, outnumbered, cancelled, standing, overdrawn}

-- the pile after the lines, top first
unfoldable pub stack : List Line → List Line → List Line
stack st [] = st
stack st (l ∷ ls) = if withdraws l then stack (drop 1 st) ls else stack (l ∷ st) ls

-- how many of the lines before them the lines cancel, if there are so many
unfoldable pub depth : List Line → ℕ
depth [] = 0
depth (l ∷ ls) = if withdraws l then suc (depth ls) else pred (depth ls)

-- two orders are one test
pub same-order : (a b c d : ℕ) → (a < b → c < d) → (b ≤ a → d ≤ c) → ltb a b ≡ ltb c d
same-order a b c d f g = go (ltb a b) refl
  where
    go : (t : Bool) → ltb a b ≡ t → ltb a b ≡ ltb c d
    go true e = e ∙ sym (lt-ltb c d (f (ltb-true a b e)))
    go false e = e ∙ sym (le-ltb c d (g (ltb-false a b e)))

pub outnumbered-is : (w o : ℕ) (ls : List Line) → w ≤ o → outnumbered w o ls ≡ ltb (o - w) (depth ls)
unfolding outnumbered depth
outnumbered-is w o [] h = sym (le-ltb (o - w) 0 (omega arith))
outnumbered-is w o (l ∷ ls) h = go (withdraws l) refl (λ w o h. outnumbered-is w o ls h)
  where
    more : (t : Bool) → ltb o (w + 1) ≡ t → (w + 1 ≤ o → outnumbered (w + 1) o ls ≡ ltb (o - (w + 1)) (depth ls))
        → (t || outnumbered (w + 1) o ls) ≡ ltb (o - w) (suc (depth ls))
    more true e ih = let k = ltb-true o (w + 1) e in sym (lt-ltb (o - w) (suc (depth ls)) (omega arith))
    more false e ih =
        let k : w + 1 ≤ o = ltb-false o (w + 1) e in
        ih k ∙ same-order (o - (w + 1)) (depth ls) (o - w) (suc (depth ls)) (λ x. omega arith) (λ x. omega arith)

    go : (t : Bool) → withdraws l ≡ t → ((w o : ℕ) → w ≤ o → outnumbered w o ls ≡ ltb (o - w) (depth ls)) → outnumbered w o (l ∷ ls) ≡ ltb (o - w) (depth (l ∷ ls))
    go true e ih = rw e (more (ltb o (w + 1)) refl (ih (w + 1) o))
    go false e ih =
        rw e (ih w (o + 1) (omega arith) ∙ same-order (o + 1 - w) (depth ls) (o - w) (pred (depth ls)) (λ x. omega arith) (λ x. omega arith))

pub cancelled-is : (ls : List Line) → cancelled ls ≡ ltb 0 (depth ls)
unfolding cancelled
cancelled-is ls = outnumbered-is 0 0 ls (omega arith)

-- the pile

drop-one-more : (d : ℕ) (l : Line) (st : List Line) → drop d (l ∷ st) ≡ drop d (l ∷ []) ++ drop (pred d) st
drop-one-more zero l st = refl
drop-one-more (suc d) l st = ap (λ (s : List Line). s ++ drop d st) (sym (drop-nil d))

pub stack-split : (st : List Line) (ls : List Line) → stack st ls ≡ stack [] ls ++ drop (depth ls) st
unfolding stack depth
stack-split st [] = refl
stack-split st (l ∷ ls) = go (withdraws l) refl (λ s. stack-split s ls)
  where
    popped : (s : List Line) → stack (drop 1 s) ls ≡ stack [] ls ++ drop (depth ls) (drop 1 s) → stack (drop 1 s) ls ≡ stack [] ls ++ drop (suc (depth ls)) s
    popped [] h = rw (drop-nil (depth ls)) at h
    popped (x ∷ s) h = h

    go : (t : Bool) → withdraws l ≡ t → ((s : List Line) → stack s ls ≡ stack [] ls ++ drop (depth ls) s) → stack st (l ∷ ls) ≡ stack [] (l ∷ ls) ++ drop (depth (l ∷ ls)) st
    go true e ih = rw e (popped st (ih (drop 1 st)))
    go false e ih = rw (e, ih (l ∷ st), ih (l ∷ []), drop-one-more (depth ls) l st, append_assoc)

-- one line more
pub stack-more : (st : List Line) (ls : List Line) (l : Line) → stack st (ls ++ l ∷ []) ≡ if◌then◌else◌ (withdraws l) (drop 1 (stack st ls)) (l ∷ stack st ls)
unfolding stack
stack-more st [] l = refl
stack-more st (x ∷ ls) l = go (withdraws x) refl (λ s. stack-more s ls l)
  where
    go : (t : Bool) → withdraws x ≡ t → ((s : List Line) → stack s (ls ++ l ∷ []) ≡ if◌then◌else◌ (withdraws l) (drop 1 (stack s ls)) (l ∷ stack s ls))
        → stack st (x ∷ ls ++ l ∷ []) ≡ if◌then◌else◌ (withdraws l) (drop 1 (stack st (x ∷ ls))) (l ∷ stack st (x ∷ ls))
    go true e ih = rw e (ih (drop 1 st))
    go false e ih = rw e (ih (x ∷ st))

kept : (d : ℕ) (l : Line) (st : List Line) → if◌then◌else◌ (not (ltb 0 d)) (l ∷ reverse st) (reverse st) ≡ reverse (st ++ drop d (l ∷ []))
kept zero l st = sym (reverse-append st (l ∷ []))
kept (suc d) l st = rw (lt-ltb 0 (suc d) (omega arith)) (ap reverse (sym (ap (λ (s : List Line). st ++ s) (drop-nil d) ∙ append-nil st)))

-- the lines that stand are the pile's, oldest first
pub standing-is : (ls : List Line) → standing ls ≡ reverse (stack [] ls)
unfolding standing stack
standing-is [] = refl
standing-is (l ∷ ls) = go (withdraws l) refl (standing-is ls)
  where
    go : (t : Bool) → withdraws l ≡ t → standing ls ≡ reverse (stack [] ls) → standing (l ∷ ls) ≡ reverse (stack [] (l ∷ ls))
    go true e ih = rw e ih
    go false e ih = rw (e, cancelled-is ls, ih, stack-split (l ∷ []) ls) (kept (depth ls) l (stack [] ls))

pub length-standing : (ls : List Line) → length (standing ls) ≡ length (stack [] ls)
length-standing ls = ap length (standing-is ls) ∙ length-reverse (stack [] ls)

-- a withdrawal with nothing standing: the lines cancel more than the earlier ones leave
pub overdrawn-is : (earlier ls : List Line) → overdrawn earlier ls ≡ ltb (length (standing earlier)) (depth ls)
unfolding overdrawn depth
overdrawn-is earlier [] = sym (le-ltb (length (standing earlier)) 0 (omega arith))
overdrawn-is earlier (l ∷ ls) = go (withdraws l) refl (overdrawn-is (earlier ++ l ∷ []) ls)
  where
    next : length (standing (earlier ++ l ∷ [])) ≡ length (if◌then◌else◌ (withdraws l) (drop 1 (stack [] earlier)) (l ∷ stack [] earlier))
    next = length-standing (earlier ++ l ∷ []) ∙ ap length (stack-more [] earlier l)

    taken : (n : ℕ) → length (standing earlier) ≡ n → withdraws l ≡ true → overdrawn (earlier ++ l ∷ []) ls ≡ ltb (length (standing (earlier ++ l ∷ []))) (depth ls)
        → (eqb n 0 || overdrawn (earlier ++ l ∷ []) ls) ≡ ltb n (suc (depth ls))
    taken zero q e ih = sym (lt-ltb 0 (suc (depth ls)) (omega arith))
    taken (suc n) q e ih =
        let m : length (standing (earlier ++ l ∷ [])) ≡ n = next ∙ rw e (length-drop 1 (stack [] earlier) ∙ omega (arith, length-standing earlier)) in
        rw (ne_eqb (suc n) 0 (λ z. omega arith)) (ih ∙ rw m (same-order n (depth ls) (suc n) (suc (depth ls)) (λ x. omega arith) (λ x. omega arith)))

    go : (t : Bool) → withdraws l ≡ t → overdrawn (earlier ++ l ∷ []) ls ≡ ltb (length (standing (earlier ++ l ∷ []))) (depth ls)
        → overdrawn earlier (l ∷ ls) ≡ ltb (length (standing earlier)) (depth (l ∷ ls))
    go true e ih = rw e (taken (length (standing earlier)) refl e ih)
    go false e ih =
        let m : length (standing (earlier ++ l ∷ [])) ≡ suc (length (standing earlier)) = next ∙ rw e (ap suc (sym (length-standing earlier))) in
        rw e (ih ∙ rw m (same-order (suc (length (standing earlier))) (depth ls) (length (standing earlier)) (pred (depth ls)) (λ x. omega arith) (λ x. omega arith)))

pub overdrawn-all : (ls : List Line) → overdrawn [] ls ≡ ltb 0 (depth ls)
unfolding standing
overdrawn-all ls = overdrawn-is [] ls

pub depth_small : (ls : List Line) → depth ls ≤ length ls
unfolding depth
depth_small [] = omega arith
depth_small (l ∷ ls) = go (withdraws l) refl (depth_small ls)
  where
    go : (t : Bool) → withdraws l ≡ t → depth ls ≤ length ls → depth (l ∷ ls) ≤ suc (length ls)
    go true e ih = rw e (omega arith)
    go false e ih = let h : pred (depth ls) ≤ suc (length ls) = omega arith in rw e h

pub standing-small : (ls : List Line) → length (standing ls) ≤ length ls
unfolding standing
standing-small [] = omega arith
standing-small (l ∷ ls) = go _ refl (standing-small ls)
  where
    go : (t : Bool) → (not (withdraws l) && not (cancelled ls)) ≡ t → length (standing ls) ≤ length ls → length (standing (l ∷ ls)) ≤ suc (length ls)
    go true e ih = rw e (omega arith)
    go false e ih = rw e (omega arith)
