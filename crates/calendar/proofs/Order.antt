-- Earlier than is the order of dates as numbers, so a strict order.
use mathlib.Core.Path.{◌≡◌, refl}
use mathlib.Core.Bool.{Bool, true, false}
use Prim.Native.Nat.{ℕ, ◌+◌, ◌*◌, ◌<◌, ◌≤◌}
use native.Mathlib.Omega.{arith}
use lib.Dec.{eqb, ltb}
use borrow.Author.Tests.{lt-ltb, le-ltb, eqb-true, eqb-false, ltb-true, ltb-false}
use Rattle.calendar.specs.declared.Date.{Date}
use Rattle.calendar.specs.Calendar.{before}

-- year, month and day as one number
abbrev pub date_number : Date → ℕ
date_number d = d.year * 512 + d.month * 32 + d.day

-- that a test is the order of two numbers, from both ways that the numbers can lie
by_order : (t : Bool) (m n : ℕ) → (m < n → t ≡ true) → (n ≤ m → t ≡ false) → t ≡ ltb m n
by_order t m n y z = go (ltb m n) refl
  where
    go : (u : Bool) → ltb m n ≡ u → t ≡ u
    go true e = y (ltb-true m n e)
    go false e = z (ltb-false m n e)

pub before-is : (a b : Date) → a.month < 16 → b.month < 16 → a.day < 32 → b.day < 32 → before a b ≡ ltb (date_number a) (date_number b)
unfolding before
before-is a b am bm ad bd = go (eqb a.year b.year) refl (eqb a.month b.month) refl
  where
    go : (t : Bool) → eqb a.year b.year ≡ t → (u : Bool) → eqb a.month b.month ≡ u → before a b ≡ ltb (date_number a) (date_number b)
    go false e u f =
        let n = eqb-false a.year b.year e in
        rw e (by_order _ (date_number a) (date_number b) (λ h. lt-ltb a.year b.year (omega arith)) (λ h. le-ltb a.year b.year (omega arith)))
    go true e false f =
        let n = eqb-false a.month b.month f in
        let y = eqb-true a.year b.year e in
        rw (e, f) (by_order _ (date_number a) (date_number b) (λ h. lt-ltb a.month b.month (omega arith)) (λ h. le-ltb a.month b.month (omega arith)))
    go true e true f =
        let m = eqb-true a.month b.month f in
        let y = eqb-true a.year b.year e in
        rw (e, f) (by_order _ (date_number a) (date_number b) (λ h. lt-ltb a.day b.day (omega arith)) (λ h. le-ltb a.day b.day (omega arith)))
