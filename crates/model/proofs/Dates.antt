-- A calendar date fits its fields in a line.
-- Assumes nothing.
use mathlib.Core.Path.{◌≡◌, refl, sym, ◌∙◌}
use mathlib.Core.Bool.{Bool, true, false, ◌&&◌}
use Prim.Native.Nat.{ℕ, ◌+◌, ◌/◌, ◌%◌, ◌^◌, ◌≤◌, ◌<◌}
use native.Mathlib.Omega.{arith}
use lib.Dec.{eqb, leb}
use borrow.Author.Tests.{leb-true}
use Rattle.std.specs.Prelude.{if◌then◌else◌}
use Rattle.lists.proofs.Tests.{and-true-left, and-true-right}
use Rattle.calendar.specs.declared.Date.{Date}
use Rattle.calendar.specs.Calendar.{is_date, is_leap, month_length}
use Rattle.ledger.specs.Ledger.{keep_line}
use Rattle.ledger.proofs.Packing.{Sized}

month-small : (year month : ℕ) → month_length year month ≤ 31
unfolding month_length
month-small year month = go (eqb month 2) (is_leap year)
  where
    go : (a b : Bool) → if◌then◌else◌ a (if◌then◌else◌ b 29 28) (30 + (month + month / 8) % 2) ≤ 31
    go true true = omega arith
    go true false = omega arith
    go false b = omega arith

date-tests : (d : Date) → is_date d
    ≡ ((leb 1 d.year && leb d.year 4095) && ((leb 1 d.month && leb d.month 12) && (leb 1 d.day && leb d.day (month_length d.year d.month))))
unfolding is_date
date-tests d = refl

pub keep-sized : (d : Date) → is_date d ≡ true → Sized (keep_line d)
keep-sized d e =
    let last : Bool = leb d.day (month_length d.year d.month) in
    let ys : Bool = leb 1 d.year && leb d.year 4095 in
    let ms : Bool = leb 1 d.month && leb d.month 12 in
    let ds : Bool = leb 1 d.day && last in
    let a : (ys && (ms && ds)) ≡ true = sym (date-tests d) ∙ e in
    let b : (ms && ds) ≡ true = and-true-right ys (ms && ds) a in
    let y : d.year ≤ 4095 = leb-true _ _ (and-true-right (leb 1 d.year) (leb d.year 4095) (and-true-left ys (ms && ds) a)) in
    let m : d.month ≤ 12 = leb-true _ _ (and-true-right (leb 1 d.month) (leb d.month 12) (and-true-left ms ds b)) in
    let k : d.day ≤ month_length d.year d.month = leb-true _ _ (and-true-right (leb 1 d.day) last (and-true-right ms ds b)) in
    let year : d.year < 2 ^ 12 = omega arith in
    let month : d.month < 2 ^ 4 = omega arith in
    let day : d.day < 2 ^ 5 = omega (arith, month-small d.year d.month) in
    record { year = year; month = month; day = day; pixel = omega arith; old = omega arith; new = omega arith }
