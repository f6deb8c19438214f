use Rattle.listing.proofs.WritingLaws.{before-length, wrote-before, length_digits}
use Rattle.listing.specs.Listing.{date_text}
use native.Mathlib.Omega.{arith}
use Rattle.listing.proofs.put_date.Goals as goal

pub put_text-second-requires : goal.put_text-second-requires
put_text-second-requires c = omega (arith, before-length c.put_digits-day.ensures, length_digits 2 c.args.d.day)

pub put_digits-month-requires : goal.put_digits-month-requires
put_digits-month-requires c =
    let w = wrote-before c.put_digits-day.ensures c.put_text-second.ensures in
    omega (arith, before-length c.put_digits-day.ensures, before-length w, length_digits 2 c.args.d.day)

pub put_text-first-requires : goal.put_text-first-requires
put_text-first-requires c =
    let w = wrote-before c.put_digits-day.ensures c.put_text-second.ensures in
    let x = wrote-before w c.put_digits-month.ensures in
    omega (arith, before-length c.put_digits-day.ensures, before-length w, before-length x, length_digits 2 c.args.d.day, length_digits 2 c.args.d.month)

pub put_digits-requires : goal.put_digits-requires
put_digits-requires c =
    let w = wrote-before c.put_digits-day.ensures c.put_text-second.ensures in
    let x = wrote-before w c.put_digits-month.ensures in
    let y = wrote-before x c.put_text-first.ensures in
    omega (arith, before-length c.put_digits-day.ensures, before-length w, before-length x, before-length y, length_digits 2 c.args.d.day, length_digits 2 c.args.d.month)

pub returns : goal.returns
unfolding date_text
returns c = wrote-before (wrote-before (wrote-before (wrote-before c.put_digits-day.ensures c.put_text-second.ensures) c.put_digits-month.ensures) c.put_text-first.ensures) c.put_digits.ensures
