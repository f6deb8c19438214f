use Rattle.listing.proofs.Lengths.{length-counts, length-date}
use Rattle.listing.proofs.WritingLaws.{before-length, wrote-before}
use Rattle.listing.specs.Listing.{kind_text}
use native.Mathlib.Omega.{arith}
use Rattle.listing.proofs.put_kind.Goals as goal

pub put_text-requires : goal.put_text-requires
put_text-requires c = omega (arith, before-length c.put_counts-counts.ensures, length-counts c.args.l)

pub returns-in-Correction : goal.returns-in-Correction
unfolding kind_text
returns-in-Correction c = rw c.in-Correction.is (wrote-before c.put_counts-counts.ensures c.put_text.ensures)

pub put_text-requires-in-Keep : goal.put_text-requires-in-Keep
put_text-requires-in-Keep c = omega (arith, before-length c.put_date-until.ensures, length-date c.args.l.date)

pub returns-in-Keep : goal.returns-in-Keep
unfolding kind_text
returns-in-Keep c = rw c.in-Keep.is (wrote-before c.put_date-until.ensures c.put_text-in-Keep.ensures)

pub returns-in-Withdrawal : goal.returns-in-Withdrawal
unfolding kind_text
returns-in-Withdrawal c = rw c.in-Withdrawal.is c.put_text-in-Withdrawal.ensures
