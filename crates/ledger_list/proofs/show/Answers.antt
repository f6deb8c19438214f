-- The listing lies within what is lent to it.
use Rattle.std.proofs.Common.{arith}
use Rattle.listing.proofs.Showing.{used-fits}
use Rattle.ledger_list.proofs.show.Goals as goal

pub overflow_sub-start : goal.overflow_sub-start
overflow_sub-start c =
    let h = used-fits _ _ _ c.in-Some.ensures.value in
    let k = c.list.auto.out in
    omega arith
