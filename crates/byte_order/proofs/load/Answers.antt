use Rattle.byte_order.proofs.Laws.{bytes-any}
use Rattle.byte_order.proofs.load.Goals as goal

pub returns-in-One-default-clause-out_after : goal.returns-in-One-default-clause-out_after
returns-in-One-default-clause-out_after c = rw (c.in-One-default.is-0, bytes-any) c.load.ensures.out_after
