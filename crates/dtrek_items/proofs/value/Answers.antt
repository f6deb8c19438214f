use Rattle.std.proofs.Common.{arith}
use Rattle.dtrek_items.proofs.Noting.{nothing-within}
use Rattle.dtrek_items.proofs.value.Goals as goal

pub returns-in-None : goal.returns-in-None
returns-in-None c =
    rw c.in-Some.is (nothing-within c.args.text.now c.in-Some.field-0.from c.in-Some.field-0.stop c.min-end.result c.min-end.ensures (omega (arith, c.in-None.ensures.lookup.0)))
