use Rattle.std.proofs.Common.{◌∙◌, arith}
use Rattle.expand.proofs.Loops.{byte-one}
use Rattle.std.proofs.Common.{eqb, get_or, arith}
use Rattle.expand.proofs.Loops.{filling-start, filling-any, filling-count, filling-done, one-le}
use Rattle.expand.proofs.lift_marked.Goals as goal

pub loop-v-init : goal.loop-v-init
loop-v-init c = filling-start _ _ _ _ _

pub overflow_add-k : goal.overflow_add-k
overflow_add-k c = let l = c.loop-v in omega (arith, one-le (eqb (get_or l.pixels l.v-index 0) 0) (c.from-k.ensures ∙ byte-one _))

pub loop-v-preserved : goal.loop-v-preserved
loop-v-preserved c = filling-any c.loop-v.invariant (omega arith) c.entry-e.ensures c.choose.ensures (c.from-k.ensures ∙ byte-one _)

pub returns : goal.returns
returns c = record { value = filling-count c.loop-v.invariant (omega arith); pixels_after = filling-done c.loop-v.invariant (omega arith) }
