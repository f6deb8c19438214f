use mathlib.Core.Bool.{or-true, or-false}
use Rattle.std.proofs.Common.{sym, arith}
use Rattle.expand.proofs.Steps.{sum_fits, sum_past}
use Rattle.expand.proofs.past.Goals as goal

pub returns-then-v-base : goal.returns-then-v-base
returns-then-v-base c = rw (sum_fits c.args.base c.args.v (omega arith)) (sym (or-false c.args.over))

pub returns-else-v-base : goal.returns-else-v-base
returns-else-v-base c = rw (sum_past c.args.base c.args.v (omega arith) (omega arith)) (sym (or-true c.args.over))
