use Rattle.std.proofs.Common.{◌∙◌}
use Rattle.expand.proofs.Loops.{byte-one}
use mathlib.Core.Path.{◌∙◌}
use Rattle.tally.proofs.Laws.{is_equal, count-only}
use Rattle.lists.proofs.Only.{counting-start, counting_more, counting-done, one_at_most}
use native.Mathlib.Omega.{arith}
use Rattle.tally.proofs.count_byte.Goals as goal

pub loop-b-init : goal.loop-b-init
loop-b-init c = counting-start _ _

pub overflow_add-k : goal.overflow_add-k
overflow_add-k c = omega (arith, one_at_most (is_equal c.args.m) _ _ (c.from-k.ensures ∙ byte-one _), c.loop-b.invariant.low, c.requires)

pub loop-b-preserved : goal.loop-b-preserved
loop-b-preserved c = counting_more _ c.loop-b.invariant c.loop-b-test.true (c.from-k.ensures ∙ byte-one _)

pub returns : goal.returns
returns c = counting-done c.loop-b.invariant c.loop-b-test.false ∙ count-only _ _
