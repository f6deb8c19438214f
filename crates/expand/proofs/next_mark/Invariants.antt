use Rattle.std.proofs.Common.{◌+◌, ◌*◌}
use Rattle.expand.specs.Blocks.{Passed}
use Rattle.expand.proofs.next_mark.Given as goal

abbrev pub invariant-loop-k : goal.invariant-loop-k
invariant-loop-k l = Passed l.applies l.s l.p l.end (l.p + l.k * 16)
