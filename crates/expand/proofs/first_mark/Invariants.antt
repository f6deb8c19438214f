use Rattle.expand.specs.Blocks.{Passed}
use Rattle.expand.proofs.first_mark.Given as goal

abbrev pub invariant-loop-q : goal.invariant-loop-q
invariant-loop-q l = Passed l.applies l.s l.p l.end l.q
