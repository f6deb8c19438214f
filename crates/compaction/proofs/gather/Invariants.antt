use Rattle.compaction.proofs.Gathering.{Gathering}
use Rattle.compaction.proofs.gather.Given as goal

abbrev pub invariant-loop-i : goal.invariant-loop-i
invariant-loop-i l = Gathering l.initial.ledger l.lines l.ledger l.skip l.to l.i
