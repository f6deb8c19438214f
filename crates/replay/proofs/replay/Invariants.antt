use Rattle.replay.proofs.Playing.{Playing}
use Rattle.replay.proofs.replay.Given as goal

abbrev pub invariant-loop-i : goal.invariant-loop-i
invariant-loop-i l = Playing l.initial.held l.initial.ledger l.lines l.calls l.initial.replies l.n l.held l.ledger l.replies l.used l.i
