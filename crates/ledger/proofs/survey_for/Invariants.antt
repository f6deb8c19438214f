use Rattle.ledger.proofs.Scanning.{Surveying}
use Rattle.ledger.proofs.survey_for.Given as goal

abbrev pub invariant-loop-i : goal.invariant-loop-i
invariant-loop-i l = Surveying l.sought l.ledger l.lines l.i l.s
