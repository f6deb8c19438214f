use Rattle.overflow86.proofs.Texts.{Gathering}
use Rattle.overflow86.proofs.digits_number.Given as goal

abbrev pub invariant-loop-b : goal.invariant-loop-b
invariant-loop-b l = Gathering l.t l.v l.b-index
