use Prim.Native.Nat.{◌-◌}
use lib.ListN.{length}
use Rattle.dtrek_items.proofs.Noting.{Surveying}
use Rattle.dtrek_items.proofs.survey_with.Given as goal

abbrev pub invariant-loop-start : goal.invariant-loop-start
invariant-loop-start l = Surveying l.text l.initial.places l.places l.c.at l.k l.f

abbrev pub decreases-loop-start : goal.decreases-loop-start
decreases-loop-start l = length l.text - l.c.at
