-- A list of calls, and then further calls: what the first gave back stays given, and the others go on from the ledger that they left.
-- Assumes nothing.
use mathlib.Core.Path.{◌≡◌, refl, ap}
use mathlib.Core.List.{List, [], ◌∷◌, ◌++◌}
use Rattle.model.specs.Model.{Call, Reply, Step, run, Model, Opening, model_step}
use Rattle.model.specs.Ledger.{Ledger, ledger_after, ledger_run}

pub run-state : {S : Type 0} (step : Call → S → Step S) (cs ds : List Call) (s : S) → (run step (cs ++ ds) s).state ≡ (run step ds (run step cs s).state).state
unfolding run
run-state step [] ds s = refl
run-state step (c ∷ cs) ds s = run-state step cs ds (step c s).state

pub run-replies : {S : Type 0} (step : Call → S → Step S) (cs ds : List Call) (s : S) → (run step (cs ++ ds) s).replies ≡ (run step cs s).replies ++ (run step ds (run step cs s).state).replies
unfolding run
run-replies step [] ds s = refl
run-replies step (c ∷ cs) ds s = ap (λ (l : List Reply). (step c s).reply ∷ l) (run-replies step cs ds (step c s).state)

pub ledger-later : (o : Opening) (cs ds : List Call) (m : Model) (g : Ledger) → ledger_run o (cs ++ ds) m g ≡ ledger_run o ds (run (model_step o) cs m).state (ledger_run o cs m g)
unfolding ledger_run run
ledger-later o [] ds m g = refl
ledger-later o (c ∷ cs) ds m g = ledger-later o cs ds (model_step o c m).state (ledger_after o (model_step o c m).reply.answer m c g)
