use Rattle.std.proofs.Common.{◌-◌, length}
use Rattle.writer.proofs.Placing.{Storing}
use Rattle.writer.proofs.Storage.store_runs.Given as goal

abbrev pub invariant-runs : goal.invariant-runs
invariant-runs l = Storing l.self.form l.self.base l.pixels l.initial.out l.out l.initial.t l.t l.p

abbrev pub decreases-runs : goal.decreases-runs
decreases-runs l = length l.pixels - l.p
