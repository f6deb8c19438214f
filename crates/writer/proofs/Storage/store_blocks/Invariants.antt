use Rattle.std.proofs.Common.{◌*◌, length, min}
use Rattle.writer.proofs.Placing.{Storing}
use Rattle.writer.proofs.Storage.store_blocks.Given as goal

abbrev pub invariant-loop-i : goal.invariant-loop-i
invariant-loop-i l = Storing l.self.form l.self.base l.pixels l.initial.out l.out l.initial.t l.t (min (l.i * 64) (length l.pixels))
