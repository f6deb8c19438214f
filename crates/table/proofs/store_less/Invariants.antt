use Rattle.std.proofs.Common.{map}
use Rattle.table.specs.Writing.{less_wrapped}
use Rattle.table.proofs.Storing.{Storing}
use Rattle.table.proofs.store_less.Given as goal

abbrev pub invariant-loop-i : goal.invariant-loop-i
invariant-loop-i l = Storing l.each (map (less_wrapped l.base) l.values) l.initial.out l.out l.i
