use Rattle.std.proofs.Common.{length}
use Rattle.lists.proofs.Writing.{Writing}
use Rattle.table.specs.Table.{entries}
use Rattle.table.proofs.load.Given as goal

abbrev pub invariant-loop-i : goal.invariant-loop-i
invariant-loop-i l = Writing (entries l.each (length l.initial.out) l.t) l.initial.out l.out l.i
