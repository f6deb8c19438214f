use Rattle.std.proofs.Common.{leb, map}
use Rattle.lists.proofs.Writing.{Writing}
use Rattle.writer.specs.Blocks.{capped}
use Rattle.lists.proofs.Only.{Counting}
use Rattle.writer.proofs.cap_into.Given as goal

abbrev pub invariant-loop-i : goal.invariant-loop-i
invariant-loop-i l = Counting (leb l.limit) l.s l.k l.i × Writing (map (capped l.limit) l.s) l.initial.out l.out l.i
