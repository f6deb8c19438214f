use Rattle.std.proofs.Common.{map}
use Rattle.lists.proofs.Writing.{Writing}
use Rattle.pixel_counts.specs.Counts.{is_underflow}
use Rattle.writer.specs.Blocks.{less}
use Rattle.lists.proofs.Only.{Counting}
use Rattle.writer.proofs.lower.Given as goal

abbrev pub invariant-loop-i : goal.invariant-loop-i
invariant-loop-i l = Counting (is_underflow l.base) l.s l.k l.i × Writing (map (less l.base) l.s) l.initial.out l.out l.i
