use Rattle.mar_image.specs.Pairs.{pair_entries}
use Rattle.marks.proofs.Loops.{Placing}
use Rattle.mar_image.proofs.place_pairs.Given as goal

abbrev pub invariant-loop-k : goal.invariant-loop-k
invariant-loop-k l = Placing 65535 l.initial.pixels l.pixels (pair_entries l.order l.n l.table) l.k
