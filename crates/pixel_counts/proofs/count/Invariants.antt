use Rattle.std.proofs.Common.{◌*◌}
use Rattle.pixel_counts.proofs.Counting.{Blocks}
use Rattle.pixel_counts.proofs.count.Given as goal

abbrev pub invariant-loop-block : goal.invariant-loop-block
invariant-loop-block l = Blocks l.form l.base l.pixels l.c (l.block-index * 128)
