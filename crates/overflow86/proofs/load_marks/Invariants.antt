use Rattle.std.proofs.Common.{◌*◌}
use Rattle.layout.specs.Form.{width_bytes}
use Rattle.overflow86.proofs.Blocks.{Blocks}
use Rattle.overflow86.proofs.load_marks.Given as goal

abbrev pub invariant-loop-block : goal.invariant-loop-block
invariant-loop-block l = Blocks (width_bytes l.w) l.mark l.image l.initial.pixels l.pixels l.marks (l.block * 64)
