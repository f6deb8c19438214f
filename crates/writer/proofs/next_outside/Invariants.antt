use Rattle.std.proofs.Common.{◌+◌, ◌*◌}
use Rattle.writer.specs.Blocks.{is_outside, Without}
use Rattle.writer.proofs.next_outside.Given as goal

abbrev pub invariant-loop-i : goal.invariant-loop-i
invariant-loop-i l = Without (is_outside l.k) l.s l.p (l.p + l.i * 16)
