use Rattle.std.proofs.Common.{◌*◌}
use Rattle.layout.specs.Form.{width_bytes}
use Rattle.table.specs.Writing.{table_of}
use Rattle.lists.proofs.Halves.{Halves}
use Rattle.table.proofs.store_both.Given as goal

abbrev pub invariant-loop-block : goal.invariant-loop-block
invariant-loop-block l = Halves (l.half * width_bytes l.w) (table_of (width_bytes l.w) l.values) l.initial.out l.out (l.block * 256 * width_bytes l.w)
