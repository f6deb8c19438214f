use Rattle.std.proofs.Common.{◌*◌, length}
use Rattle.layout.specs.Form.{width_bytes}
use Rattle.table.specs.Table.{entries}
use Rattle.lists.proofs.Halves.{Halves}
use Rattle.table.proofs.load_both.Given as goal

abbrev pub invariant-loop-block : goal.invariant-loop-block
invariant-loop-block l = Halves l.half (entries (width_bytes l.w) (length l.initial.out) l.t) l.initial.out l.out (l.block * 256)
