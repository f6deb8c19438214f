use Rattle.std.proofs.Common.{◌*◌, min, length}
use mathlib.Core.Path.{◌≡◌}
use Prim.Native.Nat.{◌*◌}
use lib.ListN.{length}
use Rattle.tally.proofs.Laws.{Tallying}
use Rattle.tally.proofs.tally_blocks.Given as goal

abbrev pub invariant-loop-block : goal.invariant-loop-block
invariant-loop-block l = (length l.room ≡ 64) × Tallying l.each l.mark l.low l.high l.t l.c (min (l.block * 64) l.n)
