use Rattle.std.proofs.Common.{◌*◌, min, length}
use lib.ListN.{length}
use Rattle.tally.proofs.Laws.{ByteTallying}
use Rattle.tally.proofs.tally_bytes.Given as goal

abbrev pub invariant-loop-block : goal.invariant-loop-block
invariant-loop-block l = ByteTallying l.mark l.t l.zeros l.marks (min (l.block * 192) (length l.t))
