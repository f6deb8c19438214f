use Rattle.listing.proofs.Entering.{Entering}
use lib.ListN.{length}
use Rattle.listing.proofs.put_lines.Given as goal

abbrev pub invariant-loop-i : goal.invariant-loop-i
invariant-loop-i l = Entering l.ledger l.lines l.i l.skip l.initial.out (length l.initial.out) l.out l.place
