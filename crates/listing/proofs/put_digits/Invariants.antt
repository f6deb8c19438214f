use Rattle.listing.proofs.WritingLaws.{Writing}
use Rattle.listing.specs.Listing.{digits}
use lib.ListN.{length}
use Prim.Native.Nat.{◌+◌}
use Rattle.listing.proofs.put_digits.Given as goal

abbrev pub invariant-loop-left : goal.invariant-loop-left
invariant-loop-left l = Writing l.initial.out (length l.initial.out) l.out (l.start + l.left) (digits l.left l.rest) (digits l.count l.n)
