use Rattle.listing.proofs.WritingLaws.{Writing}
use Rattle.lists.specs.Digits.{digits_up_to, decimal}
use lib.ListN.{length}
use Prim.Native.Nat.{◌+◌}
use Rattle.listing.proofs.put_decimal.Given as goal

abbrev pub invariant-loop-left : goal.invariant-loop-left
invariant-loop-left l = Writing l.initial.out (length l.initial.out) l.out (l.longest + l.left) (digits_up_to l.left l.rest) (decimal l.n)
