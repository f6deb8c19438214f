use Prim.Native.Nat.{◌-◌}
use lib.ListN.{length}
use Rattle.layout.specs.Form.{width_bytes}
use Rattle.byte_order.specs.Numbers.{numbers}
use Rattle.lists.proofs.Halves.{Halves}
use Rattle.byte_order.proofs.load_both.Given as goal

abbrev pub invariant-loop-p : goal.invariant-loop-p
invariant-loop-p l = Halves l.half (numbers l.order (width_bytes l.width) (length l.initial.out) l.t) l.initial.out l.out l.p

abbrev pub decreases-loop-p : goal.decreases-loop-p
decreases-loop-p l = l.half - l.p
