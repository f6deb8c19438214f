use Rattle.std.proofs.Common.{◌≡◌, ◌*◌, length}
use Rattle.lists.proofs.Writing.{Writing}
use Rattle.byte_order.specs.Numbers.{numbers}
use Rattle.byte_order.proofs.load_stored.Given as goal

abbrev pub invariant-loop-place : goal.invariant-loop-place
invariant-loop-place g l = Writing (numbers g.S.Stored.order g.S.Stored.BYTES (length l.initial.out) l.t) l.initial.out l.out l.place-index × (l.at ≡ l.place-index * g.S.Stored.BYTES)
