use Rattle.std.proofs.Common.{◌≡◌, take}
use Rattle.std.specs.List.{list_any}
use Rattle.table.proofs.holds.Given as goal

abbrev pub invariant-loop-y : goal.invariant-loop-y
invariant-loop-y g l = l.found ≡ list_any (λ y. g.T.PartialEq.eq y l.x) (take l.y-index l.s)
