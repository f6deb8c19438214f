use Rattle.std.proofs.Common.{◌≡◌, ◌-◌, ◌++◌, length, take}
use Rattle.lists.specs.Bytes.{little_bytes}
use Rattle.table.proofs.put_le.Given as goal

abbrev pub invariant-loop-b : goal.invariant-loop-b
invariant-loop-b l = take l.b-index l.t ++ little_bytes (length l.t - l.b-index) l.x ≡ little_bytes (length l.initial.t) l.v
