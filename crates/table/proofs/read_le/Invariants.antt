use Rattle.std.proofs.Common.{◌≡◌, ◌-◌, ◌*◌, ◌^◌, ◌<◌, length, drop}
use Rattle.lists.specs.Bytes.{little}
use Rattle.table.proofs.read_le.Given as goal

abbrev pub invariant-loop-i : goal.invariant-loop-i
invariant-loop-i l = record {
  small : l.v < 2 ^ (8 * (length l.bytes - l.i));
  value : l.v ≡ little (length l.bytes - l.i) (drop l.i l.bytes);
}
