use Rattle.std.proofs.Common.{◌≡◌, ◌-◌, length}
use Rattle.layout.specs.Form.{width_bytes, entry_bytes}
use Rattle.expand.specs.Blocks.{parts_of}
use Rattle.expand.proofs.Whole.{Done}
use Rattle.expand.proofs.blocks.Given as goal

abbrev pub invariant-loop-p : goal.invariant-loop-p
invariant-loop-p l = (l.each ≡ width_bytes l.w) × Done (width_bytes l.w) l.c.applies l.c.baseline (parts_of (width_bytes l.w) (entry_bytes l.c.width) (length l.initial.pixels) l.image l.tables.under.now l.tables.two.now l.tables.four.now) l.initial.pixels l.pixels l.t l.p

abbrev pub decreases-loop-p : goal.decreases-loop-p
decreases-loop-p l = length l.initial.pixels - l.p
