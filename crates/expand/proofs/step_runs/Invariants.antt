use Rattle.expand.specs.Blocks.{parts_of}
use Rattle.expand.proofs.Whole.{Done}
use Rattle.layout.specs.Form.{entry_bytes}
use Rattle.std.proofs.Common.{◌≡◌, ◌+◌, ◌-◌, length}
use Rattle.expand.proofs.step_runs.Given as goal

abbrev pub invariant-loop-c : goal.invariant-loop-c
invariant-loop-c l = (l.n ≡ length l.initial.pixels) × Done 1 l.c.applies l.c.baseline (parts_of 1 (entry_bytes l.c.width) (length l.initial.pixels) l.image l.tables.under.now l.tables.two.now l.tables.four.now) l.initial.pixels l.pixels l.t l.p

abbrev pub decreases-loop-c : goal.decreases-loop-c
decreases-loop-c l = length l.initial.pixels + 1 - l.p
