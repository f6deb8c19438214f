use Rattle.std.proofs.Common.{ℕ}
use Rattle.layout.specs.Form.{width_bytes}
use Rattle.table.specs.Table.{whole_entries}
use Rattle.expand.proofs.Loops.{Filling}
use Rattle.expand.proofs.fill_marked.Given as goal

abbrev pub invariant-loop-v : goal.invariant-loop-v
invariant-loop-v l = Filling l.mark (λ (x : ℕ). x) (whole_entries (width_bytes l.w) l.t) l.from l.initial.pixels l.pixels l.k l.v-index
