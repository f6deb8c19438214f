use Rattle.std.specs.Prelude.{◌≡◌, Ok}
use Rattle.overflow86.specs.Entries.{text_entries}
use Rattle.overflow86.specs.Steps.{waiting}
use Rattle.marks.proofs.Loops.{Placing}
use Rattle.overflow86.proofs.place_entries.Given as goal

abbrev pub invariant-loop-k : goal.invariant-loop-k
invariant-loop-k l = (l.checked ≡ Ok tt) × Placing waiting l.initial.pixels l.pixels (text_entries l.n l.table) l.k
