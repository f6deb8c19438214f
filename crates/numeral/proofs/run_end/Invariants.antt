use Rattle.numeral.specs.Runs.{in_class, passed}
use mathlib.Core.Path.{◌≡◌}
use Rattle.numeral.proofs.run_end.Given as goal

abbrev pub invariant-loop-i : goal.invariant-loop-i
invariant-loop-i l = passed (in_class l.class) l.text l.i ≡ passed (in_class l.class) l.text l.at
