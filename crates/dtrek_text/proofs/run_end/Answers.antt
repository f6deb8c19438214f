use Rattle.std.proofs.Common.{◌≤◌, length, arith}
use native.Mathlib.Nat.{add-zero}
use lib.ListN.{drop_of_length-le}
use Rattle.numeral.specs.Runs.{leading}
use Rattle.numeral.proofs.Runs.{leading_le}
use Rattle.dtrek_text.specs.Bytes.{in_class}
use Rattle.dtrek_text.proofs.run_end.Goals as goal

pub overflow_add-result : goal.overflow_add-result
overflow_add-result c = let h = c.in-Some.ensures in omega (arith, h.lookup.0, leading_le (in_class c.args.class) c.in-Some.rest.now)

pub returns-in-None : goal.returns-in-None
unfolding leading
returns-in-None c = let h = c.in-None.ensures in
    let l : length c.args.text.now ≤ c.args.at = omega (arith, h.lookup.0) in
    rw (drop_of_length-le c.args.text.now l, add-zero)
