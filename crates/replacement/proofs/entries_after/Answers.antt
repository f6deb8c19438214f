use mathlib.Core.Path.{◌∙◌}
use native.Mathlib.Omega.{arith}
use Rattle.replacement.proofs.Values.{one-stored}
use Rattle.replacement.proofs.entries_after.Goals as goal

pub counts_after-requires : goal.counts_after-requires
counts_after-requires c =
    let a = c.args in
    let n = one-stored a.place.form a.place.baseline a.v in
    record {
      under_le_under = rw c.entries_of-old.ensures c.requires.place_bound;
      under_bound = rw c.entries_of-new.ensures (omega (arith, n.under), omega (arith, n.two), omega (arith, n.four));
    }

pub returns : goal.returns
returns c = c.counts_after.ensures ∙ rw (c.entries_of-new.ensures, c.entries_of-old.ensures)
