use mathlib.Core.Path.{refl, sym, ap, ◌∙◌}
use native.Mathlib.Omega.{arith}
use lib.Dec.{leb}
use Rattle.lists.proofs.Only.{none_from}
use Rattle.pixel_counts.specs.Counts.{counts_of, counts_for}
use Rattle.pixel_counts.proofs.Counting.{passing-whole}
use Rattle.survey.specs.declared.Pair.{Pair}
use Rattle.survey.proofs.count_none.Goals as goal

pub returns-then-count_from-eq0 : goal.returns-then-count_from-eq0
unfolding counts_for counts_of
returns-then-count_from-eq0 c = let vs = c.args.block.now in
    let two = sym (passing-whole (leb 255) vs c.requires) ∙ sym c.count_from.ensures ∙ c.if-count_from-eq0.true in
    rw (two, none_from 255 65535 0 vs (omega arith) (sym two) refl) c.no_counts.ensures

pub returns : goal.returns
unfolding counts_for counts_of
returns c = rw (ap (λ (x : Pair). x.first) c.count_pair-k.ensures, ap (λ (x : Pair). x.second) c.count_pair-k.ensures)
