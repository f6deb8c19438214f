use mathlib.Core.Path.{◌≡◌, ap, ◌∙◌}
use Prim.Native.Nat.{ℕ, suc, ◌+◌}
use native.Mathlib.Omega.{arith}
use lib.ListN.{length}
use lib.Dec.{leb, ltb}
use Rattle.lists.specs.Only.{only}
use Rattle.lists.proofs.Only.{only-le}
use Rattle.pixel_counts.specs.Counts.{counts_of, counts_for}
use Rattle.survey.specs.declared.Limits.{Limits}
use Rattle.survey.specs.Survey.{survey_after}
use Rattle.survey.proofs.Surveying.{under-is}
use Rattle.survey.proofs.survey_dense.Goals as goal

pub overflow_sub-under : goal.overflow_sub-under
overflow_sub-under c = omega (arith, ap (λ (x : Limits). x.base) c.count_limits-k.ensures, only-le (ltb c.args.base) c.args.block.now)

pub returns : goal.returns
unfolding survey_after counts_for counts_of
returns c = let a = c.args in
    let vs = a.block.now in
    let k = c.count_limits-k.ensures in
    let from : (m n : ℕ) → m ≡ n → length (only (leb m) vs) ≡ length (only (leb n) vs) = λ m n e. ap (λ (l : ℕ). length (only (leb l) vs)) e in
    let lower = ap (λ (x : Limits). x.lower) k ∙ from (suc (a.base + 254)) (a.base + 255) (omega arith) in
    let lowest = ap (λ (x : Limits). x.lowest) k ∙ from (suc (a.base + 65534)) (a.base + 65535) (omega arith) in
    rw (c.any_large-large.ensures, lowest, lower, under-is a.base vs _ (ap (λ (x : Limits). x.base) k), ap (λ (x : Limits). x.four) k, ap (λ (x : Limits). x.two) k)
