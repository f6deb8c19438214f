use mathlib.Core.Path.{◌≡◌, refl, sym, ap, ◌∙◌}
use mathlib.Core.Bool.{or-false}
use Prim.Native.Nat.{ℕ, suc, ◌+◌, ◌≤◌}
use native.Mathlib.Omega.{arith}
use lib.ListN.{length}
use lib.Dec.{leb, ltb}
use Rattle.lists.specs.Only.{only}
use Rattle.lists.proofs.Only.{only-le, none_from}
use Rattle.pixel_counts.specs.Counts.{is_underflow, counts_of, counts_for}
use Rattle.pixel_counts.proofs.Counting.{from-whole}
use Rattle.survey.specs.declared.Pair.{Pair}
use Rattle.survey.specs.Survey.{survey_after}
use Rattle.survey.proofs.Surveying.{under-is, none-large}
use Rattle.survey.proofs.survey_block.Goals as goal

pub overflow_sub-under : goal.overflow_sub-under
overflow_sub-under c = omega (arith, ap (λ (x : Pair). x.second) c.count_pair-low.ensures, only-le (ltb c.args.base) c.args.block.now)

pub returns-then-low-eq0 : goal.returns-then-low-eq0
unfolding survey_after counts_for counts_of
returns-then-low-eq0 c = let a = c.args in
    let vs = a.block.now in
    let low = c.count_pair-low.ensures in
    let two : length (only (leb 255) vs) ≡ 0 = sym (ap (λ (x : Pair). x.first) low) ∙ c.if-low-eq0.true in
    let none : (m : ℕ) → 255 ≤ m → length (only (leb m) vs) ≡ 0 = λ m h. none_from 255 m 0 vs h (sym two) refl in
    rw (c.no_counts.ensures, under-is a.base vs _ (ap (λ (x : Pair). x.second) low), two, none 65535 (omega arith), none (a.base + 255) (omega arith), none (a.base + 65535) (omega arith), none-large (is_underflow a.base) vs two, or-false a.found)

pub returns : goal.returns
unfolding survey_after counts_for counts_of
returns c = let a = c.args in
    let vs = a.block.now in
    let low = c.count_pair-low.ensures in
    let high = c.count_pair-high.ensures in
    let four = ap (λ (x : Pair). x.first) high in
    let next : suc (a.base + 254) ≡ a.base + 255 = omega arith in
    let low-two = ap (λ (x : Pair). x.second) high ∙ ap (λ (m : ℕ). length (only (leb m) vs)) next in
    let low-four = c.count_above-low_four.ensures ∙ from-whole _ (a.base + 65535) vs c.requires.0 (none_from 65535 (a.base + 65535) _ vs (omega arith) four) in
    rw (c.any_large-large.ensures, low-four, low-two, under-is a.base vs _ (ap (λ (x : Pair). x.second) low), four, ap (λ (x : Pair). x.first) low)
