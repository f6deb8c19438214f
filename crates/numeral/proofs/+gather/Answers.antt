use Rattle.numeral.proofs.Numerals.{at-end, low, high, large, step}
use mathlib.Core.Path.{sym, ◌∙◌}
use native.Mathlib.Omega.{arith}
use Rattle.numeral.proofs.+gather.Goals as goal

pub returns-then-rest-eq0 : goal.returns-then-rest-eq0
returns-then-rest-eq0 t c = sym (at-end _ _ c.if-rest-eq0.true (omega arith))

pub returns-then-b-lt48 : goal.returns-then-b-lt48
returns-then-b-lt48 t c = sym (low _ _ (omega arith) c.if-b-lt48.true)

pub returns-then-b-gt57 : goal.returns-then-b-gt57
returns-then-b-gt57 t c = sym (high _ _ (omega arith) c.if-b-gt57.true)

pub returns-then-next-gt4294967295 : goal.returns-then-next-gt4294967295
returns-then-next-gt4294967295 t c = sym (large _ _ (omega arith) c.if-next-gt4294967295.true)

pub returns : goal.returns
returns t c = c.gather.ensures ∙ step _ _ (omega arith) (omega arith) (omega arith)
