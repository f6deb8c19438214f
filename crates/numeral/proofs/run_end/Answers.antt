use borrow.Author.Rules.{rules}
use Rattle.numeral.proofs.Runs.{passed_on, passed-stop, passed-end}
use mathlib.Core.Path.{◌≡◌, ◌∙◌, sym}
use native.Mathlib.Omega.{arith}
use Rattle.std.proofs.Common.{ℕ, Bool, List, ◌≤◌, length, inl, inr}
use Rattle.std.specs.Prelude.{max}
use Rattle.std.proofs.lemmas.Bool.{cases_lt}
use Rattle.numeral.specs.Runs.{passed}
use Rattle.numeral.proofs.run_end.Goals as goal

pub loop-i-preserved : goal.loop-i-preserved
loop-i-preserved c = passed_on _ _ _ (search rules) (sym c.in_class.ensures ∙ c.if-not-in_class.false) ∙ c.loop-i.invariant

pub returns-then-not-in_class : goal.returns-then-not-in_class
returns-then-not-in_class c = passed-stop _ _ _ (search rules) (sym c.in_class.ensures ∙ c.if-not-in_class.true) ∙ c.loop-i.invariant

at-end : (p : ℕ → Bool) (s : List ℕ) (at i m : ℕ) → m ≡ max at (length s) → length s ≤ i → (at ≤ length s → i ≤ length s) → passed p s i ≡ passed p s at → m ≡ passed p s at
at-end p s at i m e h k q = elim (cases_lt (length s) at) [
  | inl g ↦ let f : at ≡ passed p s at = passed-end p s at (omega arith) in omega (arith, e, f)
  | inr g ↦ let f : i ≡ passed p s i = passed-end p s i h in let j : i ≤ length s = k g in omega (arith, e, f, q, j)
]

pub returns : goal.returns
returns c = at-end _ _ _ _ _ c.max.ensures c.loop-i-test.false (λ h. c.loop-i.auto.i-end h) c.loop-i.invariant
