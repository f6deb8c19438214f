use mathlib.Core.Path.{refl}
use native.Mathlib.Omega.{arith}
use Rattle.replacement.specs.Replaced.{cut_of}
use Rattle.replacement.proofs.Numbers.{product}
use Rattle.replacement.proofs.cut_of.Goals as goal

pub overflow_mul-result : goal.overflow_mul-result
overflow_mul-result c = omega (arith, product c.args.n c.args.w c.requires)

pub overflow_mul-result-2 : goal.overflow_mul-result-2
overflow_mul-result-2 c = omega (arith, product c.args.before c.args.w c.requires)

pub overflow_mul-result-3 : goal.overflow_mul-result-3
overflow_mul-result-3 c = omega (arith, product c.args.old c.args.w c.requires)

pub overflow_mul-result-4 : goal.overflow_mul-result-4
overflow_mul-result-4 c = omega (arith, product c.args.new c.args.w c.requires)

pub returns : goal.returns
unfolding cut_of
returns c = refl
