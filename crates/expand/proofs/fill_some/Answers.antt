use Rattle.std.proofs.Common.{◌∙◌, arith}
use Rattle.expand.proofs.Loops.{any-counted}
use Rattle.std.proofs.Common.{sym, arith}
use Rattle.expand.proofs.Steps.{none_of, replace-none}
use Rattle.expand.proofs.fill_some.Goals as goal

pub returns-else-holds : goal.returns-else-holds
returns-else-holds c = let z = none_of _ _ _ (c.holds.ensures ∙ any-counted _ _) c.if-holds.false in record { value = omega arith; pixels_after = sym (replace-none _ _ _ z) }
