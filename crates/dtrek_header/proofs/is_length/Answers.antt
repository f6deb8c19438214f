use Rattle.std.proofs.Common.{◌<◌, arith}
use Rattle.std.proofs.lemmas.Grind.{common_steps}
use Rattle.dtrek_header.proofs.is_length.Goals as goal

-- by the test against the highest length itself
pub returns-else-n-le99840 : goal.returns-else-n-le99840
returns-else-n-le99840 c = let h : 99840 < c.args.n = c.if-n-le99840.false in grind (arith, common_steps, h)
