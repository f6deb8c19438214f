use Rattle.std.proofs.Common.{◌≡◌, length}
use Rattle.dtrek_text.specs.Bytes.{trim_end, trimmed}
use Rattle.dtrek_text.proofs.trim.Given as goal

abbrev pub invariant-loop-rest : goal.invariant-loop-rest
invariant-loop-rest l = trim_end l.rest ≡ trimmed l.v

abbrev pub decreases-loop-rest : goal.decreases-loop-rest
decreases-loop-rest l = length l.rest
