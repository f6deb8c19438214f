use Prim.Native.Nat.{◌*◌}
use Rattle.survey.proofs.Surveying.{Surveying}
use Rattle.survey.proofs.survey_pixels.Given as goal

abbrev pub invariant-loop-block : goal.invariant-loop-block
invariant-loop-block l = Surveying l.base l.pixels l.s (l.block-index * 1024)
