use Prim.Native.Nat.{◌*◌}
use Rattle.layout.specs.declared.Width.TheVariants as W
use Rattle.layout.specs.declared.Underflow.TheVariants as U
use Rattle.layout.specs.Form.{form_of}
use Rattle.pixel_counts.proofs.Counting.{Blocks}
use Rattle.survey.proofs.survey_none.Given as goal

abbrev pub invariant-loop-block : goal.invariant-loop-block
invariant-loop-block l = Blocks (form_of W.One U.None) 0 l.pixels l.c (l.block-index * 1024)
