use Rattle.std.proofs.Common.{refl}
use Rattle.layout.specs.declared.Width.TheVariants as W
use Rattle.writer.proofs.Over.{none-put}
use Rattle.writer.proofs.Placing.{past_is, four-values}
use Rattle.writer.proofs.store_four.Goals as goal

pub returns : goal.returns
returns c = record { value = past_is W.Four _ _ _ _ _ refl (none-put _ 2 _ c.args.out.now refl).0 (none-put _ 4 _ c.args.out.now refl).0; out_after = four-values _ _ _ _ c.put.ensures }
