use Rattle.std.proofs.Common.{refl, ◌∙◌}
use Rattle.layout.specs.declared.Width.TheVariants as W
use Rattle.writer.proofs.Over.{none-put}
use Rattle.writer.proofs.Placing.{past_is, values-are}
use Rattle.writer.proofs.store_two.Goals as goal

pub returns : goal.returns
returns c = record { value = past_is W.Two _ _ _ _ _ refl (none-put _ 2 _ c.args.out.now refl).0 c.put_four_byte-four.ensures.value; out_after = values-are W.Two _ _ _ _ _ _ (none-put _ 2 _ c.args.out.now refl).1 c.put_four_byte-four.ensures.out_after (c.put.ensures ∙ rw c.cap_into-k.ensures.out_after) }
