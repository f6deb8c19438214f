use Rattle.std.proofs.Common.{leb, sym, ◌∙◌, arith}
use lib.ListN.{length-map}
use Rattle.lists.proofs.Writing.{writing_start, writing_more, writing-whole}
use Rattle.writer.specs.Blocks.{capped}
use Rattle.lists.proofs.Parts.{map_at}
use Rattle.lists.proofs.Only.{counting-start, counting_more, counting-done, one_at_most}
use Rattle.pixel_counts.proofs.Counting.{one_if}
use Rattle.writer.proofs.Gathering.{capped-is}
use Rattle.writer.proofs.cap_into.Goals as goal

pub loop-i-init : goal.loop-i-init
loop-i-init c = (counting-start _ _, writing_start _ _ (simp length-map (omega arith)))

pub bounds-out-i : goal.bounds-out-i
bounds-out-i c = omega (arith, c.loop-i.invariant.1.same)

pub overflow_add-k : goal.overflow_add-k
overflow_add-k c = omega (arith, one_at_most (leb c.args.limit) _ _ (c.from-k.ensures ∙ one_if _), c.loop-i.invariant.0.low, c.requires.1)

pub loop-i-preserved : goal.loop-i-preserved
loop-i-preserved c = (counting_more _ c.loop-i.invariant.0 c.loop-i-test.true (c.from-k.ensures ∙ one_if _), writing_more _ c.loop-i.invariant.1 (simp length-map c.loop-i-test.true) (c.min.ensures ∙ capped-is _ _ ∙ sym (map_at (capped c.args.limit) c.args.s.now c.loop-i.i c.loop-i-test.true)))

pub shape_of-out : goal.shape_of-out
shape_of-out c = c.loop-i.invariant.1.same

pub returns : goal.returns
returns c = record { value = counting-done c.loop-i.invariant.0 c.loop-i-test.false; out_after = writing-whole c.loop-i.invariant.1 (omega arith) }
