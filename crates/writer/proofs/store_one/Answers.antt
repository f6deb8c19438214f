use Rattle.std.proofs.Common.{◌∙◌, arith, rules}
use Rattle.layout.specs.declared.Width.TheVariants as W
use Rattle.lists.proofs.Only.{none_from}
use Rattle.pixel_counts.proofs.Counting.{from-whole}
use Rattle.writer.proofs.Placing.{past_is, values-are}
use Rattle.writer.proofs.store_one.Goals as goal

pub put_four_byte-four-requires : goal.put_four_byte-four-requires
put_four_byte-four-requires c = (search rules, c.count_above-large.ensures ∙ from-whole _ _ _ (omega arith) (none_from 255 65535 _ _ (omega arith) c.cap_into-k.ensures.value), search rules)

pub returns : goal.returns
returns c = record { value = past_is W.One _ _ _ _ _ (omega arith) c.put_two_byte-two.ensures.value c.put_four_byte-four.ensures.value; out_after = values-are W.One _ _ _ _ _ _ c.put_two_byte-two.ensures.out_after c.put_four_byte-four.ensures.out_after (c.put.ensures ∙ rw c.cap_into-k.ensures.out_after) }
