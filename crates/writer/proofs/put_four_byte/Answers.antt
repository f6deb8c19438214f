use Rattle.writer.proofs.Over.{none_found, none-put, taken-length, some-put}
use Rattle.writer.proofs.put_four_byte.Goals as goal

pub returns-then-k-eq0 : goal.returns-then-k-eq0
returns-then-k-eq0 c = record { value = (none-put c.args.at 4 _ c.args.out.now (none_found _ _ c.requires.1 c.if-k-eq0.true)).0; out_after = (none-put c.args.at 4 _ c.args.out.now (none_found _ _ c.requires.1 c.if-k-eq0.true)).1 }

pub slice_bounds-put-end : goal.slice_bounds-put-end
slice_bounds-put-end c = taken-length _ _ _ (c.gather_from-n.ensures.value, c.gather_from-n.ensures.out_after)

pub put-requires : goal.put-requires
put-requires c = rw c.gather_from-n.ensures.out_after c.requires.2

pub returns : goal.returns
returns c = record { value = (some-put _ 4 _ _ _ _ _ (c.gather_from-n.ensures.value, c.gather_from-n.ensures.out_after) c.put.ensures).0; out_after = (some-put _ 4 _ _ _ _ _ (c.gather_from-n.ensures.value, c.gather_from-n.ensures.out_after) c.put.ensures).1 }
