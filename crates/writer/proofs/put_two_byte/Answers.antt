use lib.ListN.{length-map}
use Rattle.std.proofs.Common.{arith, leb}
use Rattle.lists.specs.Only.{only}
use Rattle.lists.proofs.Only.{only-le}
use Rattle.writer.proofs.Over.{none-capped, none-put, capped-put}
use Rattle.writer.proofs.put_two_byte.Goals as goal

pub returns-then-k-eq0 : goal.returns-then-k-eq0
returns-then-k-eq0 c = record { value = (none-put c.args.at 2 _ c.args.out.now (none-capped c.args.k (only (leb 255) c.args.low.now) c.requires.1 c.if-k-eq0.true)).0; out_after = (none-put c.args.at 2 _ c.args.out.now (none-capped c.args.k (only (leb 255) c.args.low.now) c.requires.1 c.if-k-eq0.true)).1 }

pub slice_bounds-put_capped-end : goal.slice_bounds-put_capped-end
slice_bounds-put_capped-end c = omega (arith, c.gather_from-n.ensures.value, only-le (leb 255) c.args.low.now, c.requires.0)

pub put_capped-requires : goal.put_capped-requires
put_capped-requires c = rw c.gather_from-n.ensures.out_after (rw length-map at c.requires.2)

pub returns : goal.returns
returns c = record { value = (capped-put _ _ _ _ _ _ (c.gather_from-n.ensures.value, c.gather_from-n.ensures.out_after) c.put_capped.ensures).0; out_after = (capped-put _ _ _ _ _ _ (c.gather_from-n.ensures.value, c.gather_from-n.ensures.out_after) c.put_capped.ensures).1 }
