use Rattle.layout.specs.Form.{entry_bytes}
use Rattle.std.proofs.Common.{arith}
use Rattle.writer.proofs.Over.{none_found, none-put, taken-length, some-put}
use Rattle.writer.proofs.put_underflows.Goals as goal

pub returns-then-k-eq0 : goal.returns-then-k-eq0
returns-then-k-eq0 c = record { value = (none-put c.args.at (entry_bytes c.args.e) _ c.args.out.now (none_found _ _ c.requires.1 c.if-k-eq0.true)).0; out_after = (none-put c.args.at (entry_bytes c.args.e) _ c.args.out.now (none_found _ _ c.requires.1 c.if-k-eq0.true)).1 }

pub slice_bounds-put-end : goal.slice_bounds-put-end
slice_bounds-put-end c = taken-length _ _ _ (c.gather_at_most-n.ensures.value, c.gather_at_most-n.ensures.out_after)

pub put-requires : goal.put-requires
put-requires c = let p = rw c.in-One.is at c.requires.2 in rw c.gather_at_most-n.ensures.out_after p

pub slice_bounds-put-end-in-Two : goal.slice_bounds-put-end-in-Two
slice_bounds-put-end-in-Two c = taken-length _ _ _ (c.gather_at_most-n.ensures.value, c.gather_at_most-n.ensures.out_after)

pub put-requires-in-Two : goal.put-requires-in-Two
put-requires-in-Two c = let p = rw c.in-Two.is at c.requires.2 in rw c.gather_at_most-n.ensures.out_after p

pub returns-in-One : goal.returns-in-One
returns-in-One c = let q = some-put _ 1 _ _ _ _ _ (c.gather_at_most-n.ensures.value, c.gather_at_most-n.ensures.out_after) c.put.ensures in record { value = rw c.in-One.is (omega (arith, c.gather_at_most-n.ensures.value)); out_after = rw c.in-One.is (q.1) }

pub returns-in-Two : goal.returns-in-Two
returns-in-Two c = let q = some-put _ 2 _ _ _ _ _ (c.gather_at_most-n.ensures.value, c.gather_at_most-n.ensures.out_after) c.put-in-Two.ensures in record { value = rw c.in-Two.is (omega (arith, c.gather_at_most-n.ensures.value)); out_after = rw c.in-Two.is (q.1) }
