use Rattle.std.proofs.Common.{refl, arith}
use Rattle.writer.proofs.Over.{put-part}
use Rattle.writer.proofs.put.Goals as goal

pub overflow_mul-e : goal.overflow_mul-e
overflow_mul-e c = let p = rw (← c.width_bytes-each.ensures) at c.requires in omega arith

pub overflow_add-e : goal.overflow_add-e
overflow_add-e c = let p = rw (← c.width_bytes-each.ensures) at c.requires in omega arith

pub slice_bounds-store-end : goal.slice_bounds-store-end
slice_bounds-store-end c = let p = rw (← c.width_bytes-each.ensures) at c.requires in omega arith

pub returns : goal.returns
returns c = let a = c.args in
    let n = c.width_bytes-each.ensures in
    rw n (put-part a.values.now a.out.now _ _ a.at _ refl c.requires (rw n at c.store.ensures.out_after))
