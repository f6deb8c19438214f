use Rattle.std.proofs.Common.{refl, arith}
use Rattle.writer.proofs.Over.{run-part}
use Rattle.writer.proofs.put_run.Goals as goal

pub overflow_mul-e : goal.overflow_mul-e
overflow_mul-e c = let p = rw (← c.width_bytes.ensures) at c.requires in omega arith

pub overflow_add-e : goal.overflow_add-e
overflow_add-e c = let p = rw (← c.width_bytes.ensures) at c.requires in omega arith

pub slice_bounds-store_less-end : goal.slice_bounds-store_less-end
slice_bounds-store_less-end c = let p = rw (← c.width_bytes.ensures) at c.requires in omega arith

pub slice_bounds-store_less-end-in-Two : goal.slice_bounds-store_less-end-in-Two
slice_bounds-store_less-end-in-Two c = let p = rw (← c.width_bytes.ensures) at c.requires in omega arith

pub slice_bounds-store_less-end-in-Four : goal.slice_bounds-store_less-end-in-Four
slice_bounds-store_less-end-in-Four c = let p = rw (← c.width_bytes.ensures) at c.requires in omega arith

pub returns-in-One : goal.returns-in-One
returns-in-One c = let a = c.args in
    let w = c.in-One.is in
    let n = c.width_bytes.ensures in
    rw (n, w) (run-part a.run.now a.out.now _ a.base _ a.at _ refl (rw w at c.requires) (rw (n, w) at c.store_less.ensures.out_after))

pub returns-in-Two : goal.returns-in-Two
returns-in-Two c = let a = c.args in
    let w = c.in-Two.is in
    let n = c.width_bytes.ensures in
    rw (n, w) (run-part a.run.now a.out.now _ a.base _ a.at _ refl (rw w at c.requires) (rw (n, w) at c.store_less-in-Two.ensures.out_after))

pub returns-in-Four : goal.returns-in-Four
returns-in-Four c = let a = c.args in
    let w = c.in-Four.is in
    let n = c.width_bytes.ensures in
    rw (n, w) (run-part a.run.now a.out.now _ a.base _ a.at _ refl (rw w at c.requires) (rw (n, w) at c.store_less-in-Four.ensures.out_after))
