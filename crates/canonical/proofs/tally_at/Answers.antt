use native.Mathlib.Omega.{arith}
use lib.Seq.{length-take-le}
use mathlib.Core.Path.{sym}
use Rattle.layout.proofs.Laws.{width-pos}
use Rattle.tally.specs.Tally.{tally_more}
use Rattle.canonical.proofs.Laws.{front_fits, Halves, halves-all, halves-few, halves-first}
use Rattle.canonical.proofs.tally_at.Goals as goal

pub nonzero_div-t : goal.nonzero_div-t
nonzero_div-t c = rw c.width_bytes-each.ensures (width-pos c.args.w)

pub overflow_mul-at : goal.overflow_mul-at
overflow_mul-at c = omega (arith, front_fits c.width_bytes-each.result c.min-k.result c.args.t.now (omega arith))

pub slice_bounds-tally_table-end : goal.slice_bounds-tally_table-end
slice_bounds-tally_table-end c = sym (length-take-le _ _ (front_fits c.width_bytes-each.result c.min-k.result c.args.t.now (omega arith)))

pub slice_bounds-tally_table-count : goal.slice_bounds-tally_table-count
slice_bounds-tally_table-count c = omega (arith, front_fits c.width_bytes-each.result c.min-k.result c.args.t.now (omega arith))

pub slice_bounds-tally_table-start : goal.slice_bounds-tally_table-start
slice_bounds-tally_table-start c = omega (arith, front_fits c.width_bytes-each.result c.min-k.result c.args.t.now (omega arith))

pub overflow_add-all : goal.overflow_add-all
unfolding tally_more
overflow_add-all c = let f : Halves c.args.w c.args.mark c.args.low c.args.high c.width_bytes-each.result c.min-k.result c.args.t.now c.tally_table-first.result c.tally_table-rest.result = record { width = c.width_bytes-each.ensures; upto = (omega arith); first = c.tally_table-first.ensures; rest = c.tally_table-rest.ensures } in
    omega (arith, halves-few f)

pub overflow_add-all-2 : goal.overflow_add-all-2
unfolding tally_more
overflow_add-all-2 c = let f : Halves c.args.w c.args.mark c.args.low c.args.high c.width_bytes-each.result c.min-k.result c.args.t.now c.tally_table-first.result c.tally_table-rest.result = record { width = c.width_bytes-each.ensures; upto = (omega arith); first = c.tally_table-first.ensures; rest = c.tally_table-rest.ensures } in
    omega (arith, halves-few f)

pub overflow_add-all-3 : goal.overflow_add-all-3
unfolding tally_more
overflow_add-all-3 c = let f : Halves c.args.w c.args.mark c.args.low c.args.high c.width_bytes-each.result c.min-k.result c.args.t.now c.tally_table-first.result c.tally_table-rest.result = record { width = c.width_bytes-each.ensures; upto = (omega arith); first = c.tally_table-first.ensures; rest = c.tally_table-rest.ensures } in
    omega (arith, halves-few f)

pub returns : goal.returns
unfolding tally_more
returns c = let f : Halves c.args.w c.args.mark c.args.low c.args.high c.width_bytes-each.result c.min-k.result c.args.t.now c.tally_table-first.result c.tally_table-rest.result = record { width = c.width_bytes-each.ensures; upto = (omega arith); first = c.tally_table-first.ensures; rest = c.tally_table-rest.ensures } in
    (halves-first f c.args.j (λ h. omega arith) (λ h. omega arith), halves-all f)
