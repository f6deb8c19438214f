use Rattle.std.proofs.Common.{◌≡◌, ◌-◌, ◌*◌, [], length, drop, refl, arith, length-drop, take_all}
use Rattle.table.proofs.Laws.{whole-within, whole_from, whole-past}
use Rattle.layout.proofs.Laws.{width-pos}
use Rattle.layout.specs.Form.{width_bytes}
use Rattle.table.proofs.entries_from.Goals as goal

pub nonzero_div-n : goal.nonzero_div-n
nonzero_div-n c = omega (arith, c.width_bytes-each.ensures, width-pos c.args.w)

pub overflow_mul-at : goal.overflow_mul-at
overflow_mul-at c = let a = c.args in let e = c.width_bytes-each.result in omega (arith, whole-within e a.k a.t.now c.if-k-n.true)

pub slice_bounds-result-count : goal.slice_bounds-result-count
slice_bounds-result-count c = let a = c.args in let e = c.width_bytes-each.result in omega (arith, whole-within e a.k a.t.now c.if-k-n.true)

pub slice_bounds-result-start : goal.slice_bounds-result-start
slice_bounds-result-start c = let a = c.args in let e = c.width_bytes-each.result in omega (arith, whole-within e a.k a.t.now c.if-k-n.true)

pub returns-then-k-n : goal.returns-then-k-n
returns-then-k-n c = let a = c.args in let t = a.t.now in rw (c.width_bytes-each.ensures, take_all (length t - a.k * width_bytes a.w) (drop (a.k * width_bytes a.w) t) (omega (arith, length-drop (a.k * width_bytes a.w) t))) (whole_from a.w a.k t)

pub returns : goal.returns
returns c = let a = c.args in let t = a.t.now in let e : length t - length t ≡ 0 = omega arith in rw e (whole-past a.w a.k t [] refl (rw c.width_bytes-each.ensures at c.if-k-n.false))
