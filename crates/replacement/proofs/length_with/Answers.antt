use native.Mathlib.Omega.{arith}
use Rattle.layout.specs.Form.{width_bytes}
use Rattle.layout.proofs.Laws.{width-le, table-small, underflow-small}
use Rattle.replacement.specs.Replaced.{length_with}
use Rattle.replacement.proofs.Numbers.{product}
use Rattle.replacement.proofs.length_with.Goals as goal

pub overflow_add-result : goal.overflow_add-result
overflow_add-result c = let a = c.args in
    let u = underflow-small a.place.form.underflow a.c.under (omega arith) in
    let t = table-small 2 a.c.two (omega arith) (omega arith) in
    let f = table-small 4 a.c.four (omega arith) (omega arith) in
    omega (arith, product a.place.pixels (width_bytes a.place.form.width) (width-le a.place.form.width))

pub overflow_add-result-2 : goal.overflow_add-result-2
overflow_add-result-2 c = let a = c.args in
    let u = underflow-small a.place.form.underflow a.c.under (omega arith) in
    let t = table-small 2 a.c.two (omega arith) (omega arith) in
    let f = table-small 4 a.c.four (omega arith) (omega arith) in
    omega (arith, product a.place.pixels (width_bytes a.place.form.width) (width-le a.place.form.width))

pub overflow_add-result-3 : goal.overflow_add-result-3
overflow_add-result-3 c = let a = c.args in
    let u = underflow-small a.place.form.underflow a.c.under (omega arith) in
    let t = table-small 2 a.c.two (omega arith) (omega arith) in
    let f = table-small 4 a.c.four (omega arith) (omega arith) in
    omega (arith, product a.place.pixels (width_bytes a.place.form.width) (width-le a.place.form.width))

pub returns : goal.returns
unfolding length_with
returns c = rw (c.image_stop.ensures, c.table_bytes-four.ensures, c.table_bytes-two.ensures, c.underflow_table_bytes-under.ensures)
