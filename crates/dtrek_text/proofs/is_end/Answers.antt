use Rattle.std.proofs.Common.{◌∙◌, arith}
use Rattle.numeral.proofs.Runs.{leading_le}
use Rattle.dtrek_text.specs.declared.Class.TheVariants as C
use Rattle.dtrek_text.specs.Bytes.{in_class}
use Rattle.dtrek_text.proofs.Ends.{end-no-line, end-other, end-spaces}
use Rattle.dtrek_text.proofs.is_end.Goals as goal

pub returns-then-not-on_new_line : goal.returns-then-not-on_new_line
returns-then-not-on_new_line c = end-no-line _ c.on_new_line.ensures c.if-not-on_new_line.true

pub slice_bounds-starts_with-count : goal.slice_bounds-starts_with-count
slice_bounds-starts_with-count c = omega (arith, c.run-start.ensures, leading_le (in_class C.White) c.args.p.now)

pub slice_bounds-starts_with-start : goal.slice_bounds-starts_with-start
slice_bounds-starts_with-start c = omega (arith, c.run-start.ensures, leading_le (in_class C.White) c.args.p.now)

pub returns-then-starts_with : goal.returns-then-starts_with
returns-then-starts_with c = end-spaces _ c.on_new_line.ensures c.if-not-on_new_line.false c.run-start.ensures c.starts_with.ensures.value c.if-starts_with.true c.run_end.ensures

pub returns-else-starts_with : goal.returns-else-starts_with
returns-else-starts_with c = c.if-starts_with.false ∙ end-other _ c.on_new_line.ensures c.if-not-on_new_line.false c.run-start.ensures c.starts_with.ensures.value c.if-starts_with.false
