-- A line's place is below 80.
use Rattle.std.proofs.Common.{arith, ap}
use Rattle.header_lines.specs.declared.Line.{Line}
use Rattle.header_lines.proofs.Lines.{position-small}
use Rattle.writer_trials.proofs.put_line.Goals as goal

pub put-requires : goal.put-requires
put-requires c = omega (arith, position-small c.line_id.result, ap (λ (x : Line). x.position) c.line_of-l.ensures)

pub put-requires-then-text-eq33 : goal.put-requires-then-text-eq33
put-requires-then-text-eq33 c = omega (arith, position-small c.line_id.result, ap (λ (x : Line). x.position) c.line_of-l.ensures)

pub put-requires-else-text-eq33 : goal.put-requires-else-text-eq33
put-requires-else-text-eq33 c = omega (arith, position-small c.line_id.result, ap (λ (x : Line). x.position) c.line_of-l.ensures)
