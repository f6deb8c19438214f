use Rattle.std.proofs.Common.{arith}
use Rattle.layout.proofs.Laws.{bytes_le, underflow-small}
use Rattle.writer.specs.Blocks.{places_by}
use Rattle.writer.proofs.places_for.Goals as goal

pub overflow_mul-under : goal.overflow_mul-under
overflow_mul-under c = rw c.width_bytes.ensures (omega (arith, bytes_le c.args.n c.args.form.width))

pub overflow_add-under : goal.overflow_add-under
overflow_add-under c = rw c.width_bytes.ensures (omega (arith, bytes_le c.args.n c.args.form.width))

pub overflow_add-two : goal.overflow_add-two
overflow_add-two c = rw c.width_bytes.ensures (omega (arith, bytes_le c.args.n c.args.form.width, underflow-small c.args.form.underflow c.args.c.under (omega arith)))

pub overflow_add-four : goal.overflow_add-four
overflow_add-four c = rw c.width_bytes.ensures (omega (arith, bytes_le c.args.n c.args.form.width, underflow-small c.args.form.underflow c.args.c.under (omega arith), c.padded_bytes.ensures.upper_bound))

pub returns : goal.returns
unfolding places_by
returns c = record { value = rw (c.width_bytes.ensures, c.underflow_table_bytes.ensures, c.padded_bytes.ensures.value); four_bound = rw c.width_bytes.ensures (omega (arith, bytes_le c.args.n c.args.form.width, underflow-small c.args.form.underflow c.args.c.under (omega arith), c.padded_bytes.ensures.upper_bound)) }
