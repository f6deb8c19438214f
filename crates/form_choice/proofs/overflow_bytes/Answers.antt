use native.Mathlib.Omega.{arith}
use Rattle.layout.proofs.Laws.{table-small}
use Rattle.form_choice.proofs.Tables.{table_empty}
use Rattle.form_choice.proofs.overflow_bytes.Goals as goal

pub overflow_add-result : goal.overflow_add-result
overflow_add-result c = rw (c.table_bytes.ensures, c.table_bytes-in-One.ensures) (omega (arith, table-small 2 c.args.c.two (omega arith) (omega arith), table-small 4 c.args.c.four (omega arith) (omega arith)))

pub returns-in-One : goal.returns-in-One
returns-in-One c = rw (c.in-One.is, c.table_bytes.ensures, c.table_bytes-in-One.ensures)

pub returns-in-Two : goal.returns-in-Two
returns-in-Two c = rw c.in-Two.is (omega (arith, table_empty 2, c.table_bytes-in-Two.ensures))

pub returns-in-Four : goal.returns-in-Four
returns-in-Four c = rw (c.in-Four.is, table_empty 2, table_empty 4)
