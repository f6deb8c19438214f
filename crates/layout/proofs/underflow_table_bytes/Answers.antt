use mathlib.Core.Path.{sym, ◌∙◌}
use Rattle.layout.proofs.Laws.{same_width, table_none}
use Rattle.layout.proofs.underflow_table_bytes.Goals as goal

pub returns-in-None : goal.returns-in-None
returns-in-None c = rw c.in-None.is (sym (table_none c.args.count))

pub returns-in-Subtracted : goal.returns-in-Subtracted
returns-in-Subtracted c = rw c.in-Subtracted.is (c.table_bytes.ensures ∙ rw (c.entry_width.ensures, same_width))
