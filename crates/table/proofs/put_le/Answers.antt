use Rattle.std.proofs.Common.{◌∙◌, arith, length-set}
use Rattle.table.proofs.Storing.{putting-more, putting-done}
use Rattle.table.proofs.put_le.Goals as goal

pub loop-b-preserved : goal.loop-b-preserved
loop-b-preserved c = simp length-set (putting-more _ _ _ (omega arith) ∙ c.loop-b.invariant)

pub returns : goal.returns
returns c = putting-done _ _ _ _ c.loop-b.invariant (omega arith)
