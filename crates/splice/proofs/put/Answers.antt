use Rattle.std.proofs.Common.{length, arith}
use Rattle.table.proofs.Storing.{length-little_bytes}
use Rattle.splice.proofs.Fits.{put-fits}
use Rattle.splice.proofs.put.Goals as goal

pub returns-then-at-a-clause-a_after : goal.returns-then-at-a-clause-a_after
returns-then-at-a-clause-a_after c = let a = c.args in
    let e = put-fits (length a.a.now) a.at a.w (omega arith) (omega arith) in
    rw e c.put_le.ensures
