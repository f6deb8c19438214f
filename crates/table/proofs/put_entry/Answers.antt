use Rattle.std.proofs.Common.{◌+◌, length, arith, le-leb}
use borrow.Author.Tests.{lt-leb}
use Rattle.table.proofs.Storing.{entry-over, put-one}
use Rattle.table.proofs.put_entry.Goals as goal

pub returns-then-n-each : goal.returns-then-n-each
returns-then-n-each c =
    let w = c.width_bytes-each in
    let e = lt-leb (c.args.at + w.result) (length c.args.t.now) (omega arith) in
    rw (← w.ensures, e)

pub returns-then-n-each-2 : goal.returns-then-n-each-2
returns-then-n-each-2 c =
    let w = c.width_bytes-each in
    let e = lt-leb (c.args.at + w.result) (length c.args.t.now) (omega arith) in
    rw (← w.ensures, e)

pub returns : goal.returns
returns c =
    let w = c.width_bytes-each in
    let e = le-leb (c.args.at + w.result) (length c.args.t.now) (omega arith) in
    rw (← w.ensures, e, ← entry-over) (put-one w.result c.args.at c.args.v c.args.t.now _ (omega arith) c.put_le.ensures)
