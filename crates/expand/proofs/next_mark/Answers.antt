use Rattle.expand.proofs.Runs.{passed_start, passed-more}
use Rattle.std.proofs.Common.{◌≡◌, ◌+◌, ◌-◌, ◌*◌, ◌%◌, arith}
use Rattle.expand.proofs.next_mark.Goals as goal

pub loop-k-init : goal.loop-k-init
loop-k-init c = let e : c.args.p + 0 * 16 ≡ c.args.p = omega arith in rw e (passed_start _ _ _ _ (omega arith))

pub loop-k-preserved : goal.loop-k-preserved
loop-k-preserved c =
    let q = c.args.p + c.loop-k.k * 16 in
    let e : c.args.p + (c.loop-k.k + 1) * 16 ≡ q + 16 = omega arith in
    rw e (passed-more (q + 16) c.loop-k.invariant (omega arith) (omega arith) (c.any_mark.ensures c.if-any_mark.false))

pub returns-then-any_mark : goal.returns-then-any_mark
returns-then-any_mark c = let f = c.first_mark.ensures in passed-more c.first_mark.result c.loop-k.invariant f.low f.upto f.none

pub returns : goal.returns
returns c =
    let e : c.args.p + c.loop-k.k * 16 ≡ c.args.end - (c.args.end - c.args.p) % 16 = omega arith in
    let f = c.first_mark-2.ensures in
    passed-more c.first_mark-2.result (rw e at c.loop-k.invariant) f.low f.upto f.none
