use Rattle.expand.proofs.Runs.{passed_start, passed-more, one_of}
use Rattle.std.proofs.Common.{◌≡◌, ◌+◌, arith}
use Rattle.expand.proofs.first_mark.Goals as goal

pub loop-q-init : goal.loop-q-init
loop-q-init c = passed_start _ _ _ _ (omega arith)

pub returns-then-is_mark : goal.returns-then-is_mark
returns-then-is_mark c = c.loop-q.invariant

pub loop-q-preserved : goal.loop-q-preserved
loop-q-preserved c = let l = c.loop-q in passed-more (l.q + 1) l.invariant (omega arith) (omega arith) (rw (one_of l.q c.args.s.now (omega arith)) (c.is_mark.ensures c.if-is_mark.false))

pub returns : goal.returns
returns c = let e : c.loop-q.q ≡ c.args.end = omega arith in rw e at c.loop-q.invariant
