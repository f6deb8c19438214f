use native.Mathlib.Omega.{arith}
use Rattle.replay.proofs.Playing.{playing-start, playing-more, lines-given, few-enough, played-all}
use Rattle.replay.proofs.replay.Goals as goal

pub loop-i-init : goal.loop-i-init
loop-i-init c = let f = few-enough _ _ _ c.call_count-n.ensures in playing-start _ _ _ _ _ _ f.0 f.1

pub loop-i-preserved : goal.loop-i-preserved
loop-i-preserved c =
    let r = c.make_call-r.ensures in
    playing-more _ _ _ _ _ _ _ c.loop-i.invariant c.loop-i-test.true r.value r.held_after r.ledger_after (lines-given _ _)

pub returns : goal.returns
returns c =
    let p = played-all c.loop-i.invariant (omega (arith, c.loop-i.invariant.upto, c.loop-i-test.false)) c.call_count-n.ensures in
    record { value = p.0; held_after = p.1; ledger_after = p.2; replies_after = p.3 }
