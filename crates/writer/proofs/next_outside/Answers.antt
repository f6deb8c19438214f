use Rattle.std.proofs.Common.{◌≡◌, ◌+◌, ◌*◌, length, arith, add-zero, zero-mul}
use Rattle.writer.proofs.Runs.{without-start, without-part, without-join, block_from}
use Rattle.writer.proofs.next_outside.Goals as goal

pub loop-i-init : goal.loop-i-init
loop-i-init c = rw (zero-mul, add-zero) (without-start _ _ _ c.requires.0)

pub any_outside-requires : goal.any_outside-requires
any_outside-requires c = c.requires.1

pub loop-i-preserved : goal.loop-i-preserved
loop-i-preserved c =
    let b = block_from c.args.s.now c.args.p c.loop-i.i c.as_chunks.result.0.now c.requires.0 c.as_chunks.ensures.front (omega (arith, c.loop-i-test.true, c.as_chunks.ensures.front_len)) in
    without-part (c.args.p + (c.loop-i.i + 1) * 16) c.loop-i.invariant (omega arith) b.1 (rw b.0 at (c.any_outside.ensures c.if-any_outside.false))

pub first_outside-requires : goal.first_outside-requires
first_outside-requires c = (c.loop-i.invariant.upto, c.requires.1)

pub returns-then-any_outside : goal.returns-then-any_outside
returns-then-any_outside c = let r = c.first_outside.ensures in without-join _ c.loop-i.invariant r.from r.upto r.none

pub returns : goal.returns
returns c =
    let e : c.loop-i.i ≡ length c.as_chunks.result.0.now = omega (arith, c.loop-i-test.false, c.loop-i.auto.i-end) in
    let r = rw (← e) at c.first_outside-2.ensures in
    without-join _ c.loop-i.invariant r.from r.upto r.none
