use Rattle.std.proofs.Common.{◌≡◌, ◌+◌, ◌-◌, length, drop, sym, ◌∙◌, arith, length-drop, length-take, add-zero}
use Rattle.writer.proofs.Runs.{without-start, without-one, element_from}
use Rattle.writer.proofs.first_outside.Goals as goal

pub loop-i-init : goal.loop-i-init
loop-i-init c = rw add-zero (without-start _ _ _ c.requires.0)

pub loop-i-preserved : goal.loop-i-preserved
loop-i-preserved c =
    let r = element_from c.args.s.now c.args.p c.loop-i.i c.loop-i-test.true in
    let e : c.args.p + (c.loop-i.i + 1) ≡ c.args.p + c.loop-i.i + 1 = omega arith in
    rw e (without-one c.loop-i.invariant r.1 (rw r.0 at (sym c.is_outside.ensures ∙ c.if-is_outside.false)))

pub returns-then-is_outside : goal.returns-then-is_outside
returns-then-is_outside c = c.loop-i.invariant

pub returns : goal.returns
returns c =
    let l = length-take (length c.args.s.now - c.args.p) (drop c.args.p c.args.s.now) in
    let m = length-drop c.args.p c.args.s.now in
    let e : c.args.p + c.loop-i.i ≡ length c.args.s.now = omega (arith, c.loop-i-test.false, c.loop-i.auto.i-end, l, m, c.requires.0) in
    rw e at c.loop-i.invariant
