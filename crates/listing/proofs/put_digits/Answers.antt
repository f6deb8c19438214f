use Rattle.listing.proofs.WritingLaws.{writing_start, writing-byte, writing-done, writing-length, digits_more, no-digits}
use native.Mathlib.Omega.{arith}
use mathlib.Core.Path.{◌≡◌}
use lib.ListN.{length}
use Prim.Native.Nat.{◌+◌, ◌-◌}
use Rattle.listing.proofs.put_digits.Goals as goal

pub loop-left-init : goal.loop-left-init
loop-left-init c =
    let e : length c.args.out.now - c.args.count + c.args.count ≡ length c.args.out.now = omega arith in
    rw e (writing_start _ _ _ (omega arith))

pub bounds-out-start : goal.bounds-out-start
bounds-out-start c = omega (arith, writing-length c.loop-left.invariant)

pub loop-left-preserved : goal.loop-left-preserved
loop-left-preserved c =
    let l = c.loop-left in
    writing-byte l.invariant _ _ _ (omega arith) (digits_more l.left l.rest (omega arith))

pub shape_of-out : goal.shape_of-out
shape_of-out c = writing-length c.loop-left.invariant

pub returns : goal.returns
returns c =
    let l = c.loop-left in
    let e : length c.args.out.now - c.args.count + l.left ≡ length c.args.out.now - c.args.count = omega arith in
    rw e at (writing-done l.invariant (no-digits _ l.rest (omega arith)))
