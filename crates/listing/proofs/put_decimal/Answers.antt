use Rattle.listing.proofs.WritingLaws.{writing_start, writing-byte, writing-done, writing-length, decimal-last, decimal-more, no-decimal}
use native.Mathlib.Omega.{arith}
use Prim.Native.Nat.{◌+◌, ◌-◌}
use lib.ListN.{length, length-set}
use mathlib.Core.Path.{◌≡◌, refl}
use mathlib.Core.List.{[]}
use Rattle.listing.proofs.put_decimal.Goals as goal

pub loop-left-init : goal.loop-left-init
loop-left-init c =
    let e : length c.args.out.now - 10 + 10 ≡ length c.args.out.now = omega arith in
    rw e (writing_start _ _ _ (omega arith))

pub bounds-out-longest : goal.bounds-out-longest
bounds-out-longest c = omega (arith, writing-length c.loop-left.invariant)

pub shape_of-out-then-rest-lt10 : goal.shape_of-out-then-rest-lt10
shape_of-out-then-rest-lt10 c = simp length-set (writing-length c.loop-left.invariant)

pub returns-then-rest-lt10 : goal.returns-then-rest-lt10
returns-then-rest-lt10 c =
    let l = c.loop-left in
    writing-done (writing-byte l.invariant [] _ _ (omega arith) (decimal-last _ l.rest (omega arith) c.if-rest-lt10.true)) refl

pub loop-left-preserved : goal.loop-left-preserved
loop-left-preserved c =
    let l = c.loop-left in
    writing-byte l.invariant _ _ _ (omega arith) (decimal-more l.left l.rest (omega arith) c.if-rest-lt10.false)

pub shape_of-out : goal.shape_of-out
shape_of-out c = writing-length c.loop-left.invariant

pub returns : goal.returns
returns c =
    let l = c.loop-left in
    let e : length c.args.out.now - 10 + l.left ≡ length c.args.out.now - 10 = omega arith in
    rw e at (writing-done l.invariant (no-decimal _ l.rest (omega arith)))
