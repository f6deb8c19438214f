use Rattle.std.specs.Prelude.{◌*◌, ◌-◌}
use native.Mathlib.Omega.{arith}
use Rattle.std.proofs.Common.{rules}
use Rattle.compaction.proofs.Gathering.{gathering-start, gathering-small, gathering-back, gathering-skip, gathering-stay, gathering-done}
use Rattle.splice.proofs.Fits.{copy-fits}
use Rattle.compaction.proofs.gather.Goals as goal

pub loop-i-init : goal.loop-i-init
loop-i-init c = gathering-start _ _ c.requires.0 c.requires.1

pub overflow_mul-i : goal.overflow_mul-i
overflow_mul-i c = let f = c.loop-i.invariant in omega (arith, f.fits, f.upto, f.count)

pub bounds-ledger-i : goal.bounds-ledger-i
bounds-ledger-i c = let f = c.loop-i.invariant in omega (arith, f.fits, f.upto, f.count, f.size)

pub overflow_add-skip : goal.overflow_add-skip
overflow_add-skip c = let f = c.loop-i.invariant in omega (arith, gathering-small f, f.fits)

pub loop-i-preserved-then-ledger-i-eq2 : goal.loop-i-preserved-then-ledger-i-eq2
loop-i-preserved-then-ledger-i-eq2 c = gathering-back c.loop-i.invariant _ (omega arith) (λ k. search rules) c.if-ledger-i-eq2.true

pub loop-i-preserved-then-skip-gt0 : goal.loop-i-preserved-then-skip-gt0
loop-i-preserved-then-skip-gt0 c = gathering-skip c.loop-i.invariant _ (omega arith) (λ k. search rules) c.if-ledger-i-eq2.false c.if-skip-gt0.true

pub overflow_sub-to : goal.overflow_sub-to
overflow_sub-to c = omega (arith, c.loop-i.invariant.upto)

pub overflow_mul-i-else-skip-gt0 : goal.overflow_mul-i-else-skip-gt0
overflow_mul-i-else-skip-gt0 c = let f = c.loop-i.invariant in omega (arith, f.fits, f.upto, f.count)

pub overflow_mul-to : goal.overflow_mul-to
overflow_mul-to c = let f = c.loop-i.invariant in omega (arith, f.fits, f.upto, f.count)

pub loop-i-preserved : goal.loop-i-preserved
loop-i-preserved c = let f = c.loop-i.invariant in
    rw (c.copy_within.ensures, copy-fits c.loop-i.ledger ((c.loop-i.i - 1) * 16) ((c.loop-i.to - 1) * 16) 16 (omega (arith, f.fits, f.upto, f.count, f.size)) (omega (arith, f.fits, f.upto, f.count, f.size)))
    (gathering-stay f _ (omega arith) (λ k. search rules) c.if-ledger-i-eq2.false c.if-skip-gt0.false)

pub shape_of-ledger : goal.shape_of-ledger
shape_of-ledger c = c.loop-i.invariant.size

pub returns : goal.returns
returns c = gathering-done c.loop-i.invariant (omega arith)
