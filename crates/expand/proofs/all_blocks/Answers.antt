use Rattle.expand.proofs.Whole.{whole_plain}
use Rattle.std.proofs.Common.{arith}
use Rattle.expand.proofs.all_blocks.Goals as goal

pub step_runs-requires : goal.step_runs-requires
step_runs-requires c = let a = c.expects_few.ensures c.if-expects_few.true in let q = rw a.0 at c.requires in (omega (arith, q), a.1)

pub returns-then-expects_few : goal.returns-then-expects_few
returns-then-expects_few c = rw (c.expects_few.ensures c.if-expects_few.true).0 c.step_runs.ensures

pub load_plain-requires : goal.load_plain-requires
load_plain-requires c = let a = c.is_plain.ensures c.if-is_plain.true in rw a.0 at c.requires

pub returns-then-is_plain : goal.returns-then-is_plain
returns-then-is_plain c = let a = c.is_plain.ensures c.if-is_plain.true in rw (a.0, a.1, c.load_plain.ensures.value) (whole_plain _ _ _ c.load_plain.ensures.pixels_after)
