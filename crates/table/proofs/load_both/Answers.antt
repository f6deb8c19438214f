use Rattle.std.proofs.Common.{◌≡◌, ◌+◌, ◌-◌, ◌*◌, ◌/◌, ◌%◌, length, refl, arith}
use Rattle.layout.specs.Form.{width_bytes}
use Rattle.table.specs.Table.{entries}
use Rattle.lists.proofs.Halves.{written-more, written-end}
use Rattle.table.proofs.Laws.{length-entries}
use Rattle.table.proofs.load_both.Goals as goal

pub loop-block-preserved : goal.loop-block-preserved
loop-block-preserved c =
    let b = c.loop-block.block in
    let e : (b + 1) * 256 ≡ b * 256 + 256 = omega arith in
    rw e
    (written-more (λ n. entries (width_bytes c.args.w) n c.args.t.now) c.args.out.now c.loop-block.out _ _ _ (b * 256) (b * 256 + 256) _ (length-entries _ _ _) c.loop-block.invariant (omega arith) (omega arith) (omega arith) (omega arith) c.load_part.ensures c.load_part-in-loop-block.ensures (omega arith))

pub returns : goal.returns
returns c =
    let half = length c.args.out.now / 2 in
    let e : c.loop-block.block * 256 ≡ half - half % 256 = omega arith in
    written-end (λ n. entries (width_bytes c.args.w) n c.args.t.now) c.args.out.now c.loop-block.out _ _ half (half - half % 256) half _ (length-entries _ _ _) (rw e at c.loop-block.invariant) (omega arith) (omega arith) (omega arith) (omega arith) c.load_part-2.ensures c.load_part-3.ensures refl refl
