use Rattle.std.proofs.Common.{ℕ, ◌+◌, ◌*◌, List, length, arith, le-ltb, ap, ◌∙◌}
use Rattle.layout.specs.declared.Width.TheVariants as W
use Rattle.layout.specs.declared.Underflow.TheVariants as U
use Rattle.layout.specs.Form.{form_of}
use Rattle.pixel_counts.specs.Counts.{counted, counts_for, counts_of}
use Rattle.pixel_counts.proofs.Counting.{blocks_start, blocks_more, blocks-done, block_at, rest_at}
use Rattle.survey.specs.Survey.{surveyed_none}
use Rattle.survey.proofs.survey_none.Goals as goal

pub loop-block-init : goal.loop-block-init
loop-block-init c = rw c.no_counts-c.ensures (blocks_start _ _ _)

pub loop-block-preserved : goal.loop-block-preserved
loop-block-preserved c =
    let h = c.loop-block-test.true in
    let e = c.as_chunks.ensures in
    blocks_more ((c.loop-block.block-index + 1) * 1024) c.loop-block.invariant (omega arith) (omega (arith, h, e.front_len)) (omega arith)
    (c.count_none-d.ensures ∙ ap (λ (x : List ℕ). counts_for (form_of W.One U.None) (counts_of 0 x)) (block_at 1024 c.loop-block.block-index _ c.args.pixels.now _ e.front (omega (arith, h, e.front_len))))
    c.add_counts-c.ensures

pub returns : goal.returns
unfolding surveyed_none counted
returns c =
    let h = c.loop-block-test.false in
    let e = c.as_chunks.ensures in
    let b = rest_at _ c.args.pixels.now _ (c.loop-block.block-index * 1024) e.back (omega (arith, h, c.loop-block.auto.block-index-end, e.front_len)) in
    let none = blocks-done (blocks_more (length c.args.pixels.now) c.loop-block.invariant (omega (arith, h, c.loop-block.auto.block-index-end, e.front_len)) (omega arith) (omega arith) (c.count_none-d-2.ensures ∙ rw b) c.add_counts.ensures) (omega arith) in
    rw (le-ltb _ _ c.if-pixels-gt16777216.false, c.no_counts.ensures, none)
