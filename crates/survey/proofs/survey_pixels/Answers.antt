use Rattle.std.proofs.Common.{ℕ, ◌+◌, ◌*◌, List, length, arith, le-ltb, ap, ◌∙◌}
use Rattle.pixel_counts.proofs.Counting.{block_at, rest_at}
use Rattle.survey.specs.Survey.{surveyed, survey_after}
use Rattle.survey.proofs.Surveying.{surveying-start, surveying-more, surveying-done}
use Rattle.survey.proofs.survey_pixels.Goals as goal

pub loop-block-init : goal.loop-block-init
loop-block-init c = rw c.no_survey-s.ensures (surveying-start _ _)

pub loop-block-preserved : goal.loop-block-preserved
loop-block-preserved c =
    let h = c.loop-block-test.true in
    let e = c.as_chunks.ensures in
    surveying-more ((c.loop-block.block-index + 1) * 1024) c.loop-block.invariant (omega arith) (omega (arith, h, e.front_len)) (omega arith)
    (c.survey_part-d.ensures ∙ rw c.from-b.ensures (ap (λ (x : List ℕ). survey_after c.loop-block.s.large c.args.base x) (block_at 1024 c.loop-block.block-index _ c.args.pixels.now _ e.front (omega (arith, h, e.front_len)))))
    c.add_surveys-s.ensures

pub returns : goal.returns
unfolding surveyed
returns c =
    let h = c.loop-block-test.false in
    let e = c.as_chunks.ensures in
    let b = rest_at _ c.args.pixels.now _ (c.loop-block.block-index * 1024) e.back (omega (arith, h, c.loop-block.auto.block-index-end, e.front_len)) in
    rw (le-ltb _ _ c.if-pixels-gt16777216.false)
    (surveying-done (surveying-more (length c.args.pixels.now) c.loop-block.invariant (omega (arith, h, c.loop-block.auto.block-index-end, e.front_len)) (omega arith) (omega arith) (c.survey_block-d.ensures ∙ rw (c.from-b.ensures, b)) c.add_surveys.ensures) (omega arith))
