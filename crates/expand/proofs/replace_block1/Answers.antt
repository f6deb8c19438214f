use Rattle.std.proofs.Common.{◌∙◌, arith, length}
use Rattle.expand.proofs.Loops.{any-counted}
use Rattle.std.proofs.Common.{length, sym, arith, length-take-le}
use Rattle.expand.proofs.Whole.{loaded, replaced-hit, replaced-miss}
use Rattle.expand.proofs.replace_block1.Goals as goal

pub slice_bounds-holds-end : goal.slice_bounds-holds-end
slice_bounds-holds-end c = sym (length-take-le _ _ c.requires.0)

pub returns-then-holds : goal.returns-then-holds
returns-then-holds c = let s = c in
    let e = loaded 1 (length s.args.pixels.now) s.args.image.now _ _ (omega (arith, s.requires.0)) c.load.ensures.out_after in
    replaced-hit _ _ _ _ _ _ _ _ _ e (c.fill_marked-two.ensures.value, c.fill_marked-two.ensures.pixels_after) (c.fill_some-four.ensures.value, c.fill_some-four.ensures.pixels_after)

pub returns-else-holds : goal.returns-else-holds
returns-else-holds c = let s = c in
    let e = loaded 1 (length s.args.pixels.now) s.args.image.now _ _ (omega (arith, s.requires.0)) c.load.ensures.out_after in
    replaced-miss _ _ _ _ _ _ _ s.requires.0 e (λ i. omega (arith, c.type_inv.image i)) (c.holds.ensures ∙ any-counted _ _) c.if-holds.false
