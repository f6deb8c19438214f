use mathlib.Core.Path.{ap, ◌∙◌}
use native.Mathlib.Omega.{arith}
use Rattle.expand.specs.Steps.{Stored}
use Rattle.canonical.specs.Parts.{check_stored}
use Rattle.canonical.proofs.Frames.{found_at, found_inside, stored_is, entries-are, many-are}
use Rattle.canonical.proofs.check_at.Goals as goal

pub slice_bounds-parts-count : goal.slice_bounds-parts-count
slice_bounds-parts-count c = omega (arith, found_inside c.args.image c.args.t c.args.held.now (found_at c.args.image c.args.t c.args.held.now c.requires.2 c.requires.3))

pub slice_bounds-parts-start : goal.slice_bounds-parts-start
slice_bounds-parts-start c = omega (arith, found_inside c.args.image c.args.t c.args.held.now (found_at c.args.image c.args.t c.args.held.now c.requires.2 c.requires.3))

pub slice_bounds-parts-end : goal.slice_bounds-parts-end
slice_bounds-parts-end c = omega (arith, found_inside c.args.image c.args.t c.args.held.now (found_at c.args.image c.args.t c.args.held.now c.requires.2 c.requires.3))

pub slice_bounds-parts-count-2 : goal.slice_bounds-parts-count-2
slice_bounds-parts-count-2 c = omega (arith, found_inside c.args.image c.args.t c.args.held.now (found_at c.args.image c.args.t c.args.held.now c.requires.2 c.requires.3))

pub slice_bounds-parts-start-2 : goal.slice_bounds-parts-start-2
slice_bounds-parts-start-2 c = omega (arith, found_inside c.args.image c.args.t c.args.held.now (found_at c.args.image c.args.t c.args.held.now c.requires.2 c.requires.3))

pub slice_bounds-parts-end-2 : goal.slice_bounds-parts-end-2
slice_bounds-parts-end-2 c = omega (arith, found_inside c.args.image c.args.t c.args.held.now (found_at c.args.image c.args.t c.args.held.now c.requires.2 c.requires.3))

pub slice_bounds-parts-count-3 : goal.slice_bounds-parts-count-3
slice_bounds-parts-count-3 c = omega (arith, found_inside c.args.image c.args.t c.args.held.now (found_at c.args.image c.args.t c.args.held.now c.requires.2 c.requires.3))

pub slice_bounds-parts-start-3 : goal.slice_bounds-parts-start-3
slice_bounds-parts-start-3 c = omega (arith, found_inside c.args.image c.args.t c.args.held.now (found_at c.args.image c.args.t c.args.held.now c.requires.2 c.requires.3))

pub slice_bounds-parts-end-3 : goal.slice_bounds-parts-end-3
slice_bounds-parts-end-3 c = omega (arith, found_inside c.args.image c.args.t c.args.held.now (found_at c.args.image c.args.t c.args.held.now c.requires.2 c.requires.3))

pub slice_bounds-parts-count-4 : goal.slice_bounds-parts-count-4
slice_bounds-parts-count-4 c = omega (arith, found_inside c.args.image c.args.t c.args.held.now (found_at c.args.image c.args.t c.args.held.now c.requires.2 c.requires.3))

pub slice_bounds-parts-start-4 : goal.slice_bounds-parts-start-4
slice_bounds-parts-start-4 c = omega (arith, found_inside c.args.image c.args.t c.args.held.now (found_at c.args.image c.args.t c.args.held.now c.requires.2 c.requires.3))

pub slice_bounds-parts-end-4 : goal.slice_bounds-parts-end-4
slice_bounds-parts-end-4 c = omega (arith, found_inside c.args.image c.args.t c.args.held.now (found_at c.args.image c.args.t c.args.held.now c.requires.2 c.requires.3))

pub check_parts-requires : goal.check_parts-requires
check_parts-requires c = let s = c in
    let f = found_at s.args.image s.args.t s.args.held.now s.requires.2 s.requires.3 in
    (s.requires.0, entries-are s.args.image s.args.t s.args.held.now f s.args.form s.requires.1 s.requires.4, many-are s.args.image s.args.t s.args.held.now f s.args.form s.requires.1 c.pixel_count-n.ensures)

pub returns : goal.returns
returns c = let s = c in
    let f = found_at s.args.image s.args.t s.args.held.now s.requires.2 s.requires.3 in
    c.check_parts.ensures ∙ ap (λ (x : Stored). check_stored s.args.image.start s.args.form s.args.base x s.args.pixel) (stored_is s.args.image s.args.t s.args.held.now f s.args.form s.requires.1)
