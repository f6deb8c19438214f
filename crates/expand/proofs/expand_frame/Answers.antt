use Rattle.std.proofs.Common.{sym, ap, ◌∙◌, arith}
use Rattle.lists.specs.Bytes.{zeros}
use Rattle.expand.proofs.Parts.{inside, image-fits, padding-is, answer-is, pixels-are}
use Rattle.expand.proofs.expand_frame.Goals as goal

pub paddings_zero-requires : goal.paddings_zero-requires
paddings_zero-requires c = omega (arith, inside c.args.image c.args.tables c.requires.0 c.requires.1)

pub returns-then-not-paddings_zero : goal.returns-then-not-paddings_zero
returns-then-not-paddings_zero c = let s = c in
    let x = sym (padding-is s.args.image s.args.tables s.args.bytes.now s.requires.0) ∙ sym c.paddings_zero.ensures ∙ c.if-not-paddings_zero.true in record { value = rw x; pixels_after = rw x (c.clear.ensures ∙ ap zeros s.requires.2) }

pub slice_bounds-expand_parts-count : goal.slice_bounds-expand_parts-count
slice_bounds-expand_parts-count c = omega (arith, inside c.args.image c.args.tables c.requires.0 c.requires.1)

pub slice_bounds-expand_parts-start : goal.slice_bounds-expand_parts-start
slice_bounds-expand_parts-start c = omega (arith, inside c.args.image c.args.tables c.requires.0 c.requires.1)

pub slice_bounds-expand_parts-end : goal.slice_bounds-expand_parts-end
slice_bounds-expand_parts-end c = omega (arith, inside c.args.image c.args.tables c.requires.0 c.requires.1)

pub slice_bounds-expand_parts-count-2 : goal.slice_bounds-expand_parts-count-2
slice_bounds-expand_parts-count-2 c = omega (arith, inside c.args.image c.args.tables c.requires.0 c.requires.1)

pub slice_bounds-expand_parts-start-2 : goal.slice_bounds-expand_parts-start-2
slice_bounds-expand_parts-start-2 c = omega (arith, inside c.args.image c.args.tables c.requires.0 c.requires.1)

pub slice_bounds-expand_parts-end-2 : goal.slice_bounds-expand_parts-end-2
slice_bounds-expand_parts-end-2 c = omega (arith, inside c.args.image c.args.tables c.requires.0 c.requires.1)

pub slice_bounds-expand_parts-count-3 : goal.slice_bounds-expand_parts-count-3
slice_bounds-expand_parts-count-3 c = omega (arith, inside c.args.image c.args.tables c.requires.0 c.requires.1)

pub slice_bounds-expand_parts-start-3 : goal.slice_bounds-expand_parts-start-3
slice_bounds-expand_parts-start-3 c = omega (arith, inside c.args.image c.args.tables c.requires.0 c.requires.1)

pub slice_bounds-expand_parts-end-3 : goal.slice_bounds-expand_parts-end-3
slice_bounds-expand_parts-end-3 c = omega (arith, inside c.args.image c.args.tables c.requires.0 c.requires.1)

pub slice_bounds-expand_parts-count-4 : goal.slice_bounds-expand_parts-count-4
slice_bounds-expand_parts-count-4 c = omega (arith, inside c.args.image c.args.tables c.requires.0 c.requires.1)

pub slice_bounds-expand_parts-start-4 : goal.slice_bounds-expand_parts-start-4
slice_bounds-expand_parts-start-4 c = omega (arith, inside c.args.image c.args.tables c.requires.0 c.requires.1)

pub slice_bounds-expand_parts-end-4 : goal.slice_bounds-expand_parts-end-4
slice_bounds-expand_parts-end-4 c = omega (arith, inside c.args.image c.args.tables c.requires.0 c.requires.1)

pub expand_parts-requires : goal.expand_parts-requires
expand_parts-requires c = image-fits c.args.image c.args.tables c.args.bytes.now c.requires.0 c.requires.1 c.requires.2

pub returns : goal.returns
returns c = let s = c in
    let i = s.args.image in
    let t = s.args.tables in
    let b = s.args.bytes.now in
    let x = sym (padding-is i t b s.requires.0) ∙ sym c.paddings_zero.ensures ∙ c.if-not-paddings_zero.false in
    let e = c.expand_parts.ensures in record { value = rw x (e.value ∙ answer-is i t b s.requires.0 c.step_of-c.ensures s.requires.2 s.requires.1); pixels_after = rw x (e.pixels_after ∙ pixels-are i t b s.requires.0 c.step_of-c.ensures s.requires.2 s.requires.1) }
