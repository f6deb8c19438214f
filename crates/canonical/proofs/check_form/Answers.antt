use mathlib.Core.Path.{sym}
use native.Mathlib.Omega.{arith}
use lib.Seq.{length-take-le}
use Rattle.canonical.proofs.Frames.{found_of, missing-of, found_inside, form-missing, other-lines, other-tail, by_parts}
use Rattle.canonical.proofs.check_form.Goals as goal

pub returns-in_default : goal.returns-in_default
returns-in_default c = form-missing c.args.image c.args.t c.args.held.now c.args.form c.args.base c.args.pixel (missing-of c.args.image c.args.t c.args.held.now c.parts_of.ensures c.in_default.is)

pub slice_bounds-is_rewritten-end : goal.slice_bounds-is_rewritten-end
slice_bounds-is_rewritten-end c = let k = found_inside c.args.image c.args.t c.args.held.now (found_of c.args.image c.args.t c.args.held.now c.parts_of.ensures c.in-Some.is) in
    sym (length-take-le _ _ (omega arith))

pub returns-then-not-is_rewritten : goal.returns-then-not-is_rewritten
returns-then-not-is_rewritten c = other-lines c.args.image c.args.t c.args.held.now c.args.form c.args.base c.args.pixel (found_of c.args.image c.args.t c.args.held.now c.parts_of.ensures c.in-Some.is) c.stated_counts-entries.ensures c.is_rewritten.ensures c.if-not-is_rewritten.true

pub slice_bounds-all_zero-count : goal.slice_bounds-all_zero-count
slice_bounds-all_zero-count c = omega (arith, found_inside c.args.image c.args.t c.args.held.now (found_of c.args.image c.args.t c.args.held.now c.parts_of.ensures c.in-Some.is))

pub slice_bounds-all_zero-start : goal.slice_bounds-all_zero-start
slice_bounds-all_zero-start c = omega (arith, found_inside c.args.image c.args.t c.args.held.now (found_of c.args.image c.args.t c.args.held.now c.parts_of.ensures c.in-Some.is))

pub slice_bounds-all_zero-end : goal.slice_bounds-all_zero-end
slice_bounds-all_zero-end c = omega (arith, found_inside c.args.image c.args.t c.args.held.now (found_of c.args.image c.args.t c.args.held.now c.parts_of.ensures c.in-Some.is))

pub returns-then-not-all_zero : goal.returns-then-not-all_zero
returns-then-not-all_zero c = other-tail c.args.image c.args.t c.args.held.now c.args.form c.args.base c.args.pixel (found_of c.args.image c.args.t c.args.held.now c.parts_of.ensures c.in-Some.is) c.stated_counts-entries.ensures c.is_rewritten.ensures c.if-not-is_rewritten.false c.all_zero.ensures c.if-not-all_zero.true

pub check_at-requires : goal.check_at-requires
check_at-requires c = let s = c in
    let f = found_of s.args.image s.args.t s.args.held.now c.parts_of.ensures c.in-Some.is in
    (s.requires.0, s.requires.1, f.whole, f.at, c.stated_counts-entries.ensures)

pub returns : goal.returns
returns c = by_parts c.args.image c.args.t c.args.held.now c.args.form c.args.base c.args.pixel (found_of c.args.image c.args.t c.args.held.now c.parts_of.ensures c.in-Some.is) c.stated_counts-entries.ensures c.is_rewritten.ensures c.if-not-is_rewritten.false c.all_zero.ensures c.if-not-all_zero.false c.check_at.ensures
