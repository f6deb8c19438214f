use Rattle.std.proofs.Common.{◌≡◌, ◌≤◌, ◌-◌, drop, length, ◌∙◌, arith}
use lib.ListN.{drop_of_length-le, length-take, length-drop}
use lib.Seq.{take_all, take-nil}
use Rattle.numeral.proofs.Runs.{leading_le}
use Rattle.dtrek_text.specs.declared.Class.TheVariants as C
use Rattle.dtrek_text.specs.Bytes.{in_class}
use Rattle.dtrek_text.proofs.keyword_at.Goals as goal

pub slice_bounds-result-end : goal.slice_bounds-result-end
slice_bounds-result-end c = omega (arith, c.run.ensures, leading_le (in_class C.Keyword) c.in-Some.rest.now, length-take c.run.result c.in-Some.rest.now)

pub returns-in-Some : goal.returns-in-Some
returns-in-Some c =
    let a = c.args in
    let r : c.in-Some.rest.now ≡ drop a.from a.text.now = c.in-Some.ensures.lookup.0.2 ∙ take_all (length a.text.now - a.from) (drop a.from a.text.now) (rw length-drop (omega arith)) in
    rw (c.run.ensures, r)

pub returns-in-None : goal.returns-in-None
returns-in-None c =
    let h = c.in-None.ensures in
    let l : length c.args.text.now ≤ c.args.from = omega (arith, h.lookup.0) in
    rw (drop_of_length-le c.args.text.now l, take-nil)
