use Rattle.std.proofs.Common.{◌-◌, drop, sym, ◌∙◌, arith, length}
use lib.ListN.{length-drop}
use lib.Seq.{take_all}
use Rattle.numeral.specs.Runs.{leading}
use Rattle.numeral.proofs.Runs.{leading_le}
use Rattle.dtrek_text.specs.Bytes.{is_white, trimmed}
use Rattle.dtrek_text.proofs.Trims.{last-white, last-other, none-left}
use Rattle.dtrek_text.proofs.trim.Goals as goal

pub slice_bounds-rest-count : goal.slice_bounds-rest-count
slice_bounds-rest-count c = omega (arith, c.white_run.ensures, leading_le is_white c.args.v.now)

pub slice_bounds-rest-start : goal.slice_bounds-rest-start
slice_bounds-rest-start c = omega (arith, c.white_run.ensures, leading_le is_white c.args.v.now)

pub loop-rest-init : goal.loop-rest-init
unfolding trimmed
loop-rest-init c =
    let v = c.args.v.now in
    let k = leading is_white v in
    rw (c.white_run.ensures, take_all (length v - k) (drop k v) (rw length-drop (omega arith)))

pub returns-then-not-is_white : goal.returns-then-not-is_white
returns-then-not-is_white c = last-other c.loop-rest.rest.now (omega (arith, c.in-len1-up.len_at_least)) (sym c.is_white.ensures ∙ c.if-not-is_white.true) ∙ c.loop-rest.invariant

pub loop-rest-preserved : goal.loop-rest-preserved
loop-rest-preserved c = last-white c.loop-rest.rest.now (omega (arith, c.in-len1-up.len_at_least)) (sym c.is_white.ensures ∙ c.if-not-is_white.false) ∙ c.loop-rest.invariant

pub returns : goal.returns
returns c = none-left c.loop-rest.rest.now (omega (arith, c.in_default.len_below)) ∙ c.loop-rest.invariant
