use Rattle.listing.proofs.Showing.{refused_as, listed-as, broken, longer, malformed, listed, count-is, count_small}
use Rattle.listing.specs.Listing.{is_listed}
use Rattle.ledger.proofs.Scanning.{survey-malformed, survey-sound, lines-well}
use native.Mathlib.Omega.{arith}
use mathlib.Core.Path.{◌≡◌, sym, ◌∙◌}
use mathlib.Core.Bool.{false}
use Rattle.listing.proofs.list.Goals as goal
use Rattle.listing.proofs.list.Goals.{then-ledger-ne0-via-then-ledger-ne0, then-ledger-ne0-via-else-ledger-ne0+then-ledger-gt65536}

pub returns-then-ledger-ne0 : goal.returns-then-ledger-ne0
returns-then-ledger-ne0 c =
    let e : is_listed c.args.ledger.now ≡ false =
    elim c.then-ledger-ne0.branch [ then-ledger-ne0-via-then-ledger-ne0 w ↦ broken _ w.if-ledger-ne0.true | then-ledger-ne0-via-else-ledger-ne0+then-ledger-gt65536 w ↦ longer _ w.if-ledger-ne0.false w.if-ledger-gt65536.true ] in
    let r = refused_as _ _ e in
    record { value = c.put_refused.ensures.value ∙ r.0; out_after = c.put_refused.ensures.out_after ∙ r.1 }

pub returns-in_default : goal.returns-in_default
returns-in_default c =
    let m = survey-malformed _ _ (sym c.survey.ensures ∙ c.in_default.is) in
    let r = refused_as _ _ (malformed _ c.if-ledger-ne0.false c.if-ledger-gt65536.false m) in
    record { value = c.put_refused-in_default.ensures.value ∙ r.0; out_after = c.put_refused-in_default.ensures.out_after ∙ r.1 }

pub overflow_cast-summary : goal.overflow_cast-summary
overflow_cast-summary c =
    let s = survey-sound _ _ _ (sym c.survey.ensures ∙ c.in-Some.is) in
    omega (arith, count_small s)

pub put_listing-requires : goal.put_listing-requires
put_listing-requires c =
    let s = survey-sound _ _ _ (sym c.survey.ensures ∙ c.in-Some.is) in
    (omega arith, lines-well _ _ s.well)

pub returns : goal.returns
returns c =
    let s = survey-sound _ _ _ (sym c.survey.ensures ∙ c.in-Some.is) in
    let r = listed-as _ _ (listed _ c.if-ledger-ne0.false c.if-ledger-gt65536.false s.well) _ (count-is s) in
    record { value = c.put_listing.ensures.value ∙ r.0; out_after = c.put_listing.ensures.out_after ∙ r.1 }
