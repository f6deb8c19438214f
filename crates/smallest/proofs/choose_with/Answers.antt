use mathlib.Core.Path.{sym, ap, ◌∙◌}
use native.Mathlib.Omega.{arith}
use borrow.Author.Tests.{le-ltb}
use Rattle.layout.specs.declared.EntryWidth.TheVariants as E
use Rattle.layout.specs.declared.Underflow.TheVariants as U
use Rattle.writer.specs.Writer.{base_for}
use Rattle.writer.proofs.Whole.{base-given, base-missing, base-good}
use Rattle.pixel_counts.specs.Counts.{counted}
use Rattle.survey.specs.declared.Survey.{Survey}
use Rattle.survey.specs.Survey.{surveyed, surveyed_none}
use Rattle.smallest.proofs.Lengths.{chosen-given, chosen-missing}
use Rattle.smallest.proofs.choose_with.Goals as goal

pub overflow_cast-b : goal.overflow_cast-b
overflow_cast-b c = let e = base-given (base_for c.args.header.now c.args.h (U.Subtracted E.One)) _ (sym c.base_for.ensures ∙ c.in-Some.is) in
    omega (arith, (base-good c.args.header.now c.args.h (U.Subtracted E.One) _ e c.requires.low).0)

pub returns-in-Some : goal.returns-in-Some
unfolding surveyed
returns-in-Some c = let e = base-given (base_for c.args.header.now c.args.h (U.Subtracted E.One)) _ (sym c.base_for.ensures ∙ c.in-Some.is) in
    let s = rw (le-ltb _ _ c.requires.few) at c.survey_pixels.ensures in
    c.choose.ensures ∙ rw s (chosen-given c.args.header.now c.args.pixels.now c.args.h c.requires.long _ e)

pub returns-in-None : goal.returns-in-None
unfolding surveyed_none counted
returns-in-None c = let e = base-missing (base_for c.args.header.now c.args.h (U.Subtracted E.One)) (sym c.base_for.ensures ∙ c.in-None.is) in
    let s = rw (le-ltb _ _ c.requires.few) at c.survey_none.ensures in
    c.choose-in-None.ensures ∙ chosen-missing c.args.header.now c.args.pixels.now c.args.h c.requires.long _ (ap (λ (x : Survey). x.none) s) e
