use Rattle.std.proofs.Common.{sym, ◌∙◌}
use Rattle.writer.specs.Writer.{base_for}
use Rattle.writer.proofs.Whole.{base-given, base-missing, base-good}
use Rattle.std.proofs.lemmas.Result.{err_from_is_err_and}
use Rattle.writer.proofs.Handed.{ok_or-ok, ok_or-err}
use Rattle.writer.proofs.write_listed.Goals as goal

pub write_form-requires : goal.write_form-requires
write_form-requires c = let e = base-given (base_for c.args.header.now c.args.h c.args.form.underflow) _ (sym c.base_for.ensures ∙ ok_or-ok _ _ _ (sym c.ok_or.ensures.value ∙ c.in_ok-base.was)) in
    let g = base-good c.args.header.now c.args.h c.args.form.underflow _ e c.requires.low in
    (record { long = c.requires.long; short = c.requires.short; few = c.requires.few; low = g.0 }, g.1)

pub returns-in_err-base : goal.returns-in_err-base
returns-in_err-base c = let p = err_from_is_err_and c.from_residual.result c.from_residual.ensures.1 in
    let q = ok_or-err _ _ _ (sym c.ok_or.ensures.value ∙ c.in_err-base.was) in
    let e = base-missing (base_for c.args.header.now c.args.h c.args.form.underflow) (sym c.base_for.ensures ∙ q.0) in record { value = rw (p.1, p.2, q.1, e); out_after = rw e }

pub returns : goal.returns
returns c = let e = base-given (base_for c.args.header.now c.args.h c.args.form.underflow) _ (sym c.base_for.ensures ∙ ok_or-ok _ _ _ (sym c.ok_or.ensures.value ∙ c.in_ok-base.was)) in record { value = rw e (c.write_form.ensures.value); out_after = rw e (c.write_form.ensures.out_after) }
