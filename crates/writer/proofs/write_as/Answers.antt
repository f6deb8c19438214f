use Rattle.std.proofs.Common.{sym, ◌∙◌}
use Rattle.std.proofs.lemmas.Result.{err_from_is_err_and}
use Rattle.writer.proofs.Handed.{ok_or-ok, ok_or-err}
use Rattle.writer.proofs.write_as.Goals as goal

pub returns-in_default : goal.returns-in_default
returns-in_default c = record { value = rw c.in_default.is; out_after = rw c.in_default.is }

pub returns-in_err-form : goal.returns-in_err-form
returns-in_err-form c = let p = err_from_is_err_and c.from_residual.result c.from_residual.ensures.1 in
    let q = ok_or-err _ _ _ (sym c.ok_or.ensures.value ∙ c.in_err-form.was) in
    record { value = rw (p.1, p.2, q.1, c.in-Format100.is, q.0); out_after = rw (c.in-Format100.is, q.0) }

pub write_listed-requires : goal.write_listed-requires
write_listed-requires c = rw c.in-Format100.is at c.requires

pub returns : goal.returns
returns c = let q = ok_or-ok _ _ _ (sym c.ok_or.ensures.value ∙ c.in_ok-form.was) in record { value = rw (c.in-Format100.is, q) (c.write_listed.ensures.value); out_after = rw (c.in-Format100.is, q) (c.write_listed.ensures.out_after) }
