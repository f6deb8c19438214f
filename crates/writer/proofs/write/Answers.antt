use Rattle.std.proofs.lemmas.Result.{err_from_is_err_and}
use Rattle.std.proofs.Common.{sym, ◌∙◌}
use Rattle.writer.specs.Writer.{write_answer, write_bytes}
use Rattle.writer.proofs.write.Goals as goal

pub write_accepted-requires : goal.write_accepted-requires
write_accepted-requires c = sym c.read_header.ensures ∙ c.in_ok-h.was

pub returns-in_err-h : goal.returns-in_err-h
unfolding write_answer write_bytes
returns-in_err-h c = let p = err_from_is_err_and c.from_residual.result c.from_residual.ensures.1 in
    record { value = rw (p.1, p.2) (rw (← c.read_header.ensures, c.in_err-h.was)); out_after = rw (← c.read_header.ensures, c.in_err-h.was) }

pub returns : goal.returns
unfolding write_answer write_bytes
returns c = record { value = rw (← c.read_header.ensures, c.in_ok-h.was) (c.write_accepted.ensures.value); out_after = rw (← c.read_header.ensures, c.in_ok-h.was) (c.write_accepted.ensures.out_after) }
