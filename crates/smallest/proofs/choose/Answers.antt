use mathlib.Core.Path.{sym, ◌∙◌}
use Rattle.std.proofs.Common.{rules}
use Rattle.writer.specs.Writer.{writer_frame}
use Rattle.smallest.specs.Smallest.{smallest_form}
use Rattle.smallest.proofs.Lengths.{all-refused}
use Rattle.smallest.proofs.choose.Goals as goal

pub choose_from-requires : goal.choose_from-requires
choose_from-requires c = sym c.read_header.ensures ∙ c.in_ok-h.was

pub returns : goal.returns
unfolding smallest_form writer_frame
returns c = rw (← c.read_header.ensures, c.in_ok-h.was) c.choose_from.ensures

pub returns-in_err-h : goal.returns-in_err-h
unfolding smallest_form writer_frame
returns-in_err-h c = rw (← c.read_header.ensures, c.in_err-h.was, all-refused c.in_err-h.field-0.0) (search rules)
