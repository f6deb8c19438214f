use mathlib.Core.Path.{sym, ◌∙◌}
use Rattle.dtrek_header.proofs.Facts.{accepted-bounded}
use Rattle.dtrek_report.proofs.report.Goals as goal

pub report_accepted-requires : goal.report_accepted-requires
report_accepted-requires c = accepted-bounded _ (sym c.read_header.ensures ∙ c.in-Ok.is)

pub returns-in-Ok : goal.returns-in-Ok
returns-in-Ok c = rw (← c.read_header.ensures, c.in-Ok.is) c.report_accepted.ensures

pub returns-in-Err : goal.returns-in-Err
returns-in-Err c = rw (← c.read_header.ensures, c.in-Err.is) c.report_refused.ensures
