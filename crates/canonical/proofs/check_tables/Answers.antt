use mathlib.Core.Path.{refl}
use Rattle.canonical.proofs.Frames.{by-unused, counted-low, counted-width, by-counted}
use Rattle.canonical.proofs.check_tables.Goals as goal

pub check_form-requires-in-Counted : goal.check_form-requires-in-Counted
check_form-requires-in-Counted c = (counted-low c.in-Counted.is c.requires, record { width = refl; under = counted-width c.in-Counted.is })

pub returns-in-Unused : goal.returns-in-Unused
returns-in-Unused c = by-unused c.args.held.now c.args.image c.args.t c.args.pixel c.in-Unused.is c.check_form.ensures

pub returns-in-Counted : goal.returns-in-Counted
returns-in-Counted c = by-counted c.in-Counted.is c.args.held.now c.args.image c.args.t c.args.pixel c.check_form-in-Counted.ensures
