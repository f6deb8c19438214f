use Rattle.dtrek_items.proofs.Inserting.{inserted}
use Rattle.dtrek_items.proofs.insert.Goals as goal

pub returns : goal.returns
returns c = inserted c.copy_within.new.self c.requires.0 c.requires.1 c.copy_within.ensures.len c.copy_within.ensures.by_index.0 c.copy_within.ensures.by_index.1 c.args.start
