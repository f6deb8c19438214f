use Rattle.canonical.proofs.Laws.{seen-is}
use Rattle.canonical.proofs.look.Goals as goal

pub returns : goal.returns
returns c = seen-is c.args.form c.args.base c.args.j _ c.mark_of.ensures c.tally_at-i.ensures.0 c.tally_at-i.ensures.1 c.two_asked-k.ensures c.tally_at-t.ensures.0 c.tally_at-t.ensures.1 (rw c.under_width.ensures at c.tally_table-c.ensures) c.tally_table-f.ensures c.none_outside-within.ensures
