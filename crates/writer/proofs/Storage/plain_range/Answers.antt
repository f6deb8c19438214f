use Rattle.writer.proofs.Runs.{range-fits}
use Rattle.writer.proofs.Storage.plain_range.Goals as goal

pub overflow_sub-result : goal.overflow_sub-result
overflow_sub-result c = rw (c.lowest_plain-low.ensures, c.highest_plain.ensures) (range-fits c.args.self.form c.args.self.base c.requires).0

pub returns : goal.returns
returns c = rw (c.lowest_plain-low.ensures, c.highest_plain.ensures)
