use Rattle.writer.proofs.lowest_plain.Goals as goal

pub returns-in-Subtracted : goal.returns-in-Subtracted
returns-in-Subtracted c = rw c.in-Subtracted.is
