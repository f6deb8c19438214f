use Rattle.writer.proofs.Whole.{relined-copy}
use Rattle.writer.proofs.put_header.Goals as goal

pub returns : goal.returns
returns c = relined-copy _ _ _ _ _ c.requires.1 c.copy_from_slice.ensures.after c.rewrite.ensures
