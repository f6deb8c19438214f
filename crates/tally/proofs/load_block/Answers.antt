use Rattle.expand.proofs.Whole.{loaded}
use Rattle.tally.proofs.load_block.Goals as goal

pub returns-in-One : goal.returns-in-One
returns-in-One c = let w = c.in-One.is in
    rw w (loaded 1 _ _ _ _ (rw w at c.requires) c.load.ensures.out_after)

pub returns-in-Two : goal.returns-in-Two
returns-in-Two c = let w = c.in-Two.is in
    rw w (loaded 2 _ _ _ _ (rw w at c.requires) c.load-in-Two.ensures.out_after)

pub returns-in-Four : goal.returns-in-Four
returns-in-Four c = let w = c.in-Four.is in
    rw w (loaded 4 _ _ _ _ (rw w at c.requires) c.load-in-Four.ensures.out_after)
