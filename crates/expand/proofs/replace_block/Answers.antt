use Rattle.std.proofs.Common.{arith}
use Rattle.expand.proofs.Whole.{loaded, replaced-two, replaced-four}
use Rattle.expand.proofs.replace_block.Goals as goal

pub replace_block1-requires : goal.replace_block1-requires
replace_block1-requires c = let p = rw c.in-One.is at c.requires.0 in
    omega (arith, p)

pub returns-in-One : goal.returns-in-One
returns-in-One c = rw c.in-One.is c.replace_block1.ensures

pub returns-in-Two : goal.returns-in-Two
returns-in-Two c = let w = c.in-Two.is in
    let e = loaded 2 _ _ _ _ (rw w at c.requires.0) c.load.ensures.out_after in
    rw w (replaced-two _ _ _ _ _ _ _ e (c.fill_some-four.ensures.value, c.fill_some-four.ensures.pixels_after))

pub returns-in-Four : goal.returns-in-Four
returns-in-Four c = let w = c.in-Four.is in
    let e = loaded 4 _ _ _ _ (rw w at c.requires.0) c.load-in-Four.ensures.out_after in
    rw w (replaced-four _ _ _ _ _ e)
