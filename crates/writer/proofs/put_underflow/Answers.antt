use Rattle.std.proofs.Common.{refl}
use Rattle.writer.proofs.Pixel.{entry-put}
use Rattle.writer.proofs.put_underflow.Goals as goal

pub returns-in-One : goal.returns-in-One
returns-in-One c = let w = c.in-One.is in record { value = rw w (refl); out_after = rw w (entry-put 1 _ _ _ _ (rw w at c.requires) c.put_entry.ensures) }

pub returns-in-Two : goal.returns-in-Two
returns-in-Two c = let w = c.in-Two.is in record { value = rw w (refl); out_after = rw w (entry-put 2 _ _ _ _ (rw w at c.requires) c.put_entry-in-Two.ensures) }
