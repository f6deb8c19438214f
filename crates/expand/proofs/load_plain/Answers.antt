use Rattle.expand.proofs.Whole.{loaded}
use Rattle.std.proofs.Common.{refl}
use Rattle.expand.proofs.load_plain.Goals as goal

pub returns : goal.returns
returns c = record { value = refl; pixels_after = loaded 4 _ c.args.image.now _ _ c.requires c.load_halves.ensures.out_after }
