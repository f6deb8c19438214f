use Rattle.std.proofs.Common.{refl, arith}
use Rattle.splice.proofs.Moving.{put-part}
use Rattle.splice.proofs.put_le.Goals as goal

pub returns : goal.returns
returns c = put-part _ _ _ _ _ _ refl c.requires c.put_le.ensures
