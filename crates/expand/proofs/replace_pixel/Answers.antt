use Rattle.expand.proofs.Runs.{replaced-two-byte, replaced-four-byte, replaced-run, no-255, one-low}
use Rattle.std.proofs.Common.{arith}
use Rattle.expand.proofs.replace_pixel.Goals as goal

pub returns-then-b-ne255 : goal.returns-then-b-ne255
returns-then-b-ne255 c = rw c.from.ensures (replaced-run _ _ _ _ (one-low _ 65535 (omega arith)) (no-255 _ c.if-b-ne255.true))

pub returns-then-v-ne65535 : goal.returns-then-v-ne65535
returns-then-v-ne65535 c = replaced-two-byte _ _ _ _ _ (omega arith) c.entry-v.ensures c.if-v-ne65535.true

pub returns : goal.returns
returns c = replaced-four-byte _ c.entry-v.result _ _ _ _ (omega arith) c.entry-v.ensures (omega arith) c.entry-large.ensures
