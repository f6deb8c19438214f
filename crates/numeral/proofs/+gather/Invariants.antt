use lib.ListN.{length}
use Rattle.numeral.proofs.+gather.Given as goal

abbrev pub decreases-gather : goal.decreases-gather
decreases-gather l = length l.rest.now
