use Rattle.listing.proofs.Showing.{not-shown, shown}
use Rattle.listing.proofs.put_refused.Goals as goal

pub returns-then-end-lt32 : goal.returns-then-end-lt32
returns-then-end-lt32 c = record { value = (not-shown _ _ _ c.if-end-lt32.true).0; out_after = (not-shown _ _ _ c.if-end-lt32.true).1 }

pub returns : goal.returns
returns c = record { value = (shown 32 c.put_text-start.ensures c.if-end-lt32.false).0; out_after = (shown 32 c.put_text-start.ensures c.if-end-lt32.false).1 }
