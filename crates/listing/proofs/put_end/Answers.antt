use Rattle.listing.proofs.WritingLaws.{wrote-before}
use Rattle.listing.specs.Listing.{end_text}
use Rattle.listing.proofs.put_end.Goals as goal

pub returns-then-cancelled : goal.returns-then-cancelled
unfolding end_text
returns-then-cancelled c = rw c.if-cancelled.true (wrote-before c.put_text-end.ensures c.put_text.ensures)

pub returns : goal.returns
unfolding end_text
returns c = rw c.if-cancelled.false c.put_text-end.ensures
