use Rattle.listing.proofs.Showing.{not-shown, shown}
use Rattle.listing.proofs.Lengths.{length-standing}
use Rattle.listing.proofs.WritingLaws.{before-length, wrote-before}
use native.Mathlib.Omega.{arith}
use Rattle.listing.proofs.put_listing.Goals as goal

pub returns-then-end-lines : goal.returns-then-end-lines
returns-then-end-lines c = record { value = (not-shown _ _ _ c.if-end-lines.true).0; out_after = (not-shown _ _ _ c.if-end-lines.true).1 }

pub put_lines-start-requires : goal.put_lines-start-requires
put_lines-start-requires c = let w = c.put_standing-last.ensures in
    (c.requires.0, omega (arith, before-length w, w.place, length-standing c.args.count), c.requires.1)

pub returns : goal.returns
returns c = record { value = (shown _ (wrote-before c.put_standing-last.ensures c.put_lines-start.ensures) c.if-end-lines.false).0; out_after = (shown _ (wrote-before c.put_standing-last.ensures c.put_lines-start.ensures) c.if-end-lines.false).1 }
