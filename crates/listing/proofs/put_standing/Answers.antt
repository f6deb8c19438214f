use Rattle.listing.proofs.WritingLaws.{before-length, wrote-before, length-decimal}
use Rattle.listing.specs.Listing.{standing_text}
use native.Mathlib.Omega.{arith}
use Rattle.listing.proofs.put_standing.Goals as goal

pub put_text-requires : goal.put_text-requires
put_text-requires c =
    let w = wrote-before c.put_text-end.ensures c.put_decimal-first.ensures in
    omega (arith, before-length c.put_text-end.ensures, before-length w, length-decimal c.args.count)

pub returns : goal.returns
unfolding standing_text
returns c = wrote-before (wrote-before c.put_text-end.ensures c.put_decimal-first.ensures) c.put_text.ensures
