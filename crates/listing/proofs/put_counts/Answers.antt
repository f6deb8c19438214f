use Rattle.listing.proofs.WritingLaws.{before-length, wrote-before, length-decimal}
use Rattle.listing.specs.Listing.{counts_text}
use native.Mathlib.Omega.{arith}
use Rattle.listing.proofs.put_counts.Goals as goal

pub put_text-second-requires : goal.put_text-second-requires
put_text-second-requires c = omega (arith, before-length c.put_decimal-new.ensures, length-decimal c.args.l.new)

pub put_decimal-old-requires : goal.put_decimal-old-requires
put_decimal-old-requires c =
    let w = wrote-before c.put_decimal-new.ensures c.put_text-second.ensures in
    omega (arith, before-length c.put_decimal-new.ensures, before-length w, length-decimal c.args.l.new)

pub put_text-first-requires : goal.put_text-first-requires
put_text-first-requires c =
    let w = wrote-before c.put_decimal-new.ensures c.put_text-second.ensures in
    let x = wrote-before w c.put_decimal-old.ensures in
    omega (arith, before-length c.put_decimal-new.ensures, before-length w, before-length x, length-decimal c.args.l.new, length-decimal c.args.l.old)

pub put_decimal-requires : goal.put_decimal-requires
put_decimal-requires c =
    let w = wrote-before c.put_decimal-new.ensures c.put_text-second.ensures in
    let x = wrote-before w c.put_decimal-old.ensures in
    let y = wrote-before x c.put_text-first.ensures in
    omega (arith, before-length c.put_decimal-new.ensures, before-length w, before-length x, before-length y, length-decimal c.args.l.new, length-decimal c.args.l.old)

pub returns : goal.returns
unfolding counts_text
returns c = wrote-before (wrote-before (wrote-before (wrote-before c.put_decimal-new.ensures c.put_text-second.ensures) c.put_decimal-old.ensures) c.put_text-first.ensures) c.put_decimal.ensures
