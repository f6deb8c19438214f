use Rattle.listing.proofs.Lengths.{length-end, length-kind}
use Rattle.listing.proofs.WritingLaws.{before-length, wrote-before, length-decimal}
use Rattle.listing.specs.Listing.{line_text}
use native.Mathlib.Omega.{arith}
use Rattle.listing.proofs.put_line.Goals as goal

pub put_kind-kind-requires : goal.put_kind-kind-requires
put_kind-kind-requires c = omega (arith, before-length c.put_end-end.ensures, length-end c.args.cancelled)

pub put_decimal-first-requires : goal.put_decimal-first-requires
put_decimal-first-requires c =
    let w = wrote-before c.put_end-end.ensures c.put_kind-kind.ensures in
    omega (arith, before-length c.put_end-end.ensures, before-length w, length-end c.args.cancelled, length-kind c.args.l.kind c.args.l)

pub put_text-requires : goal.put_text-requires
put_text-requires c =
    let w = wrote-before c.put_end-end.ensures c.put_kind-kind.ensures in
    let x = wrote-before w c.put_decimal-first.ensures in
    omega (arith, before-length c.put_end-end.ensures, before-length w, before-length x, length-end c.args.cancelled, length-kind c.args.l.kind c.args.l, length-decimal c.args.number)

pub returns : goal.returns
unfolding line_text
returns c = wrote-before (wrote-before (wrote-before c.put_end-end.ensures c.put_kind-kind.ensures) c.put_decimal-first.ensures) c.put_text.ensures
