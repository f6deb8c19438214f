use mathlib.Core.Path.{◌≡◌, sym}
use Rattle.std.proofs.Common.{rules, Err}
use Prim.Native.Nat.{◌+◌, ◌*◌, ◌≤◌}
use native.Mathlib.Omega.{arith}
use lib.Seq.{length-take-le}
use Rattle.mar_header.proofs.Laws.{side-le}
use Rattle.mar_image.specs.MarImage.{plate_end}
use Rattle.mar_image.proofs.Frame.{count-le, records-le, short, truncated, lent-room, lent-framed}
use Rattle.mar_image.proofs.read_image.Goals as goal

pub overflow_mul-n : goal.overflow_mul-n
overflow_mul-n c = rw c.side_pixels-width.ensures (omega (arith, count-le c.args.header.side))

pub returns-then-pixels-n : goal.returns-then-pixels-n
returns-then-pixels-n c = record { value = (short _ _ _ (rw c.side_pixels-width.ensures at c.if-pixels-n.true)).0; pixels_after = (short _ _ _ (rw c.side_pixels-width.ensures at c.if-pixels-n.true)).1 }

pub overflow_mul-end : goal.overflow_mul-end
overflow_mul-end c = let records-small : c.records_for.result * (c.side_pixels-width.result * 2) ≤ c.records_for.result * 4000 = rw c.side_pixels-width.ensures (records-le c.args.header.side c.records_for.result) in
    omega (arith, records-small)

pub overflow_add-end : goal.overflow_add-end
overflow_add-end c = let records-small : c.records_for.result * (c.side_pixels-width.result * 2) ≤ c.records_for.result * 4000 = rw c.side_pixels-width.ensures (records-le c.args.header.side c.records_for.result) in
    let table-small : c.side_pixels-width.result * 2 + c.side_pixels-width.result * c.side_pixels-width.result * 2 ≤ 8004000 = let s = c.args.header.side in
    rw c.side_pixels-width.ensures (omega (arith, side-le s, count-le s)) in
    omega (arith, records-small, table-small)

pub returns-then-file-end : goal.returns-then-file-end
returns-then-file-end c = let end_is : c.side_pixels-width.result * 2 + c.side_pixels-width.result * c.side_pixels-width.result * 2 + c.records_for.result * (c.side_pixels-width.result * 2) ≡ plate_end c.args.header = rw (c.side_pixels-width.ensures, c.records_for.ensures) in
    record { value = (truncated _ _ _ (rw c.side_pixels-width.ensures at c.if-pixels-n.false) (rw (end_is) at c.if-file-end.true)).0; pixels_after = (truncated _ _ _ (rw c.side_pixels-width.ensures at c.if-pixels-n.false) (rw (end_is) at c.if-file-end.true)).1 }

pub slice_bounds-fill-end-4 : goal.slice_bounds-fill-end-4
slice_bounds-fill-end-4 c = sym (length-take-le _ _ c.if-pixels-n.false)

pub fill-requires : goal.fill-requires
fill-requires c = lent-room c.args.file.now c.args.pixels.now c.args.header _ _ c.side_pixels-width.ensures c.records_for.ensures c.if-pixels-n.false c.if-file-end.false

pub returns-in_err-fill : goal.returns-in_err-fill
returns-in_err-fill c =
    let e : c.from_residual.result ≡ Err c.in_err-fill.field-0.0 = search rules in
    let f = lent-framed c.args.file.now c.args.pixels.now c.args.header _ _ c.side_pixels-width.ensures c.records_for.ensures c.if-pixels-n.false c.if-file-end.false c.fill.result c.fill.new.pixels c.from_residual.result (c.fill.ensures.value, c.fill.ensures.pixels_after) (rw c.in_err-fill.was e) in
    record { value = f.0; pixels_after = f.1 }

pub returns : goal.returns
returns c =
    let f = lent-framed c.args.file.now c.args.pixels.now c.args.header _ _ c.side_pixels-width.ensures c.records_for.ensures c.if-pixels-n.false c.if-file-end.false c.fill.result c.fill.new.pixels _ (c.fill.ensures.value, c.fill.ensures.pixels_after) (rw (c.in_ok-fill.was, c.side_pixels-width.ensures)) in
    record { value = f.0; pixels_after = f.1 }
