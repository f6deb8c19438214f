use Prim.Native.Nat.{◌+◌, ◌*◌, ◌≤◌}
use mathlib.Core.Path.{◌≡◌, refl, sym}
use native.Mathlib.Omega.{arith}
use lib.Seq.{length-take-le}
use Rattle.layout.specs.Layout.{image_end, text_end}
use Rattle.layout.proofs.Laws.{bytes_le}
use Rattle.std.proofs.lemmas.Result.{err_from_is_err_and}
use Rattle.overflow86.proofs.Frame.{table-small, short, truncated, framed, parts-room}
use Rattle.overflow86.proofs.expand86.Goals as goal

pub returns-then-pixels-n : goal.returns-then-pixels-n
returns-then-pixels-n c = record { value = (short _ _ _ _ (rw c.pixel_count-n.ensures at c.if-pixels-n.true)).0; pixels_after = (short _ _ _ _ (rw c.pixel_count-n.ensures at c.if-pixels-n.true)).1 }

pub overflow_mul-table : goal.overflow_mul-table
overflow_mul-table c = let bound : c.pixel_count-n.result * c.width_bytes.result ≤ c.pixel_count-n.result * 4 = rw c.width_bytes.ensures (bytes_le c.pixel_count-n.result c.args.image.width) in
    omega (arith, bound)

pub overflow_add-table : goal.overflow_add-table
overflow_add-table c = let bound : c.pixel_count-n.result * c.width_bytes.result ≤ c.pixel_count-n.result * 4 = rw c.width_bytes.ensures (bytes_le c.pixel_count-n.result c.args.image.width) in
    omega (arith, bound)

pub overflow_add-end : goal.overflow_add-end
overflow_add-end c = let bound : c.pixel_count-n.result * c.width_bytes.result ≤ c.pixel_count-n.result * 4 = rw c.width_bytes.ensures (bytes_le c.pixel_count-n.result c.args.image.width) in
    omega (arith, bound, c.text_table_bytes.ensures, table-small c.args.count)

pub returns-then-bytes-end : goal.returns-then-bytes-end
returns-then-bytes-end c = let end_is : c.args.image.start + c.pixel_count-n.result * c.width_bytes.result + c.text_table_bytes.result ≡ text_end c.args.image c.args.count = rw (c.pixel_count-n.ensures, c.width_bytes.ensures, c.text_table_bytes.ensures) in
    record { value = (truncated _ _ _ _ (rw c.pixel_count-n.ensures at c.if-pixels-n.false) (rw (end_is) at c.if-bytes-end.true)).0; pixels_after = (truncated _ _ _ _ (rw c.pixel_count-n.ensures at c.if-pixels-n.false) (rw (end_is) at c.if-bytes-end.true)).1 }

pub slice_bounds-fill-end-4 : goal.slice_bounds-fill-end-4
slice_bounds-fill-end-4 c = sym (length-take-le _ _ c.if-pixels-n.false)

pub fill-requires : goal.fill-requires
fill-requires c =
    let table_is : c.args.image.start + c.pixel_count-n.result * c.width_bytes.result ≡ image_end c.args.image = rw (c.pixel_count-n.ensures, c.width_bytes.ensures) in
    let end_is : c.args.image.start + c.pixel_count-n.result * c.width_bytes.result + c.text_table_bytes.result ≡ text_end c.args.image c.args.count = rw (c.pixel_count-n.ensures, c.width_bytes.ensures, c.text_table_bytes.ensures) in
    parts-room c.args.bytes.now c.args.pixels.now c.args.image c.args.count _ _ _ _ c.pixel_count-n.ensures c.if-pixels-n.false refl table_is end_is c.if-bytes-end.false

pub returns-in_err-fill : goal.returns-in_err-fill
returns-in_err-fill c =
    let p = err_from_is_err_and c.from_residual.result c.from_residual.ensures.1 in
    let table_is : c.args.image.start + c.pixel_count-n.result * c.width_bytes.result ≡ image_end c.args.image = rw (c.pixel_count-n.ensures, c.width_bytes.ensures) in
    let end_is : c.args.image.start + c.pixel_count-n.result * c.width_bytes.result + c.text_table_bytes.result ≡ text_end c.args.image c.args.count = rw (c.pixel_count-n.ensures, c.width_bytes.ensures, c.text_table_bytes.ensures) in
    let e = framed c.args.bytes.now c.args.pixels.now c.args.image c.args.count _ _ _ _ _ _ _ c.pixel_count-n.ensures c.if-pixels-n.false refl table_is end_is c.if-bytes-end.false (c.fill.ensures.value, c.fill.ensures.pixels_after) (rw (p.1, p.2, c.in_err-fill.was)) in
    record { value = e.0; pixels_after = e.1 }

pub returns : goal.returns
returns c =
    let table_is : c.args.image.start + c.pixel_count-n.result * c.width_bytes.result ≡ image_end c.args.image = rw (c.pixel_count-n.ensures, c.width_bytes.ensures) in
    let end_is : c.args.image.start + c.pixel_count-n.result * c.width_bytes.result + c.text_table_bytes.result ≡ text_end c.args.image c.args.count = rw (c.pixel_count-n.ensures, c.width_bytes.ensures, c.text_table_bytes.ensures) in
    let e = framed c.args.bytes.now c.args.pixels.now c.args.image c.args.count _ _ _ _ _ _ _ c.pixel_count-n.ensures c.if-pixels-n.false refl table_is end_is c.if-bytes-end.false (c.fill.ensures.value, c.fill.ensures.pixels_after) (rw c.in_ok-fill.was) in
    record { value = e.0; pixels_after = e.1 }
