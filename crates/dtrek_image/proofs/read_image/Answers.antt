use Rattle.byte_order.proofs.Laws.{loaded}
use Rattle.dtrek_image.proofs.Frame.{bytes_le, short, truncated, room, framed}
use lib.Seq.{length-take-le}
use native.Mathlib.Omega.{arith}
use mathlib.Core.Path.{sym}
use Rattle.dtrek_image.proofs.read_image.Goals as goal

pub returns-then-pixels-n : goal.returns-then-pixels-n
returns-then-pixels-n c = record { value = (short _ _ _ _ c.pixel_count-n.ensures c.if-pixels-n.true).0; pixels_after = (short _ _ _ _ c.pixel_count-n.ensures c.if-pixels-n.true).1 }

pub overflow_mul-end : goal.overflow_mul-end
overflow_mul-end c = omega (arith, bytes_le c.pixel_count-n.result c.args.header.image.width c.width_bytes.ensures)

pub overflow_add-end : goal.overflow_add-end
overflow_add-end c = omega (arith, bytes_le c.pixel_count-n.result c.args.header.image.width c.width_bytes.ensures)

pub returns-then-file-end : goal.returns-then-file-end
returns-then-file-end c = record { value = (truncated _ _ _ _ _ c.pixel_count-n.ensures c.width_bytes.ensures c.if-pixels-n.false c.if-file-end.true).0; pixels_after = (truncated _ _ _ _ _ c.pixel_count-n.ensures c.width_bytes.ensures c.if-pixels-n.false c.if-file-end.true).1 }

pub slice_bounds-load_halves-end-3 : goal.slice_bounds-load_halves-end-3
slice_bounds-load_halves-end-3 c = sym (length-take-le _ _ c.if-pixels-n.false)

pub returns : goal.returns
returns c = let s = c in
    let e = c.pixel_count-n.ensures in
    let w = c.width_bytes.ensures in
    let l = c.if-pixels-n.false in
    let k = c.if-file-end.false in record { value = (framed s.args.file.now s.args.pixels.now s.args.header _ _ e w l k _ (loaded _ _ _ _ (room s.args.file.now s.args.pixels.now s.args.header _ _ e w l k) c.load_halves.ensures.out_after)).0; pixels_after = (framed s.args.file.now s.args.pixels.now s.args.header _ _ e w l k _ (loaded _ _ _ _ (room s.args.file.now s.args.pixels.now s.args.header _ _ e w l k) c.load_halves.ensures.out_after)).1 }
