use mathlib.Core.Path.{◌∙◌}
use Prim.Native.Nat.{◌+◌, ◌*◌}
use native.Mathlib.Omega.{arith}
use lib.ListN.{length}
use Rattle.layout.specs.Form.{width_bytes}
use Rattle.layout.proofs.Laws.{width-le}
use Rattle.splice.proofs.Fits.{put-fits}
use Rattle.replacement.proofs.put_image.Goals as goal

pub overflow_mul-at : goal.overflow_mul-at
overflow_mul-at c = let p = rw (← c.width_bytes-each.ensures) at c.requires in omega arith

pub overflow_add-at : goal.overflow_add-at
overflow_add-at c = let p = rw (← c.width_bytes-each.ensures) at c.requires in omega arith

pub returns : goal.returns
returns c = let a = c.args in
    let p = put-fits (length a.held.now) (a.place.start + a.pixel * width_bytes a.place.form.width) (width_bytes a.place.form.width) (width-le a.place.form.width) c.requires in
    c.put.ensures.a_after ∙ rw (c.width_bytes-each.ensures, p, c.image_number.ensures, c.lower-x.ensures)
