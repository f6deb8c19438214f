use Rattle.std.proofs.Common.{◌≡◌, ◌∙◌, sym, rules, length}
use Rattle.lists.specs.Bytes.{zeros}
use Rattle.byte_order.proofs.Laws.{loaded}
use Rattle.mar_image.proofs.Laws.{filled-bad, filled-good}
use Rattle.mar_image.proofs.fill.Goals as goal

pub returns-then-is_err : goal.returns-then-is_err
returns-then-is_err c =
    let a = c.args in
    let p = c.place_pairs-checked.ensures in
    let f = filled-bad a.order a.n a.image.now a.table.now a.pixels.now _ _ _ (loaded _ _ _ _ c.requires.0 c.load_halves.ensures.out_after) (p.value, p.pixels_after) (search rules) (sym c.is_err.ensures.value ∙ c.if-is_err.true) in
    let z : c.fill.new.self ≡ zeros (length c.place_pairs-checked.new.pixels) = search rules in
    record { value = f.0; pixels_after = z ∙ f.1 }

pub returns-else-is_err : goal.returns-else-is_err
returns-else-is_err c =
    let a = c.args in
    let p = c.place_pairs-checked.ensures in
    let f = filled-good a.order a.n a.image.now a.table.now a.pixels.now _ _ _ (loaded _ _ _ _ c.requires.0 c.load_halves.ensures.out_after) (p.value, p.pixels_after) (sym c.is_err.ensures.value ∙ c.if-is_err.false) in
    record { value = f.0; pixels_after = f.1 }
