use Rattle.std.proofs.Common.{length, refl, arith}
use Rattle.writer.proofs.Pixel.{entry-put, none-entered, four-any, value_room, value-places, value-put}
use Rattle.writer.proofs.put_value4.Goals as goal

pub returns : goal.returns
returns c = let a = c.args in
    let v = four-any a.x in
    let r = value_room v a.at (length a.out.now) c.requires in record { value = value-places v a.at _ _ _ refl (omega arith) (omega arith); out_after = value-put v a.at _ _ _ _ (none-entered _ 2 _) (none-entered _ 4 _) (entry-put 4 _ _ _ _ r.0 c.put_entry.ensures) }
