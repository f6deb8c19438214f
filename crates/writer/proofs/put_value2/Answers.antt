use Rattle.std.proofs.Common.{length, refl, arith}
use Rattle.writer.proofs.Pixel.{entry-put, none-entered, two-small, two-large, value_room, value-places, value-put}
use Rattle.writer.proofs.put_value2.Goals as goal

pub returns-then-x-lt65535 : goal.returns-then-x-lt65535
returns-then-x-lt65535 c = let a = c.args in
    let v = two-small a.x c.if-x-lt65535.true in
    let r = value_room v a.at (length a.out.now) c.requires in record { value = value-places v a.at _ _ _ refl (omega arith) (omega arith); out_after = value-put v a.at _ _ _ _ (none-entered _ 2 _) (none-entered _ 4 _) (entry-put 2 _ _ _ _ r.0 c.put_entry.ensures) }

pub returns : goal.returns
returns c = let a = c.args in
    let v = two-large a.x c.if-x-lt65535.false in
    let r = value_room v a.at (length a.out.now) c.requires in record { value = value-places v a.at _ _ _ refl (omega arith) (omega arith); out_after = value-put v a.at _ _ _ _ (none-entered _ 2 _) (entry-put 4 _ _ _ _ r.2 c.put_entry-2.ensures) (entry-put 2 _ _ _ _ (omega (arith, r.0)) c.put_entry-3.ensures) }
