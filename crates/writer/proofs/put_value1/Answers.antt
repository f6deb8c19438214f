use Rattle.std.proofs.Common.{length, refl, arith}
use Rattle.writer.proofs.Pixel.{entry-put, none-entered, one-small, one-middle, one-large, value_room, value-places, value-put}
use Rattle.writer.proofs.Gathering.{capped-is}
use Rattle.writer.proofs.put_value1.Goals as goal

pub returns-then-x-lt255 : goal.returns-then-x-lt255
returns-then-x-lt255 c = let a = c.args in
    let v = one-small a.x c.if-x-lt255.true in
    let r = value_room v a.at (length a.out.now) c.requires in record { value = value-places v a.at _ _ _ refl (omega arith) (omega arith); out_after = value-put v a.at _ _ _ _ (none-entered _ 2 _) (none-entered _ 4 _) (entry-put 1 _ _ _ _ r.0 c.put_entry.ensures) }

pub returns-then-x-lt65535 : goal.returns-then-x-lt65535
returns-then-x-lt65535 c = let a = c.args in
    let v = one-middle a.x c.if-x-lt255.false c.if-x-lt65535.true in
    let r = value_room v a.at (length a.out.now) c.requires in record { value = value-places v a.at _ _ _ refl (omega arith) (omega arith); out_after = value-put v a.at _ _ _ _ (entry-put 2 _ _ _ _ r.1 (rw (c.min.ensures, capped-is) at c.put_entry-2.ensures)) (none-entered _ 4 _) (entry-put 1 _ _ _ _ (omega (arith, r.0)) c.put_entry-then-x-lt65535.ensures) }

pub returns : goal.returns
returns c = let a = c.args in
    let v = one-large a.x c.if-x-lt65535.false in
    let r = value_room v a.at (length a.out.now) c.requires in record { value = value-places v a.at _ _ _ refl (omega arith) (omega arith); out_after = value-put v a.at _ _ _ _ (entry-put 2 _ _ _ _ r.1 (rw (c.min.ensures, capped-is) at c.put_entry-2.ensures)) (entry-put 4 _ _ _ _ (omega (arith, r.2)) c.put_entry-3.ensures) (entry-put 1 _ _ _ _ (omega (arith, r.0)) c.put_entry-4.ensures) }
