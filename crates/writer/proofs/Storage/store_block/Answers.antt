use Rattle.std.proofs.Common.{length, sym, refl, ◌∙◌, rules}
use lib.ListN.{length-map}
use Rattle.writer.proofs.Placing.{lowered_is, low-none, none-under, room-under, room-values, block-put, block-places}
use Rattle.writer.proofs.Storage.store_block.Goals as goal

pub store_values-requires : goal.store_values-requires
store_values-requires c = (c.requires.0, room-values c.args.self.form c.args.self.base c.args.block.now _ c.args.at _ (low-none c.args.self.form c.args.self.base c.args.block.now c.in_default.is) (record { image = refl; two = refl; four = refl }) _ _ refl c.requires.2)

pub returns-in_default : goal.returns-in_default
returns-in_default c = record { value = block-places c.args.self.form c.args.self.base c.args.block.now _ c.args.at _ (low-none c.args.self.form c.args.self.base c.args.block.now c.in_default.is) (record { image = refl; two = refl; four = refl }) _ (none-under c.args.self.form c.args.self.base c.args.at.under c.args.block.now c.args.out.now c.in_default.is).0 c.store_values.ensures.value; out_after = block-put c.args.self.form c.args.self.base c.args.block.now _ c.args.at _ (low-none c.args.self.form c.args.self.base c.args.block.now c.in_default.is) (record { image = refl; two = refl; four = refl }) _ _ _ (none-under c.args.self.form c.args.self.base c.args.at.under c.args.block.now c.args.out.now c.in_default.is).1 c.store_values.ensures.out_after }

pub put_underflows-under-requires : goal.put_underflows-under-requires
put_underflows-under-requires c = (c.requires.0, c.lower-k.ensures.value, room-under _ _ _ _ _ _ c.in-Subtracted.is c.requires.2)

pub store_values-requires-2 : goal.store_values-requires-2
store_values-requires-2 c = (rw (c.lower-k.ensures.out_after, length-map) c.requires.0, room-values c.args.self.form c.args.self.base c.args.block.now _ c.args.at _ (c.lower-k.ensures.out_after ∙ sym (lowered_is c.args.self.form.underflow c.args.self.base c.args.block.now c.requires.1)) (record { image = refl; two = refl; four = refl }) _ (length c.args.out.now) (search rules) c.requires.2)

pub returns : goal.returns
returns c = record { value = block-places c.args.self.form c.args.self.base c.args.block.now _ c.args.at _ (c.lower-k.ensures.out_after ∙ sym (lowered_is c.args.self.form.underflow c.args.self.base c.args.block.now c.requires.1)) (record { image = refl; two = refl; four = refl }) _ (rw c.in-Subtracted.is c.put_underflows-under.ensures.value) c.store_values-2.ensures.value; out_after = block-put c.args.self.form c.args.self.base c.args.block.now _ c.args.at _ (c.lower-k.ensures.out_after ∙ sym (lowered_is c.args.self.form.underflow c.args.self.base c.args.block.now c.requires.1)) (record { image = refl; two = refl; four = refl }) _ _ _ (rw c.in-Subtracted.is c.put_underflows-under.ensures.out_after) c.store_values-2.ensures.out_after }
