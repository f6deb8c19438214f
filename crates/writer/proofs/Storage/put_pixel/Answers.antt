use Rattle.std.proofs.Common.{[], ◌∷◌, length, refl, rules}
use Rattle.writer.proofs.Placing.{low-none, none-under, room-values, block-put, block-places}
use Rattle.writer.proofs.Pixel.{above_low, above-under, below-low, below-room, below-under}
use Rattle.writer.proofs.Storage.put_pixel.Goals as goal

pub put_value-requires : goal.put_value-requires
put_value-requires c = let a = c.args in
    let kind = c.in_default.is in
    room-values a.self.form a.self.base (a.v ∷ []) _ a.at _ (low-none a.self.form a.self.base (a.v ∷ []) kind) (record { image = refl; two = refl; four = refl }) _ _ refl c.requires.1

pub returns-in_default : goal.returns-in_default
returns-in_default c = let a = c.args in
    let kind = c.in_default.is in
    let u = none-under a.self.form a.self.base a.at.under (a.v ∷ []) a.out.now kind in record { value = block-places a.self.form a.self.base (a.v ∷ []) _ a.at _ (low-none a.self.form a.self.base (a.v ∷ []) kind) (record { image = refl; two = refl; four = refl }) _ u.0 c.put_value.ensures.value; out_after = block-put a.self.form a.self.base (a.v ∷ []) _ a.at _ (low-none a.self.form a.self.base (a.v ∷ []) kind) (record { image = refl; two = refl; four = refl }) _ _ _ u.1 c.put_value.ensures.out_after }

pub put_value-requires-then-self-v : goal.put_value-requires-then-self-v
put_value-requires-then-self-v c = let a = c.args in
    let kind = c.in-Subtracted.is in
    room-values a.self.form a.self.base (a.v ∷ []) _ a.at _ (above_low a.self.form a.self.base a.v _ kind c.if-self-v.true) (record { image = refl; two = refl; four = refl }) _ _ refl c.requires.1

pub returns-then-self-v : goal.returns-then-self-v
returns-then-self-v c = let a = c.args in
    let kind = c.in-Subtracted.is in
    let u = above-under a.self.form a.self.base a.v _ kind c.if-self-v.true a.at.under a.out.now in record { value = block-places a.self.form a.self.base (a.v ∷ []) _ a.at _ (above_low a.self.form a.self.base a.v _ kind c.if-self-v.true) (record { image = refl; two = refl; four = refl }) _ u.0 c.put_value-then-self-v.ensures.value; out_after = block-put a.self.form a.self.base (a.v ∷ []) _ a.at _ (above_low a.self.form a.self.base a.v _ kind c.if-self-v.true) (record { image = refl; two = refl; four = refl }) _ _ _ u.1 c.put_value-then-self-v.ensures.out_after }

pub put_underflow-under-requires : goal.put_underflow-under-requires
put_underflow-under-requires c = let a = c.args in
    let kind = c.in-Subtracted.is in
    below-room a.self.form a.self.base a.v _ kind c.if-self-v.false _ a.at c.requires.1

pub put_value-requires-2 : goal.put_value-requires-2
put_value-requires-2 c = let a = c.args in
    let kind = c.in-Subtracted.is in
    room-values a.self.form a.self.base (a.v ∷ []) _ a.at _ (below-low a.self.form a.self.base a.v _ kind c.if-self-v.false) (record { image = refl; two = refl; four = refl }) _ (length a.out.now) (search rules) c.requires.1

pub returns : goal.returns
returns c = let a = c.args in
    let kind = c.in-Subtracted.is in
    let u = below-under a.self.form a.self.base a.v _ kind c.if-self-v.false a.at.under _ a.out.now _ c.put_underflow-under.ensures.value c.put_underflow-under.ensures.out_after in record { value = block-places a.self.form a.self.base (a.v ∷ []) _ a.at _ (below-low a.self.form a.self.base a.v _ kind c.if-self-v.false) (record { image = refl; two = refl; four = refl }) _ u.0 c.put_value-2.ensures.value; out_after = block-put a.self.form a.self.base (a.v ∷ []) _ a.at _ (below-low a.self.form a.self.base a.v _ kind c.if-self-v.false) (record { image = refl; two = refl; four = refl }) _ _ _ u.1 c.put_value-2.ensures.out_after }
