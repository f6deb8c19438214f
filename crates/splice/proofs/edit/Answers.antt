use Rattle.std.proofs.Common.{◌+◌, ◌-◌, sym, ◌∙◌, arith}
use Rattle.table.proofs.Storing.{length-little_bytes}
use Rattle.splice.specs.Moves.{table_edited}
use Rattle.splice.proofs.Fits.{fits-then, pad-bounds, resize-room}
use Rattle.splice.proofs.edit.Goals as goal

pub overflow_add-at : goal.overflow_add-at
overflow_add-at c = let f = fits-then _ _ _ _ _ _ _ (sym c.edit_fits-fits.ensures ∙ c.if-fits.true) in let p = pad-bounds c.args.n in omega arith

pub overflow_add-tail : goal.overflow_add-tail
overflow_add-tail c = let f = fits-then _ _ _ _ _ _ _ (sym c.edit_fits-fits.ensures ∙ c.if-fits.true) in let p = pad-bounds c.args.n in omega arith

pub overflow_sub-tail : goal.overflow_sub-tail
overflow_sub-tail c = (fits-then _ _ _ _ _ _ _ (sym c.edit_fits-fits.ensures ∙ c.if-fits.true)).0

pub padded_len-requires : goal.padded_len-requires
padded_len-requires c = let f = fits-then _ _ _ _ _ _ _ (sym c.edit_fits-fits.ensures ∙ c.if-fits.true) in let p = pad-bounds c.args.n in omega arith

pub overflow_sub-z : goal.overflow_sub-z
overflow_sub-z c = rw c.padded_len.ensures (pad-bounds c.args.n).0

pub resize-requires : goal.resize-requires
resize-requires c = let a = c.args in
    let f = fits-then _ _ _ _ _ _ _ (sym c.edit_fits-fits.ensures ∙ c.if-fits.true) in
    let p = pad-bounds a.n in
    record {
      z_bound = rw c.padded_len.ensures (omega arith, f.1, f.2);
      post_in_bounds = rw c.padded_len.ensures (omega arith);
      post_in_bounds_2 = rw c.padded_len.ensures (resize-room _ a.s a.n a.before a.old a.post a.w f);
    }

pub put_le-requires : goal.put_le-requires
put_le-requires c = let a = c.args in
    let f = fits-then _ _ _ _ _ _ _ (sym c.edit_fits-fits.ensures ∙ c.if-fits.true) in
    let p = pad-bounds (a.n - a.old + a.w) in
    omega arith

pub returns-then-fits-clause-a_after : goal.returns-then-fits-clause-a_after
unfolding table_edited
returns-then-fits-clause-a_after c = let e = sym c.edit_fits-fits.ensures ∙ c.if-fits.true in rw (e, length-little_bytes) (cc)
