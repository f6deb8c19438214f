use Rattle.header_text.proofs.Cells.{digits-none, digits_last, digits_more, digits-room}
use Rattle.header_text.proofs.+put_digits.Goals as goal

pub returns-then-k-eq0 : goal.returns-then-k-eq0
returns-then-k-eq0 t c =
    let b = digits-none c.args.n c.args.k c.args.out.now c.if-k-eq0.true in
    record { value = b.0; out_after = b.1 }

pub returns-then-n-lt10 : goal.returns-then-n-lt10
returns-then-n-lt10 t c =
    let b = digits_last c.args.n c.args.k c.args.out.now c.if-k-eq0.false c.if-n-lt10.true c.requires in
    record { value = b.0; out_after = b.1 }

pub bounds-out-before : goal.bounds-out-before
bounds-out-before t c = digits-room c.args.n c.args.k _ c.args.out.now _ c.if-k-eq0.false c.requires (c.put_digits-before.ensures.value, c.put_digits-before.ensures.out_after)

pub returns : goal.returns
returns t c =
    let b = digits_more c.args.n c.args.k _ c.args.out.now _ c.if-k-eq0.false c.if-n-lt10.false c.requires (c.put_digits-before.ensures.value, c.put_digits-before.ensures.out_after) in
    record { value = b.0; out_after = b.1 }
