use Rattle.std.proofs.Common.{ℕ, ◌*◌, ◌/◌, ◌%◌, ◌+◌, ◌<◌, arith, ap, sym, ◌∙◌, drop, get_or, length-drop}
use lib.Seq.{get_or-drop}
use Rattle.byte_order.specs.Numbers.{number}
use Rattle.byte_order.proofs.Laws.{big-exchanged, little-two}
use Rattle.byte_order.proofs.Big2Stored.read.Goals as goal

pub returns : goal.returns
unfolding number
returns c =
    let u = drop c.args.at c.args.t.now in
    let byte : (i : ℕ) → get_or u i 0 < 256 = λ i. rw get_or-drop (omega (arith, c.type_inv.t (c.args.at + i))) in
    c.exchanged.ensures
    ∙ ap (λ (v : ℕ). v % 256 * 256 + v / 256) (c.from_le_bytes.ensures ∙ little-two c.args.at c.args.t.now)
    ∙ sym (big-exchanged u (rw length-drop (omega arith)) (byte 0) (byte 1))
