use Rattle.std.proofs.Common.{ℕ, ◌+◌, ◌<◌, arith, ap, sym, ◌∙◌, drop, get_or, length-drop}
use lib.Seq.{get_or-drop}
use Rattle.std.specs.Int.{w32, swap_bytes}
use Rattle.byte_order.specs.Numbers.{number}
use Rattle.byte_order.proofs.Laws.{big-swapped}
use Rattle.byte_order.proofs.Big4Stored.read.Goals as goal

pub returns : goal.returns
unfolding number
returns c =
    let u = drop c.args.at c.args.t.now in
    let byte : (i : ℕ) → get_or u i 0 < 256 = λ i. rw get_or-drop (omega (arith, c.type_inv.t (c.args.at + i))) in
    c.swap_bytes.ensures
    ∙ ap (swap_bytes w32) c.little32.ensures
    ∙ sym (big-swapped u (rw length-drop (omega arith)) byte)
