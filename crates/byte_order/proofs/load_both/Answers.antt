use mathlib.Core.Path.{◌≡◌, refl}
use Prim.Native.Nat.{ℕ, ◌*◌, ◌≤◌}
use native.Mathlib.Omega.{arith}
use Rattle.layout.specs.Form.{width_bytes}
use Rattle.byte_order.specs.Numbers.{numbers}
use Rattle.lists.proofs.Halves.{halves-start, written-more, written-end}
use Rattle.byte_order.proofs.Laws.{length-numbers}
use Rattle.byte_order.proofs.load_both.Goals as goal

-- the places stay as many, so t has entries for them
still : (w : ℕ) {a b m : ℕ} → a ≡ b → b * w ≤ m → a * w ≤ m
still w e h = rw e h

pub loop-p-init : goal.loop-p-init
loop-p-init c = halves-start _ _ _

pub load_part-requires : goal.load_part-requires
load_part-requires c = (omega arith, omega arith, still _ (omega arith) c.requires)

pub load_part-requires-in-loop-p : goal.load_part-requires-in-loop-p
load_part-requires-in-loop-p c = (omega arith, omega arith, still _ (omega arith) c.requires)

pub loop-p-preserved : goal.loop-p-preserved
loop-p-preserved c = let s = c in
    let l = c.loop-p in
    written-more (λ n. numbers s.args.order (width_bytes s.args.width) n s.args.t.now) s.args.out.now l.out _ _ _ l.p _ _ (length-numbers _ _ _ _) l.invariant (omega arith) (omega arith) (omega arith) (omega arith) c.load_part.ensures c.load_part-in-loop-p.ensures (omega arith)

pub load_part-requires-2 : goal.load_part-requires-2
load_part-requires-2 c = (omega arith, omega arith, still _ (omega arith) c.requires)

pub load_part-requires-3 : goal.load_part-requires-3
load_part-requires-3 c = (omega arith, omega arith, still _ (omega arith) c.requires)

pub returns : goal.returns
returns c = let s = c in
    let l = c.loop-p in
    written-end (λ n. numbers s.args.order (width_bytes s.args.width) n s.args.t.now) s.args.out.now l.out _ _ _ l.p _ _ (length-numbers _ _ _ _) l.invariant l.invariant.upto (omega arith) (omega arith) (omega arith) c.load_part-2.ensures c.load_part-3.ensures refl refl
