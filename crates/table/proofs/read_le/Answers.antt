use Rattle.std.proofs.Common.{◌≡◌, ℕ, ◌+◌, ◌-◌, ◌*◌, ◌^◌, ◌<◌, ◌≤◌, List, get_or, length, drop, refl, ap, ◌∙◌, add-zero, add-one, arith, get_or-drop, drop-drop, pow_mono, pow-add}
use Rattle.lists.specs.Bytes.{little}
use Rattle.table.proofs.read_le.Goals as goal

-- one more byte
grow : (v b i : ℕ) → v < 2 ^ (8 * i) → b < 256 → v * 256 + b < 2 ^ (8 * (i + 1))
grow v b i h k =
    let e : 2 ^ (8 * (i + 1)) ≡ 2 ^ (8 * i) * 256 = ap (λ (n : ℕ). 2 ^ n) (omega arith) ∙ pow-add 2 (8 * i) 8 in
    omega (arith, e)

little-suc : (i : ℕ) (t : List ℕ) (at : ℕ) → 0 < at → little i (drop at t) * 256 + get_or t (at - 1) 0 ≡ little (i + 1) (drop (at - 1) t)
unfolding little
little-suc i t at h =
    let e : at - 1 + 1 ≡ at = omega arith in
    rw (add-one, get_or-drop, drop-drop, e, add-zero) (omega arith)

pub loop-i-init : goal.loop-i-init
unfolding little
loop-i-init c =
    let e : length c.args.bytes.now - length c.args.bytes.now ≡ 0 = omega arith in
    rw e (record { small = omega arith; value = refl })

low : (i w : ℕ) → i < w → w ≤ 4 → 2 ^ (8 * i) ≤ 2 ^ 24
low i w h k = pow_mono {i = 8 * i} {j = 24} (omega arith)

pub overflow_mul-v : goal.overflow_mul-v
overflow_mul-v c = let n = length c.args.bytes.now in omega (arith, low (n - c.loop-i.i) n (omega arith) c.requires)

pub overflow_add-v : goal.overflow_add-v
overflow_add-v c = let n = length c.args.bytes.now in omega (arith, low (n - c.loop-i.i) n (omega arith) c.requires, c.from.ensures, c.type_inv.bytes (c.loop-i.i - 1))

pub loop-i-preserved : goal.loop-i-preserved
loop-i-preserved c =
    let t = c.args.bytes.now in
    let i = c.loop-i.i in
    let n : length t - (i - 1) ≡ length t - i + 1 = omega arith in
    let b = c.type_inv.bytes (i - 1) in
    rw n
    (record {
      small = grow _ _ (length t - i) c.loop-i.invariant.small (omega (arith, b, c.from.ensures));
      value = ap (λ (n : ℕ). n * 256 + c.from.result) c.loop-i.invariant.value ∙ rw c.from.ensures (little-suc (length t - i) t i (omega arith));
    })

pub returns : goal.returns
returns c =
    let z : c.loop-i.i ≡ 0 = omega arith in
    let n : length c.args.bytes.now - c.loop-i.i ≡ length c.args.bytes.now = omega arith in
    rw (n, z) at c.loop-i.invariant.value
