use mathlib.Core.Path.{◌≡◌, ap, ◌∙◌}
use Prim.Native.Nat.{ℕ, ◌+◌, ◌*◌, ◌/◌, ◌%◌, ◌<◌}
use native.Mathlib.Omega.{arith}
use Rattle.byte_order.proofs.exchanged.Goals as goal

-- 65537 and a number of high byte h and low byte l: the middle bytes of the product are l and h
middle : (v : ℕ) → v < 65536 → v * 65537 / 256 % 65536 ≡ v % 256 * 256 + v / 256
middle v b =
    let h : ℕ = v / 256 in
    let l : ℕ = v % 256 in
    let s : v ≡ 256 * h + l = omega arith in
    let p : l < 256 = omega arith in
    let k : h < 256 = omega arith in
    let q : v * 65537 / 256 ≡ 65537 * h + 256 * l = ap (λ (n : ℕ). n * 65537 / 256) s ∙ parts h l p in
    rw q (lower h l k p)
  where
    parts : (h l : ℕ) → l < 256 → (256 * h + l) * 65537 / 256 ≡ 65537 * h + 256 * l
    parts h l p = omega arith

    lower : (h l : ℕ) → h < 256 → l < 256 → (65537 * h + 256 * l) % 65536 ≡ l * 256 + h
    lower h l k p = omega arith

pub returns : goal.returns
returns c = middle _ (omega (arith, c.ranges.v))
