-- Laws on products.
-- Assumes nothing.
use mathlib.Core.Path.{◌≡◌, subst⁻¹, ap, ◌∙◌}
use Prim.Native.Nat.{ℕ, ◌+◌, ◌-◌, ◌*◌, ◌^◌, ◌≤◌, ◌<◌}
use native.Mathlib.Omega.{arith}
use native.Mathlib.Nat.{add-mul, le_of_lt, lt_of_le_of_lt, mul-le-mul_left, mul-lt-mul_of_pos_right}
use lib.Pow.{pow_pos, pow-add}

-- the product of two numbers of k bits has at most k + k
pub product-below : (k : ℕ) {a b : ℕ} → a < 2 ^ k → b < 2 ^ k → a * b < 2 ^ (k + k)
product-below k {a} {b} ha hb =
    subst⁻¹ (λ (n : ℕ). a * b < n) (pow-add 2 k k)
    (lt_of_le_of_lt (mul-le-mul_left a (le_of_lt hb)) (mul-lt-mul_of_pos_right ha (pow_pos k)))

-- e of w each: p of them, and the rest
pub mul-split : (w p e : ℕ) → p ≤ e → e * w ≡ p * w + (e - p) * w
mul-split w p e h = let s : e ≡ p + (e - p) = omega arith in ap (λ (n : ℕ). n * w) s ∙ add-mul p (e - p) w
