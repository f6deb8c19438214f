-- Numbers in bytes, most significant first: reading and writing are inverse, and how a loop does each.
-- Assumes nothing.
use mathlib.Core.Path.{◌≡◌, refl, sym, ap, ◌∙◌}
use mathlib.Core.List.{List, [], ◌∷◌, ◌++◌, append_assoc, append-nil}
use Prim.Native.Nat.{ℕ, zero, suc, ◌+◌, ◌-◌, ◌*◌, ◌/◌, ◌%◌, ◌^◌, ◌≤◌, ◌<◌}
use native.Mathlib.Nat.{add-suc, add-zero, zero-add, suc-add, pow-suc, mul_assoc, mul_comm, add-mul, mul-le-mul_right}
use native.Mathlib.Numerals.{add-one}
use native.Mathlib.Omega.{arith}
use lib.Pow.{pow_mono, pow-add}
use lib.ListN.{length, take, drop, get_or, set, length-set, length-append, take-append-drop}
use lib.Seq.{drop-cons, append_snoc, take-set-le, drop-set-lt, get_or-set_same}
use Rattle.lists.specs.Bytes.{big_from, big, big_bytes}

-- reading a number of n bytes that starts at `at`: i bytes are read

pub big-grows : (v b i : ℕ) → v < 2 ^ (8 * i) → b < 256 → v * 256 + b < 2 ^ (8 * (i + 1))
big-grows v b i h k =
    let e : 2 ^ (8 * (i + 1)) ≡ 2 ^ (8 * i) * 256 = ap (λ (n : ℕ). 2 ^ n) (omega arith) ∙ pow-add 2 (8 * i) 8 in
    omega (arith, e)

pub big-more : (t : List ℕ) (v at i n : ℕ) → i < n → at + i < length t
    → big_from v (take (n - i) (drop (at + i) t)) ≡ big_from (v * 256 + get_or t (at + i) 0) (take (n - (i + 1)) (drop (at + (i + 1)) t))
unfolding big_from
big-more t v at i n h l =
    let e : n - i ≡ suc (n - (i + 1)) = omega arith in
    let f : at + (i + 1) ≡ suc (at + i) = omega arith in
    rw (e, f, drop-cons t (at + i) 0 l)

-- writing the m upper bytes of x that are left, in bytes from `at` on

pub record BigPutting (t₀ t goal : List ℕ) (at m x : ℕ) : Type 0 where
  pub room : at + m ≤ length t
  pub same : length t ≡ length t₀
  pub is : take at t ++ (big_bytes m x ++ drop (at + m) t) ≡ goal

drop-set : (t : List ℕ) (i b : ℕ) → i < length t → drop i (set t i b) ≡ b ∷ drop (suc i) t
drop-set t i b h = rw (drop-cons (set t i b) i 0 (simp length-set h), get_or-set_same t i b 0 h, drop-set-lt (suc i) t i b (omega arith))

pub big-putting-more : {t₀ t goal : List ℕ} {at m x : ℕ} → BigPutting t₀ t goal at m x → 0 < m → BigPutting t₀ (set t (at + (m - 1)) (x % 256)) goal at (m - 1) (x / 256)
unfolding big_bytes
big-putting-more {t₀} {t} {goal} {at} {m} {x} f h =
    let k : ℕ = m - 1 in
    let n : m ≡ suc k = omega arith in
    record {
      room = simp length-set (omega (arith, f.room));
      same = simp length-set f.same;
      is = rw (take-set-le at t (at + k) _ (omega arith), drop-set t (at + k) _ (omega (arith, f.room)), ← append_snoc, ← add-suc) (rw n at f.is);
    }

pub big-putting-done : {t₀ t goal : List ℕ} {at m x : ℕ} → BigPutting t₀ t goal at m x → m ≤ 0 → t ≡ goal
unfolding big_bytes
big-putting-done {t₀} {t} {goal} {at} {m} {x} f h =
    let n : m ≡ 0 = omega arith in
    sym (take-append-drop at t) ∙ (rw (n, add-zero) at f.is)

-- the bytes of a number

pub length-big_bytes : (w v : ℕ) → length (big_bytes w v) ≡ w
unfolding big_bytes
length-big_bytes zero v = refl
length-big_bytes (suc w) v = rw (length-append, length-big_bytes w (v / 256), add-one)

pub big-append : (v : ℕ) (xs ys : List ℕ) → big_from v (xs ++ ys) ≡ big_from (big_from v xs) ys
unfolding big_from
big-append v [] ys = refl
big-append v (x ∷ xs) ys = big-append (v * 256 + x) xs ys

-- what stands before the bytes counts a power of 256
pub big-from : (v : ℕ) (t : List ℕ) → big_from v t ≡ v * 256 ^ length t + big t
unfolding big_from
big-from v [] = omega arith
big-from v (b ∷ t) =
    let p : ℕ = 256 ^ length t in
    let k : v * 256 * p ≡ v * (p * 256) = mul_assoc v 256 p ∙ ap (λ (n : ℕ). v * n) (mul_comm 256 p) in
    rw (big-from (v * 256 + b) t, big-from (0 + b) t, pow-suc 256 (length t), add-mul (v * 256) b p, zero-add) (omega (arith, k))

-- reading what was written
pub big-bytes : (w v : ℕ) → v < 256 ^ w → big (big_bytes w v) ≡ v
unfolding big_from big_bytes
big-bytes zero v h = omega arith
big-bytes (suc w) v h = rw (big-append, big-bytes w (v / 256) (omega (arith, pow-suc 256 w))) (omega arith)

-- two numbers in one
pub bytes-join : (a b hi lo : ℕ) → lo < 256 ^ b → big_bytes (a + b) (hi * 256 ^ b + lo) ≡ big_bytes a hi ++ big_bytes b lo
unfolding big_bytes
bytes-join a zero hi lo h =
    let e : hi * 1 + lo ≡ hi = omega arith in
    rw (add-zero, e) (sym (append-nil (big_bytes a hi)))
bytes-join a (suc b) hi lo h =
    let p : ℕ = 256 ^ b in
    let k : hi * (p * 256) ≡ hi * p * 256 = sym (mul_assoc hi p 256) in
    let s : 256 ^ suc b ≡ p * 256 = pow-suc 256 b in
    let q : (hi * 256 ^ suc b + lo) / 256 ≡ hi * p + lo / 256 = rw s (omega (arith, k)) in
    let r : (hi * 256 ^ suc b + lo) % 256 ≡ lo % 256 = rw s (omega (arith, k)) in
    rw (add-suc, q, r, bytes-join a b hi (lo / 256) (omega (arith, s)), append_assoc)

pub big-below : (t : List ℕ) → ((i : ℕ) → get_or t i 0 < 256) → big t < 256 ^ length t
unfolding big_from
big-below [] h = omega arith
big-below (b ∷ t) h =
    let p : ℕ = 256 ^ length t in
    let l : big t < p = big-below t (λ i. h (suc i)) in
    let k : b * p ≤ 255 * p = mul-le-mul_right p (omega (arith, h 0)) in
    rw (big-from (0 + b) t, zero-add, pow-suc 256 (length t)) (omega (arith, k))

-- writing what was read
pub bytes-big : (t : List ℕ) → ((i : ℕ) → get_or t i 0 < 256) → big_bytes (length t) (big t) ≡ t
unfolding big_from big_bytes
bytes-big [] h = refl
bytes-big (b ∷ t) h =
    let e : suc (length t) ≡ 1 + length t = omega arith in
    let z : 0 + b ≡ b = omega arith in
    let l : big t < 256 ^ length t = big-below t (λ i. h (suc i)) in
    let m : b % 256 ≡ b = omega (arith, h 0) in
    ap (λ (n : ℕ). big_bytes (suc (length t)) n) (big-from (0 + b) t ∙ ap (λ (n : ℕ). n * 256 ^ length t + big t) z)
    ∙ ap (λ (w : ℕ). big_bytes w (b * 256 ^ length t + big t)) e
    ∙ bytes-join 1 (length t) b (big t) l
    ∙ rw (bytes-big t (λ i. h (suc i)), m)
