-- Laws of an entry's characters.
-- Assumes nothing.
use mathlib.Core.Path.{◌≡◌, refl, sym, ap, ◌∙◌}
use mathlib.Core.Bool.{Bool, true, false, not, ◌&&◌}
use mathlib.Core.List.{List, [], ◌∷◌}
use mathlib.Core.Logic.{inl, inr}
use Prim.Native.Nat.{ℕ, zero, suc, ◌+◌, ◌-◌, ◌*◌, ◌^◌, ◌≤◌, ◌<◌}
use native.Mathlib.Nat.{add-zero, pow-suc, pow-le-pow_right, le_of_suc-le-suc, not-suc-le-zero}
use native.Mathlib.Numerals.{add-one}
use native.Mathlib.Omega.{arith}
use lib.ListN.{length, get_or, take, drop, length-take, drop_of_length-le}
use lib.Seq.{drop-cons, drop-drop, take-take}
use lib.Dec.{eqb, leb, ltb}
use borrow.Author.Tests.{le-leb, lt-leb, lt-ltb, ltb-false, leb-true}
use Rattle.std.specs.Prelude.{if◌then◌else◌, None, Option, Some, ℕ}
use Rattle.std.specs.List.{position, position_or_len}
use Rattle.std.specs.Char.{IsNotAsciiDigit}
use Rattle.lists.specs.Digits.{is_digit, all_digits, value_from}
use Rattle.lists.proofs.Tests.{and-false, and-true-left, and-true-right}
use Rattle.lists.proofs.Parts.{drop-take}
use Rattle.overflow86.specs.Entries.{after_spaces, digits_number, text_number, entry_from, entry_of, text_entries}
use Rattle.marks.specs.Marks.{intensity_of}

-- what follows the spaces, where the first other character was looked for
space-drop : (t : List ℕ) → drop (position_or_len (λ b. not (eqb b 32)) t) t ≡ after_spaces t
unfolding after_spaces
space-drop [] = refl
space-drop (b ∷ t) = go (eqb b 32) refl (space-drop t)
  where
    go : (c : Bool) → eqb b 32 ≡ c → drop (position_or_len (λ b. not (eqb b 32)) t) t ≡ after_spaces t → drop (position_or_len (λ b. not (eqb b 32)) (b ∷ t)) (b ∷ t) ≡ after_spaces (b ∷ t)
    go true e ih =
        let s : 1 + position_or_len (λ b. not (eqb b 32)) t ≡ suc (position_or_len (λ b. not (eqb b 32)) t) = omega arith in
        rw (e, s) ih
    go false e ih = rw e

pub space-stop : (t : List ℕ) (k : ℕ) → position (λ b. not (eqb b 32)) t ≡ Some k → drop k t ≡ after_spaces t
space-stop t k h = go (ltb (position_or_len (λ b. not (eqb b 32)) t) (length t)) refl
  where
    go : (c : Bool) → ltb (position_or_len (λ b. not (eqb b 32)) t) (length t) ≡ c → drop k t ≡ after_spaces t
    go true q = let e : Some (position_or_len (λ b. not (eqb b 32)) t) ≡ Some k = rw q at h in let n : k ≡ position_or_len (λ b. not (eqb b 32)) t = cc in rw n (space-drop t)
    go false q = let e : None ≡ Some k = rw q at h in absurd (cc)

pub space-end : (t : List ℕ) → position (λ b. not (eqb b 32)) t ≡ None → after_spaces t ≡ []
space-end t h = go (ltb (position_or_len (λ b. not (eqb b 32)) t) (length t)) refl
  where
    go : (c : Bool) → ltb (position_or_len (λ b. not (eqb b 32)) t) (length t) ≡ c → after_spaces t ≡ []
    go true q = let e : Some (position_or_len (λ b. not (eqb b 32)) t) ≡ None = rw q at h in absurd (cc)
    go false q = sym (space-drop t) ∙ drop_of_length-le t (ltb-false _ _ q)

-- digits to the end of t, after digits of the value v
unfoldable pub digits_from : ℕ → List ℕ → Option ℕ
digits_from v t = if all_digits t then Some (value_from v t) else None

ten-le : (i j : ℕ) → i ≤ j → 10 ^ i ≤ 10 ^ j
ten-le i j h = pow-le-pow_right {n = 10} (omega arith) h

-- ten times the value and a digit have a digit more
grow : (v d n : ℕ) → v < 10 ^ n → d ≤ 9 → v * 10 + d < 10 ^ suc n
grow v d n h k = omega (arith, pow-suc 10 n)

-- one law for each way through the loop over the digits
module _ (t : List ℕ) (v i : ℕ) where
  pub digit-not : i < length t → IsNotAsciiDigit (get_or t i 0) → digits_from v (drop i t) ≡ None
  unfolding digits_from
  digit-not h l = rw (drop-cons t i 0 h) (elim l [ inl k ↦ rw (lt-leb 48 (get_or t i 0) k) | inr k ↦ rw (lt-leb (get_or t i 0) 57 k, and-false (leb 48 (get_or t i 0))) ])

  pub digit-on : i < length t → 48 ≤ get_or t i 0 → get_or t i 0 ≤ 57 → digits_from (v * 10 + (get_or t i 0 - 48)) (drop (i + 1) t) ≡ digits_from v (drop i t)
  unfolding digits_from
  digit-on h l u = rw (add-one, drop-cons t i 0 h, le-leb 48 (get_or t i 0) l, le-leb (get_or t i 0) 57 u)

  pub digit-end : length t ≤ i → Some v ≡ digits_from v (drop i t)
  unfolding digits_from
  digit-end h = rw (drop_of_length-le t h)

pub digits-start : (t : List ℕ) → 0 < length t → digits_from 0 t ≡ digits_number t
unfolding digits_from digits_number
digits-start t h = rw (lt-ltb 0 (length t) h)

pub digits-none : (t : List ℕ) → length t ≡ 0 → None ≡ digits_number t
unfolding digits_number
digits-none t h = rw h

-- what the loop over the digits keeps
pub record Gathering (t : List ℕ) (v i : ℕ) : Type 0 where
  pub small : v < 10 ^ i
  pub is : digits_from v (drop i t) ≡ digits_number t

pub gathering-start : (t : List ℕ) → 0 < length t → Gathering t 0 0
gathering-start t h = record { small = omega arith; is = digits-start t h }

module _ {t : List ℕ} {v i : ℕ} (f : Gathering t v i) (short : length t ≤ 9) (h : i < length t) where
  pub gathering-small : v < 100000000
  gathering-small = omega (arith, f.small, ten-le i 8 (omega arith))

  pub gathering-on : 48 ≤ get_or t i 0 → get_or t i 0 ≤ 57 → Gathering t (v * 10 + (get_or t i 0 - 48)) (i + 1)
  gathering-on l u = record {
    small = rw add-one (grow v (get_or t i 0 - 48) i f.small (omega arith));
    is = digit-on t v i h l u ∙ f.is;
  }

-- digits after digits of a value below 10 ^ n
value-below : (t : List ℕ) (v n : ℕ) → all_digits t ≡ true → v < 10 ^ n → value_from v t < 10 ^ (n + length t)
value-below [] v n e h = rw (add-zero n) h
value-below (b ∷ bs) v n e h =
    let d : b ≤ 57 = leb-true b 57 (and-true-right (leb 48 b) (leb b 57) (and-true-left (is_digit b) (all_digits bs) e)) in
    let m : n + length (b ∷ bs) ≡ suc n + length bs = omega arith in
    rw m (value-below bs (v * 10 + (b - 48)) (suc n) (and-true-right (is_digit b) (all_digits bs) e) (grow v (b - 48) n h (omega arith)))

digits-below : (t : List ℕ) (v : ℕ) → digits_number t ≡ Some v → v < 10 ^ length t
unfolding digits_number
digits-below t v p = go (ltb 0 (length t) && all_digits t) refl p
  where
    go : (b : Bool) → (ltb 0 (length t) && all_digits t) ≡ b → if◌then◌else◌ b (Some (value_from 0 t)) None ≡ Some v → v < 10 ^ length t
    go true q r =
        let e : v ≡ value_from 0 t = cc in
        let z : 0 + length t ≡ length t = omega arith in
        rw (e, ← z) (value-below t 0 0 (and-true-right (ltb 0 (length t)) (all_digits t) q) (omega arith))
    go false q r = absurd (let z : ◌≡◌ {A = ℕ} 0 1 = cc in omega arith)

spaces-shorten : (t : List ℕ) → length (after_spaces t) ≤ length t
unfolding after_spaces
spaces-shorten [] = omega arith
spaces-shorten (b ∷ bs) = go (eqb b 32) refl (spaces-shorten bs)
  where
    go : (c : Bool) → eqb b 32 ≡ c → length (after_spaces bs) ≤ length bs → length (after_spaces (b ∷ bs)) ≤ length (b ∷ bs)
    go true e ih = rw e (omega arith)
    go false e ih = rw e (omega arith)

-- nine characters give a number below 10 ^ 9
pub number-below : (t : List ℕ) (v : ℕ) → length t ≤ 9 → text_number t ≡ Some v → v < 1000000000
unfolding text_number
number-below t v h p =
    let l : length (after_spaces t) ≤ 9 = omega (arith, spaces-shorten t) in
    omega (arith, digits-below (after_spaces t) v p, ten-le (length (after_spaces t)) 9 l)

from-small : (a b : Option ℕ) → ((v : ℕ) → a ≡ Some v → v < 1000000000) → intensity_of (entry_from a b) < 1000000000
from-small (Some v) (Some p) h = h v refl
from-small (Some v) None h = omega arith
from-small None b h = omega arith

-- so an entry's intensity is never what a waiting pixel holds
pub entry-small : (t : List ℕ) → intensity_of (entry_of t) < 1000000000
unfolding entry_of
entry-small t = from-small (text_number (take 9 t)) (text_number (take 7 (drop 9 t))) (λ v e. number-below (take 9 t) v (simp length-take (omega arith)) e)

pub entries-length : (n : ℕ) (t : List ℕ) → length (text_entries n t) ≡ n
unfolding text_entries
entries-length zero t = refl
entries-length (suc n) t = ap suc (entries-length n (drop 16 t))

pub entries_at : (n : ℕ) (t : List ℕ) (k : ℕ) → k < n → get_or (text_entries n t) k None ≡ entry_of (drop (k * 16) t)
unfolding text_entries
entries_at zero t k h = absurd (not-suc-le-zero h)
entries_at (suc n) t zero h = refl
entries_at (suc n) t (suc k) h =
    let e : 16 + k * 16 ≡ suc k * 16 = omega arith in
    entries_at n (drop 16 t) k (le_of_suc-le-suc h) ∙ ap entry_of (drop-drop (k * 16) 16 t ∙ ap (λ (i : ℕ). drop i t) e)

-- an entry by its two parts
pub entry-parts : (t : List ℕ) (at : ℕ) → entry_of (drop at t) ≡ entry_from (text_number (take (at + 9 - at) (drop at t))) (text_number (take (at + 16 - (at + 9)) (drop (at + 9) t)))
unfolding entry_of
entry-parts t at =
    let n : at + 9 - at ≡ 9 = omega arith in
    let m : at + 16 - (at + 9) ≡ 7 = omega arith in
    rw (n, m, drop-drop)

-- characters past the entries do not count
entry-take : (m : ℕ) (t : List ℕ) → 16 ≤ m → entry_of (take m t) ≡ entry_of t
unfolding entry_of
entry-take m t h = rw (take-take 9 m t (omega arith), drop-take 9 m t, take-take 7 (m - 9) (drop 9 t) (omega arith))

pub entries-take : (n m : ℕ) (t : List ℕ) → n * 16 ≤ m → text_entries n (take m t) ≡ text_entries n t
unfolding text_entries
entries-take zero m t h = refl
entries-take (suc n) m t h =
    let k : suc n * 16 ≡ n * 16 + 16 = omega arith in
    rw (entry-take m t (omega arith), drop-take 16 m t, entries-take n (m - 16) (drop 16 t) (omega arith))
