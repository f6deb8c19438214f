-- What the writer puts into the cells of a header line is read back: decimal numbers, and -1.
-- Assumes nothing.
use Rattle.field.specs.Fields.{field_found}
use mathlib.Core.Path.{◌≡◌, refl, sym, ap, ◌∙◌}
use mathlib.Core.Bool.{Bool, true, false}
use mathlib.Core.List.{List, [], ◌∷◌, ◌++◌}
use Prim.Native.Nat.{ℕ, zero, suc, ◌+◌, ◌-◌, ◌*◌, ◌/◌, ◌%◌, ◌^◌, ◌≤◌, ◌<◌}
use native.Mathlib.Nat.{pow-suc}
use native.Mathlib.Omega.{arith}
use borrow.Author.Tests.{le-leb, ne_eqb, leb-true, ltb-true}
use lib.Dec.{eqb, leb, ltb}
use lib.ListN.{length, drop, length-append, length-replicate}
use lib.Seq.{drop-drop, drop_at, drop-append_seam, take-append_seam}
use Rattle.std.specs.Prelude.{if◌then◌else◌, Some, None}
use Rattle.lists.specs.Digits.{is_digit, all_digits, value_from, digits_up_to, decimal}
use Rattle.lists.proofs.Tests.{and-false, and-true-left, and-true-right}
use Rattle.numeral.specs.declared.Class.TheVariants.{Space, Other}
use Rattle.numeral.specs.Runs.{in_class, leading, passed}
use Rattle.numeral.specs.Numerals.{number_from, number_of, is_minus_one}
use Rattle.field.specs.Fields.{field_from, between, number_field, count_field}
use Rattle.header_text.specs.Text.{spaces}

-- decimal digits

value-append : (v : ℕ) (s t : List ℕ) → value_from v (s ++ t) ≡ value_from (value_from v s) t
value-append v [] t = refl
value-append v (b ∷ s) t = value-append (v * 10 + (b - 48)) s t

digits_append : (s t : List ℕ) → all_digits s ≡ true → all_digits t ≡ true → all_digits (s ++ t) ≡ true
digits_append [] t p q = q
digits_append (b ∷ s) t p q =
    rw (and-true-left (is_digit b) (all_digits s) p) (digits_append s t (and-true-right (is_digit b) (all_digits s) p) q)

last-digit : (n : ℕ) → all_digits ((48 + n % 10) ∷ []) ≡ true
last-digit n = rw (le-leb 48 (48 + n % 10) (omega arith), le-leb (48 + n % 10) 57 (omega arith))

pub digits-all : (k n : ℕ) → all_digits (digits_up_to k n) ≡ true
unfolding digits_up_to
digits-all zero n = refl
digits-all (suc k) n = go (ltb n 10) (digits-all k (n / 10))
  where
    go : (t : Bool) → all_digits (digits_up_to k (n / 10)) ≡ true → all_digits (if◌then◌else◌ t [] (digits_up_to k (n / 10)) ++ ((48 + n % 10) ∷ [])) ≡ true
    go true h = last-digit n
    go false h = digits_append (digits_up_to k (n / 10)) _ h (last-digit n)

pub digits_value : (k n : ℕ) → n < 10 ^ k → value_from 0 (digits_up_to k n) ≡ n
unfolding digits_up_to
digits_value zero n h = omega arith
digits_value (suc k) n h = go (ltb n 10) refl (digits_value k (n / 10))
  where
    go : (t : Bool) → ltb n 10 ≡ t → (n / 10 < 10 ^ k → value_from 0 (digits_up_to k (n / 10)) ≡ n / 10)
        → value_from 0 (if◌then◌else◌ t [] (digits_up_to k (n / 10)) ++ ((48 + n % 10) ∷ [])) ≡ n
    go true e ih = omega (arith, ltb-true n 10 e)
    go false e ih = rw (value-append, ih (omega (arith, pow-suc 10 k))) (omega arith)

digits-length : (k n : ℕ) → length (digits_up_to k n) ≤ k
unfolding digits_up_to
digits-length zero n = omega arith
digits-length (suc k) n = go (ltb n 10) (digits-length k (n / 10))
  where
    go : (t : Bool) → length (digits_up_to k (n / 10)) ≤ k → length (if◌then◌else◌ t [] (digits_up_to k (n / 10)) ++ ((48 + n % 10) ∷ [])) ≤ suc k
    go true h = omega arith
    go false h = rw length-append (omega arith)

digits-some : (k n : ℕ) → 1 ≤ length (digits_up_to (suc k) n)
unfolding digits_up_to
digits-some k n = rw length-append (omega arith)

-- a number of 32 bits is read from its digits
pub number-decimal : (n : ℕ) → n < 4294967296 → number_of (decimal n) ≡ Some n
unfolding number_of number_from
number-decimal n h =
    let v : value_from 0 (decimal n) ≡ n = digits_value 10 n (omega arith) in
    rw (le-leb 1 (length (decimal n)) (digits-some 9 n), le-leb (length (decimal n)) 10 (digits-length 10 n), digits-all 10 n, v, le-leb n 4294967295 (omega arith))

-- text without a space
abbrev pub Solid : List ℕ → Type 0
Solid [] = Unit {0}
Solid (b ∷ bs) = (b ≡ 32 → ⊥) × Solid bs

digit-solid : (b : ℕ) → is_digit b ≡ true → b ≡ 32 → ⊥
digit-solid b h e = omega (arith, leb-true 48 b (and-true-left (leb 48 b) (leb b 57) h))

pub solid-digits : (s : List ℕ) → all_digits s ≡ true → Solid s
solid-digits [] h = tt
solid-digits (b ∷ s) h = (digit-solid b (and-true-left (is_digit b) (all_digits s) h), solid-digits s (and-true-right (is_digit b) (all_digits s) h))

-- digits are not -1
not-minus : (s : List ℕ) → all_digits s ≡ true → is_minus_one s ≡ false
unfolding is_minus_one
not-minus [] h = refl
not-minus (b ∷ s) h =
    let d = leb-true 48 b (and-true-left (leb 48 b) (leb b 57) (and-true-left (is_digit b) (all_digits s) h)) in
    rw (ne_eqb b 45 (λ e. omega arith)) (and-false (eqb (length (b ∷ s)) 2))

-- runs

solid-run : (s r : List ℕ) → Solid s → leading (in_class Other) (s ++ (32 ∷ r)) ≡ length s
unfolding leading
solid-run [] r h = refl
solid-run (b ∷ s) r h = rw (ne_eqb b 32 h.0, solid-run s r h.1)

space-run : (k : ℕ) (s r : List ℕ) → Solid s → 1 ≤ length s → leading (in_class Space) (spaces k ++ (s ++ r)) ≡ k
unfolding leading
space-run zero [] r h l = absurd (omega arith)
space-run zero (b ∷ s) r h l = rw (ne_eqb b 32 h.0)
space-run (suc k) s r h l = ap suc (space-run k s r h l)

-- the field that stands behind k spaces
module _ (line : List ℕ) (at k : ℕ) (s r : List ℕ) (solid : Solid s) (some : 1 ≤ length s) (stands : drop at line ≡ spaces k ++ (s ++ (32 ∷ r))) where
  from_start : drop (at + k) line ≡ s ++ (32 ∷ r)
  from_start = sym (drop-drop k at line) ∙ ap (drop k) stands ∙ drop_at {A = ℕ} (spaces k) _ k (length-replicate k 32)

  pub from_end : drop (at + k + length s) line ≡ 32 ∷ r
  from_end = sym (drop-drop (length s) (at + k) line) ∙ ap (drop (length s)) from_start ∙ drop-append_seam s (32 ∷ r)

  field_is : field_from line at ≡ Some (field_found (at + k) (at + k + length s) (record { at = at + k + length s }))
  unfolding field_from
  field_is =
      let a : passed (in_class Space) line at ≡ at + k = ap (λ (l : List ℕ). at + leading (in_class Space) l) stands ∙ ap (λ (n : ℕ). at + n) (space-run k s (32 ∷ r) solid some) in
      let e : passed (in_class Other) line (at + k) ≡ at + k + length s =
      ap (λ (l : List ℕ). at + k + leading (in_class Other) l) from_start ∙ ap (λ (n : ℕ). at + k + n) (solid-run s r solid) in
      rw (a, e, ne_eqb (at + k) (at + k + length s) (λ q. omega arith))

  text-is : between (at + k) (at + k + length s) line ≡ s
  text-is =
      let n : at + k + length s - (at + k) ≡ length s = omega arith in
      rw (n, from_start) (take-append_seam s (32 ∷ r))

  pub number_read : (n : ℕ) → number_of s ≡ Some n → number_field line at ≡ Some (n, (record { at = at + k + length s }))
  unfolding number_field
  number_read n e = rw (field_is, text-is, e)

  pub count-read : (n : ℕ) → is_minus_one s ≡ false → number_of s ≡ Some n → count_field line at ≡ Some (Some n, record { at = at + k + length s })
  unfolding count_field
  count-read n m e = rw (field_is, text-is, m, e)

  pub minus-read : is_minus_one s ≡ true → count_field line at ≡ Some (None, record { at = at + k + length s })
  unfolding count_field
  minus-read m = rw (field_is, text-is, m)

-- the digits of a number
pub solid-decimal : (n : ℕ) → Solid (decimal n)
solid-decimal n = solid-digits (decimal n) (digits-all 10 n)

pub decimal-some : (n : ℕ) → 1 ≤ length (decimal n)
decimal-some n = digits-some 9 n

pub decimal-length : (n : ℕ) → length (decimal n) ≤ 10
decimal-length n = digits-length 10 n

pub decimal-plain : (n : ℕ) → is_minus_one (decimal n) ≡ false
decimal-plain n = not-minus (decimal n) (digits-all 10 n)
