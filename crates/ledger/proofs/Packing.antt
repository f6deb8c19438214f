-- Packing and unpacking of lines are inverse.
-- Assumes nothing.
use mathlib.Core.Path.{◌≡◌, refl, sym, ap, ◌∙◌}
use mathlib.Core.Bool.{Bool, true, false, ◌&&◌}
use mathlib.Core.List.{List, [], ◌∷◌}
use Prim.Native.Nat.{ℕ, zero, suc, ◌+◌, ◌*◌, ◌/◌, ◌%◌, ◌^◌, ◌<◌}
use native.Mathlib.Nat.{div-div-eq-div-mul, div-add-mod', mod-mod}
use native.Mathlib.Omega.{arith}
use lib.ListN.{length, get_or}
use lib.Dec.{eqb, ltb}
use borrow.Author.Tests.{eq-eqb, lt-ltb, ltb-true, eqb-true}
use Rattle.std.specs.Prelude.{if◌then◌else◌, None, Some}
use Rattle.lists.specs.Bytes.{big_from, big, big_bytes}
use Rattle.lists.proofs.BigEndian.{big-from, big-bytes, big-below, bytes-big, length-big_bytes}
use Rattle.ledger.specs.declared.Kind.{Kind}
use Rattle.ledger.specs.declared.Kind.TheVariants.{Correction, Keep, Withdrawal}
use Rattle.ledger.specs.declared.Line.{Line}
use Rattle.ledger.specs.Lines.{kind_number, kind_from, right_for, fields_of, line_from, line_of, line_number, line_bytes}
use Rattle.ledger.specs.Standing.{is_withdrawal, withdraws}
use Rattle.ledger.proofs.LineLaws.{line-right}

-- each field of a line is within its bits
pub record Sized (l : Line) : Type 0 where
  pub year : l.date.year < 2 ^ 12
  pub month : l.date.month < 2 ^ 4
  pub day : l.date.day < 2 ^ 5
  pub pixel : l.pixel < 2 ^ 24
  pub old : l.old < 2 ^ 32
  pub new : l.new < 2 ^ 32

kind-back : (k : Kind) → kind_from (kind_number k) ≡ k
unfolding kind_from
kind-back Correction = refl
kind-back Keep = refl
kind-back Withdrawal = refl

kind-there : (k : ℕ) → k < 3 → kind_number (kind_from k) ≡ k
unfolding kind_from
kind-there zero h = refl
kind-there (suc zero) h = refl
kind-there (suc (suc zero)) h = refl
kind-there (suc (suc (suc k))) h = absurd (omega arith)

kind-below : (k : Kind) → kind_number k < 3
kind-below Correction = omega arith
kind-below Keep = omega arith
kind-below Withdrawal = omega arith

-- a number as its fields

abbrev whole : (k y m d p o w : ℕ) → ℕ
whole k y m d p o w = k * 2 ^ 126 + y * 2 ^ 114 + m * 2 ^ 110 + d * 2 ^ 105 + p * 2 ^ 81 + o * 2 ^ 49 + w * 2 ^ 17

part : (n a b : ℕ) → n / a ≡ n / (a * b) * b + n / a % b
part n a b = rw (← div-div-eq-div-mul n a b) (sym (div-add-mod' (n / a) b))

joined : (n a w b o c p d r e m f y k : ℕ) → n ≡ a * 2 ^ 17 → a ≡ b * 2 ^ 32 + w → b ≡ c * 2 ^ 32 + o → c ≡ d * 2 ^ 24 + p → d ≡ e * 2 ^ 5 + r → e ≡ f * 2 ^ 4 + m → f ≡ k * 2 ^ 12 + y
    → whole k y m r p o w ≡ n
joined n a w b o c p d r e m f y k h₁ h₂ h₃ h₄ h₅ h₆ h₇ = omega arith

cut : (n : ℕ) → n % 2 ^ 17 ≡ 0 → whole (n / 2 ^ 126) (n / 2 ^ 114 % 2 ^ 12) (n / 2 ^ 110 % 2 ^ 4) (n / 2 ^ 105 % 2 ^ 5) (n / 2 ^ 81 % 2 ^ 24) (n / 2 ^ 49 % 2 ^ 32) (n / 2 ^ 17 % 2 ^ 32) ≡ n
cut n z =
    let e : n ≡ n / 2 ^ 17 * 2 ^ 17 = omega arith in
    joined n (n / 2 ^ 17) _ (n / 2 ^ 49) _ (n / 2 ^ 81) _ (n / 2 ^ 105) _ (n / 2 ^ 110) _ (n / 2 ^ 114) _ (n / 2 ^ 126)
    e (part n (2 ^ 17) (2 ^ 32)) (part n (2 ^ 49) (2 ^ 32)) (part n (2 ^ 81) (2 ^ 24)) (part n (2 ^ 105) (2 ^ 5)) (part n (2 ^ 110) (2 ^ 4)) (part n (2 ^ 114) (2 ^ 12))

-- unpacking what was packed

module _ (l : Line) (s : Sized l) where
  abbrev packed : ℕ
  packed = whole (kind_number l.kind) l.date.year l.date.month l.date.day l.pixel l.old l.new

  number-packed : line_number l ≡ packed
  unfolding line_number
  number-packed = omega arith

  field-kind : packed / 2 ^ 126 ≡ kind_number l.kind
  field-kind = omega (arith, kind-below l.kind)

  field-year : packed / 2 ^ 114 % 2 ^ 12 ≡ l.date.year
  field-year = omega (arith, kind-below l.kind)

  field-month : packed / 2 ^ 110 % 2 ^ 4 ≡ l.date.month
  field-month = omega (arith, kind-below l.kind)

  field-day : packed / 2 ^ 105 % 2 ^ 5 ≡ l.date.day
  field-day = omega (arith, kind-below l.kind)

  field-pixel : packed / 2 ^ 81 % 2 ^ 24 ≡ l.pixel
  field-pixel = omega (arith, kind-below l.kind)

  field-old : packed / 2 ^ 49 % 2 ^ 32 ≡ l.old
  field-old = omega (arith, kind-below l.kind)

  field-new : packed / 2 ^ 17 % 2 ^ 32 ≡ l.new
  field-new = omega (arith, kind-below l.kind)

  pub fields-number : fields_of (line_number l) ≡ l
  unfolding fields_of
  fields-number = rw (number-packed, field-kind, field-year, field-month, field-day, field-pixel, field-old, field-new, kind-back)

  pub number_small : line_number l < 256 ^ 16
  number_small = rw number-packed (omega (arith, kind-below l.kind))

  pub line-of-bytes : right_for l.kind l ≡ true → line_of (line_bytes l) ≡ Some l
  unfolding line_of line_bytes
  line-of-bytes r =
      let n : ℕ = line_number l in
      let small : n / 2 ^ 126 < 3 = rw (number-packed, field-kind) (kind-below l.kind) in
      let z : n % 2 ^ 17 ≡ 0 = rw number-packed (omega arith) in
      rw (eq-eqb _ 16 (length-big_bytes 16 n), big-bytes 16 n number_small)
      (sym (line-right n l (sym fields-number) (lt-ltb _ _ small) (eq-eqb _ 0 z) r))

-- packing what was unpacked

pub number-fields : (n : ℕ) → n / 2 ^ 126 < 3 → n % 2 ^ 17 ≡ 0 → line_number (fields_of n) ≡ n
unfolding line_number fields_of
number-fields n k z =
    rw (kind-there (n / 2 ^ 126) k, mod-mod (n / 2 ^ 114) (2 ^ 12), mod-mod (n / 2 ^ 110) (2 ^ 4), mod-mod (n / 2 ^ 105) (2 ^ 5), mod-mod (n / 2 ^ 81) (2 ^ 24), mod-mod (n / 2 ^ 49) (2 ^ 32), mod-mod (n / 2 ^ 17) (2 ^ 32))
    (cut n z)

-- what a well-formed line is read from

pub record Read (n : ℕ) (l : Line) : Type 0 where
  pub kind : n / 2 ^ 126 < 3
  pub spare : n % 2 ^ 17 ≡ 0
  pub is : l ≡ fields_of n
  pub right : right_for l.kind l ≡ true

line-tests : (n : ℕ)
    → line_from n ≡ if◌then◌else◌ (ltb (n / 2 ^ 126) 3 && (eqb (n % 2 ^ 17) 0 && right_for (fields_of n).kind (fields_of n))) (Some (fields_of n)) None
unfolding line_from
line-tests n = refl

pub line_read : (n : ℕ) (l : Line) → line_from n ≡ Some l → Read n l
line_read n l e = go _ refl _ refl _ refl (sym (line-tests n) ∙ e)
  where
    go : (a : Bool) → ltb (n / 2 ^ 126) 3 ≡ a → (b : Bool) → eqb (n % 2 ^ 17) 0 ≡ b → (r : Bool) → right_for (fields_of n).kind (fields_of n) ≡ r
        → if◌then◌else◌ (a && (b && r)) (Some (fields_of n)) None ≡ Some l → Read n l
    go true p true q true s w =
        let i : l ≡ fields_of n = cc in
        record { kind = ltb-true _ _ p; spare = eqb-true _ _ q; is = i; right = rw i s }
    go true p true q false s w = let z : ◌≡◌ {A = ℕ} 0 1 = cc in absurd (omega arith)
    go true p false q r s w = let z : ◌≡◌ {A = ℕ} 0 1 = cc in absurd (omega arith)
    go false p b q r s w = let z : ◌≡◌ {A = ℕ} 0 1 = cc in absurd (omega arith)

pub bytes-of-line : (t : List ℕ) (l : Line) → length t ≡ 16 → ((i : ℕ) → get_or t i 0 < 256) → line_of t ≡ Some l → line_bytes l ≡ t
unfolding line_of line_bytes
bytes-of-line t l h b e =
    let r = line_read (big t) l (rw (eq-eqb (length t) 16 h) at e) in
    ap (λ (x : Line). big_bytes 16 (line_number x)) r.is
    ∙ ap (big_bytes 16) (number-fields (big t) r.kind r.spare)
    ∙ ap (λ (n : ℕ). big_bytes n (big t)) (sym h)
    ∙ bytes-big t b

-- a withdrawal is known by the first byte

kind-two : (k : ℕ) → k < 3 → is_withdrawal (kind_from k) ≡ eqb k 2
unfolding kind_from
kind-two zero h = refl
kind-two (suc zero) h = refl
kind-two (suc (suc zero)) h = refl
kind-two (suc (suc (suc k))) h = absurd (omega arith)

first_byte : (b : ℕ) (r : List ℕ) → length r ≡ 15 → ((i : ℕ) → get_or r i 0 < 256) → big (b ∷ r) / 2 ^ 126 ≡ b / 64
unfolding big_from
first_byte b r h small =
    let k : big r < 256 ^ 15 = rw h at (big-below r small) in
    let e : big (b ∷ r) ≡ b * 256 ^ 15 + big r = big-from (0 * 256 + b) r ∙ rw h (omega arith) in
    rw e (omega arith)

pub kind-byte : (t : List ℕ) (l : Line) → length t ≡ 16 → ((i : ℕ) → get_or t i 0 < 256) → line_of t ≡ Some l → withdraws l ≡ eqb (get_or t 0 0 / 64) 2
unfolding line_of fields_of
kind-byte [] l h small e = absurd (omega arith)
kind-byte (b ∷ r) l h small e =
    let q = line_read (big (b ∷ r)) l (rw (eq-eqb (length (b ∷ r)) 16 h) at e) in
    rw q.is (kind-two (big (b ∷ r) / 2 ^ 126) q.kind ∙ rw (first_byte b r (omega arith) (λ i. small (suc i))))
