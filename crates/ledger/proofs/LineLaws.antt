-- Lines in bytes, and a line's number.
-- Assumes nothing.
use mathlib.Core.Path.{◌≡◌, refl, sym, ap, ◌∙◌}
use mathlib.Core.Bool.{Bool, true, false, ◌&&◌}
use mathlib.Core.List.{List, [], ◌∷◌, ◌++◌}
use Prim.Native.Nat.{ℕ, zero, suc, ◌+◌, ◌-◌, ◌*◌, ◌/◌, ◌%◌, ◌^◌, ◌≤◌, ◌<◌}
use native.Mathlib.Nat.{div-div-eq-div-mul, pow-suc, zero-add, mul_assoc, mul_comm, add-mul}
use native.Mathlib.Omega.{arith}
use lib.ListN.{length, take, drop, get_or, length-take, length-drop}
use lib.Seq.{length-take-le, take_all, take-suc, drop-drop, get_or-take}
use lib.Dec.{eqb, ltb}
use borrow.Author.Tests.{eq-eqb, ne_eqb}
use Rattle.std.specs.Prelude.{if◌then◌else◌, None, Some}
use Rattle.std.specs.Bool.{then_some}
use Rattle.std.specs.Simd.{first_chunks}
use Rattle.std.specs.Int.{w128, from_be_bytes, to_be_bytes, sum_through, byte_worth, byte_at, bytes_high_first}
use Rattle.std.specs.List.{slice_index, slice_range}
use Rattle.lists.specs.Bytes.{big_from, big, big_bytes}
use Rattle.lists.proofs.BigEndian.{big-append}
use Rattle.ledger.specs.declared.Line.{Line}
use Rattle.ledger.specs.Lines.{kind_from, right_for, is_line, fields_of, line_from, line_of, line_bytes, bytes_at}
use Rattle.ledger.specs.Ledger.{with_line}
use borrow.Rule.Slice.PartMut.{put_mid}

-- a number in its 16 bytes, as std has it

worth : (k b : ℕ) → byte_worth k b ≡ b * 256 ^ k
worth zero b = omega arith
worth (suc k) b = refl

big-next : (t : List ℕ) (j : ℕ) → j < length t → big (take (suc j) t) ≡ big (take j t) * 256 + get_or t j 0
unfolding big_from
big-next t j h = rw (take-suc t j 0 h) (big-append 0 (take j t) (get_or t j 0 ∷ []))

highest-first : (n : ℕ) (t : List ℕ) (j : ℕ) → j ≤ n → j < length t
    → sum_through (λ (i : ℕ). byte_worth (n - i) (slice_index t i)) j ≡ big (take (suc j) t) * 256 ^ (n - j)
unfolding big_from
highest-first n t zero h l = rw (worth (n - 0) (get_or t 0 0), big-next t 0 l, zero-add)
highest-first n t (suc j) h l =
    let p : ℕ = 256 ^ (n - suc j) in
    let v : ℕ = big (take (suc j) t) in
    let e : n - j ≡ suc (n - suc j) = omega arith in
    let q : 256 ^ (n - j) ≡ p * 256 = ap (λ (k : ℕ). 256 ^ k) e ∙ pow-suc 256 (n - suc j) in
    let k : v * 256 * p ≡ v * (p * 256) = mul_assoc v 256 p ∙ ap (λ (x : ℕ). v * x) (mul_comm 256 p) in
    rw (highest-first n t j (omega arith) (omega arith), worth (n - suc j) (get_or t (suc j) 0), big-next t (suc j) l, q, add-mul (v * 256) (get_or t (suc j) 0) p, k)

pub number-read : (t : List ℕ) → length t ≡ 16 → from_be_bytes w128 t ≡ big t
number-read t e =
    let one : big (take 16 t) * 1 ≡ big (take 16 t) = omega arith in
    highest-first 15 t 15 (omega arith) (omega arith) ∙ one ∙ ap big (take_all 16 t (omega arith))

byte-over : (k n : ℕ) → byte_at k (n / 256) ≡ byte_at (suc k) n
byte-over zero n = refl
byte-over (suc k) n =
    let e : 256 * 256 ^ suc k ≡ 256 ^ suc (suc k) = mul_comm 256 (256 ^ suc k) ∙ sym (pow-suc 256 (suc k)) in
    ap (λ (m : ℕ). m % 256) (div-div-eq-div-mul n 256 (256 ^ suc k) ∙ ap (λ (m : ℕ). n / m) e)

highest-more : (k n : ℕ) → byte_at k n ∷ big_bytes k n ≡ big_bytes (suc k) n
unfolding big_bytes
highest-more zero n = refl
highest-more (suc k) n =
    ap (λ (bs : List ℕ). bs ++ (n % 256 ∷ [])) (ap (λ (b : ℕ). b ∷ big_bytes k (n / 256)) (sym (byte-over k n)) ∙ highest-more k (n / 256))

highest-bytes : (k n : ℕ) → bytes_high_first k n ≡ big_bytes k n
unfolding big_bytes
highest-bytes zero n = refl
highest-bytes (suc k) n = ap (λ (bs : List ℕ). byte_at k n ∷ bs) (highest-bytes k n) ∙ highest-more k n

pub number-bytes : (n : ℕ) → to_be_bytes w128 n ≡ big_bytes 16 n
number-bytes n = highest-bytes 16 n

-- the bytes of a line among those of all

pub chunk-is : (k i : ℕ) (t : List ℕ) → i < k → get_or (first_chunks 16 k t) i [] ≡ bytes_at t i
chunk-is zero i t h = absurd (omega arith)
chunk-is (suc k) zero t h = refl
chunk-is (suc k) (suc i) t h =
    let e : 16 + i * 16 ≡ suc i * 16 = omega arith in
    chunk-is k i (drop 16 t) (omega arith) ∙ ap (take 16) (drop-drop (i * 16) 16 t ∙ ap (λ (n : ℕ). drop n t) e)

module _ (t : List ℕ) (index : ℕ) where
  pub length-line-bytes : index < length t / 16 → length (bytes_at t index) ≡ 16
  length-line-bytes h = length-take-le 16 (drop (index * 16) t) (rw length-drop (omega arith))

  pub line-whole : index < length t / 16 → line_of (bytes_at t index) ≡ line_from (big (bytes_at t index))
  unfolding line_of
  line-whole h = rw (eq-eqb _ 16 (length-line-bytes h))

  pub line-short : length t / 16 ≤ index → line_of (bytes_at t index) ≡ None
  unfolding line_of
  line-short h =
      let l : length (bytes_at t index) ≡ 16 → ⊥ = λ e. omega (arith, length-take 16 (drop (index * 16) t), length-drop (index * 16) t) in
      rw (ne_eqb (length (bytes_at t index)) 16 l)

-- a line among the first n, from the number in its bytes
pub held-line : (t : List ℕ) (n j m : ℕ) (chunks held : List (List ℕ)) → chunks ≡ first_chunks 16 (length t / 16) t → held ≡ slice_range chunks 0 n
    → n ≤ length t / 16 → j < n → m ≡ from_be_bytes w128 (get_or held j []) → line_of (bytes_at t j) ≡ line_from m
held-line t n j m chunks held c h l k e =
    let z : n - 0 ≡ n = omega arith in
    let b : get_or held j [] ≡ bytes_at t j = rw (h, z, get_or-take n chunks j [] k, c) (chunk-is (length t / 16) j t (omega arith)) in
    line-whole t j (omega arith) ∙ ap line_from (sym (e ∙ rw b (number-read (bytes_at t j) (length-line-bytes t j (omega arith)))))

-- a line written among the bytes of all
pub line-put : (t bs : List ℕ) (index : ℕ) (l : Line) → bs ≡ line_bytes l → put_mid (index * 16) (index * 16 + 16 - index * 16) t bs ≡ with_line t index l
unfolding with_line
line-put t bs index l e =
    let n : index * 16 + 16 - index * 16 ≡ 16 = omega arith in
    rw (e, n, drop-drop 16 (index * 16) t)

-- whether a number of a listed kind, with no spare bit, is a line
module _ (n : ℕ) (l : Line) (e : l ≡ fields_of n) (k : ltb (n / 2 ^ 126) 3 ≡ true) (s : eqb (n % 2 ^ 17) 0 ≡ true) where
  chosen : (t : Bool) → right_for (fields_of n).kind (fields_of n) ≡ t → line_from n ≡ if◌then◌else◌ t (Some (fields_of n)) None
  unfolding line_from
  chosen t h = rw (k, s, h)

  pub line-right : right_for l.kind l ≡ true → Some l ≡ line_from n
  line-right h = ap Some e ∙ sym (chosen true (rw e at h))

  pub line-wrong : right_for l.kind l ≡ false → None ≡ line_from n
  line-wrong h = sym (chosen false (rw e at h))

-- a number with nothing above a correction's bits, and that of a withdrawal
module _ (n : ℕ) (l : Line) (e : l ≡ fields_of n) where
  pub correction-number : n < 2 ^ 105 → then_some (eqb (n % 2 ^ 17) 0) l ≡ line_from n
  unfolding line_from is_line fields_of right_for kind_from
  correction-number h =
      let k : n / 2 ^ 126 ≡ 0 = omega arith in
      let y : n / 2 ^ 114 ≡ 0 = omega arith in
      let m : n / 2 ^ 110 ≡ 0 = omega arith in
      let d : n / 2 ^ 105 ≡ 0 = omega arith in
      rw (e, k, y, m, d) (go (eqb (n % 2 ^ 17) 0) _)
    where
      go : (b : Bool) (x : Line) → then_some b x ≡ if◌then◌else◌ (b && true) (Some x) None
      go true x = refl
      go false x = refl

  pub withdrawal-number : n ≡ 2 ^ 127 → Some l ≡ line_from n
  unfolding line_from is_line fields_of right_for kind_from
  withdrawal-number h = rw (e, h)
