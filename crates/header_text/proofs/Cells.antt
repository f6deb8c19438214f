-- Numbers as digits in cells of 24 characters, and the header's two lines.
-- Assumes nothing.
use mathlib.Core.Path.{◌≡◌, refl, ap, ◌∙◌}
use mathlib.Core.Bool.{Bool, true, false}
use mathlib.Core.List.{List, [], ◌∷◌, ◌++◌, append_assoc, append-nil}
use Prim.Native.Nat.{ℕ, zero, suc, ◌+◌, ◌*◌, ◌-◌, ◌/◌, ◌%◌, ◌≤◌, ◌<◌}
use native.Mathlib.Numerals.{add-one}
use native.Mathlib.Omega.{arith}
use lib.ListN.{length, drop, set, length-append, length-drop, length-replicate, drop_of_length-le}
use lib.Seq.{drop-cons, drop-drop, set-append_seam, append_snoc, take_at, drop_at}
use lib.Dec.{ltb}
use borrow.Author.Tests.{lt-ltb, le-ltb}
use Rattle.std.specs.Prelude.{if◌then◌else◌}
use Rattle.lists.specs.Digits.{digits_up_to, decimal}
use Rattle.layout.specs.declared.Underflow.{Underflow}
use Rattle.layout.specs.declared.Underflow.TheVariants as U
use borrow.Rule.Slice.PartMut.{put_mid}
use Rattle.layout.specs.declared.Form.{Form}
use Rattle.layout.specs.Form.{width_bytes, underflow_bytes}
use Rattle.header_lines.specs.declared.LineId.{LineId}
use Rattle.header_lines.specs.declared.LineId.TheVariants as I
use Rattle.header_lines.specs.Lines.{position_of, line_of}
use Rattle.header_text.specs.Text.{spaces, cell, underflow_text, npixelb_data, with_data, counts_data}
use Rattle.header_text.specs.declared.Counts.{Counts}

pub digits_le : (k n : ℕ) → length (digits_up_to k n) ≤ k
unfolding digits_up_to
digits_le zero n = omega arith
digits_le (suc k) n = go (ltb n 10) (digits_le k (n / 10))
  where
    go : (t : Bool) → length (digits_up_to k (n / 10)) ≤ k → length (if◌then◌else◌ t [] (digits_up_to k (n / 10)) ++ ((48 + n % 10) ∷ [])) ≤ suc k
    go true h = omega arith
    go false h = rw length-append (omega arith)

-- the digits that a call writes
abbrev pub Digits : ℕ → ℕ → List ℕ → ℕ → List ℕ → Type 0
Digits n k out r out' = (r ≡ length (digits_up_to k n)) × (out' ≡ digits_up_to k n ++ drop (length (digits_up_to k n)) out)

pub digits-none : (n k : ℕ) (out : List ℕ) → k ≡ 0 → Digits n k out 0 out
unfolding digits_up_to
digits-none n k out e = rw e (refl, refl)

pub digits_last : (n k : ℕ) (out : List ℕ) → (k ≡ 0 → ⊥) → n < 10 → k ≤ length out → Digits n k out 1 (set out 0 (48 + n % 10))
unfolding digits_up_to
digits_last n k out z h l =
    let e : k ≡ suc (k - 1) = omega arith in
    rw (e, lt-ltb n 10 h) (refl, first out (48 + n % 10) (omega arith))
  where
    first : (l : List ℕ) (v : ℕ) → 0 < length l → set l 0 v ≡ v ∷ drop 1 l
    first [] v h = absurd (omega arith)
    first (x ∷ l) v h = refl

set-behind : (d out : List ℕ) (v : ℕ) → length d < length out → set (d ++ drop (length d) out) (length d) v ≡ (d ++ (v ∷ [])) ++ drop (length d + 1) out
set-behind d out v h = rw (drop-cons out (length d) 0 h, set-append_seam d, append_snoc d v, add-one)

pub digits_more : (n k r : ℕ) (out out₁ : List ℕ) → (k ≡ 0 → ⊥) → 10 ≤ n → k ≤ length out → Digits (n / 10) (k - 1) out r out₁ → Digits n k out (r + 1) (set out₁ r (48 + n % 10))
unfolding digits_up_to
digits_more n k r out out₁ z h l d =
    let e : k ≡ suc (k - 1) = omega arith in
    let s = digits_le (k - 1) (n / 10) in
    let ds = digits_up_to (k - 1) (n / 10) in
    let q : set out₁ r (48 + n % 10) ≡ (ds ++ ((48 + n % 10) ∷ [])) ++ drop (length ds + 1) out
    = rw (d.0, d.1) (set-behind ds out (48 + n % 10) (omega arith)) in
    rw (e, le-ltb n 10 h, length-append) (rw d.0 refl, q)

pub digits-room : (n k r : ℕ) (out out₁ : List ℕ) → (k ≡ 0 → ⊥) → k ≤ length out → Digits (n / 10) (k - 1) out r out₁ → r < length out₁
digits-room n k r out out₁ z l d =
    let s = digits_le (k - 1) (n / 10) in
    rw (d.1, length-append, length-drop) (omega (arith, d.0))

pub drop_spaces : (k n : ℕ) → drop k (spaces n) ≡ spaces (n - k)
drop_spaces zero n = let e : n - 0 ≡ n = omega arith in rw e
drop_spaces (suc k) zero = let e : 0 - suc k ≡ 0 = omega arith in rw e
drop_spaces (suc k) (suc n) = let e : suc n - suc k ≡ n - k = omega arith in rw e (drop_spaces k n)

pub length-cell : (text : List ℕ) → length text ≤ 24 → length (cell text) ≡ 24
unfolding cell
length-cell text h = rw (length-append, length-replicate) (omega arith)

pub text-le : (u : Underflow) (n : ℕ) → length (underflow_text u n) ≤ 24
text-le U.None n = omega arith
text-le (U.Subtracted e) n = omega (arith, digits_le 10 n)

pub decimal-le : (n : ℕ) → length (decimal n) ≤ 24
decimal-le n = omega (arith, digits_le 10 n)

-- three cells in 72 places
pub three-cells : (out a b c : List ℕ) → length out ≡ 72 → length a ≡ 24 → length b ≡ 24 → put_mid 48 24 (put_mid 24 24 (a ++ drop 24 out) b) c ≡ a ++ (b ++ c)
three-cells out a b c lo la lb =
    let e : List ℕ = drop 24 (drop 24 out) in
    let one : put_mid 24 24 (a ++ drop 24 out) b ≡ (a ++ b) ++ e = rw (take_at a (drop 24 out) 24 la, drop_at a (drop 24 out) 24 la, append_assoc) in
    let l : length (a ++ b) ≡ 48 = rw (length-append, la, lb) in
    let z : drop 24 e ≡ [] = drop_of_length-le e {i = 24} (simp length-drop (omega arith)) in
    rw (one, take_at (a ++ b) e 48 l, drop_at (a ++ b) e 48 l, z, append-nil, append_assoc)

pub counts-data : (u : Underflow) (k : Counts) (out a b c : List ℕ) → length out ≡ 72 → a ≡ cell (underflow_text u k.under) → b ≡ cell (decimal k.two) → c ≡ cell (decimal k.four)
    → put_mid 48 24 (put_mid 24 24 (a ++ drop 24 out) b) c ≡ counts_data u k
unfolding counts_data
counts-data u k out a b c lo ea eb ec =
    three-cells out a b c lo (ap length ea ∙ length-cell (underflow_text u k.under) (text-le u k.under)) (ap length eb ∙ length-cell (decimal k.two) (decimal-le k.two))
    ∙ rw (ea, eb, ec)

pub widths-data : (form : Form) (out a b : List ℕ) → out ≡ spaces 72 → a ≡ cell (decimal (width_bytes form.width)) → b ≡ cell (decimal (underflow_bytes form.underflow))
    → put_mid 24 24 (a ++ drop 24 out) b ≡ npixelb_data form
unfolding npixelb_data
widths-data form out a b eo ea eb =
    let la : length a ≡ 24 = ap length ea ∙ length-cell (decimal (width_bytes form.width)) (decimal-le (width_bytes form.width)) in
    rw (eo, take_at a (drop 24 (spaces 72)) 24 la, drop_at a (drop 24 (spaces 72)) 24 la) (λ i. ea i ++ (eb i ++ spaces 24))

-- a line's data put in place
pub line-put : (id : LineId) (at e : ℕ) (text header ys : List ℕ) → at ≡ position_of id * 80 + 8 → e ≡ at + 72 → ys ≡ text → put_mid at (e - at) header ys ≡ with_data id text header
unfolding with_data
line-put id at e text header ys ea ee ey =
    let n : e - at ≡ 72 = omega arith in
    let m : position_of id * 80 + 8 + 72 ≡ position_of id * 80 + 80 = omega arith in
    rw (n, ey, ea, drop-drop, m)

pub noverfl-is : position_of I.Noverfl ≡ 20
unfolding line_of
noverfl-is = refl

pub npixelb-is : position_of I.Npixelb ≡ 39
unfolding line_of
npixelb-is = refl

three-length : (a b c : List ℕ) → length a ≡ 24 → length b ≡ 24 → length c ≡ 24 → length (a ++ (b ++ c)) ≡ 72
three-length a b c p q r = rw (length-append, length-append, p, q, r)

pub length-counts : (u : Underflow) (k : Counts) → length (counts_data u k) ≡ 72
unfolding counts_data
length-counts u k =
    three-length (cell (underflow_text u k.under)) (cell (decimal k.two)) (cell (decimal k.four))
    (length-cell (underflow_text u k.under) (text-le u k.under))
    (length-cell (decimal k.two) (decimal-le k.two))
    (length-cell (decimal k.four) (decimal-le k.four))

pub length-npixelb : (form : Form) → length (npixelb_data form) ≡ 72
unfolding npixelb_data
length-npixelb form =
    three-length (cell (decimal (width_bytes form.width))) (cell (decimal (underflow_bytes form.underflow))) (spaces 24)
    (length-cell (decimal (width_bytes form.width)) (decimal-le (width_bytes form.width)))
    (length-cell (decimal (underflow_bytes form.underflow)) (decimal-le (underflow_bytes form.underflow)))
    refl
