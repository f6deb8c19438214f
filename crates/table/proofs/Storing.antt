-- Laws of entries written as bytes, and the loops that write them.
-- Assumes nothing.
use Rattle.std.proofs.Common.{◌≡◌, ℕ, zero, suc, ◌+◌, ◌-◌, ◌*◌, ◌/◌, ◌%◌, ◌<◌, ◌≤◌, leb, List, [], ◌∷◌, ◌++◌, map, length, get_or, take, drop, set, sym, refl, ap, ◌∙◌, append_assoc, append-nil, mul-le-mul_right, suc-mul, add-mul, zero-mul, add-one, arith, length-append, length-drop, take-append-drop, drop_of_length-le, length-take, length-take-le, take-suc, drop-drop, take-suc-set, take_at, take_all, drop_at, le-leb}
use lib.Seq.{append_snoc, take-length}
use borrow.Rule.Slice.PartMut.{put_mid, Post-is}
use Rattle.std.specs.Prelude.{if◌then◌else◌}
use Rattle.lists.specs.Bytes.{little_bytes, over}
use Rattle.lists.specs.Parts.{with_part}
use Rattle.lists.proofs.Numbers.{mul-split}
use Rattle.lists.proofs.Halves.{Halves, written-more, written-end}
use Rattle.table.proofs.Laws.{length-one}
use Rattle.table.specs.Writing.{table_of, less_wrapped}

pub length-little_bytes : (w v : ℕ) → length (little_bytes w v) ≡ w
unfolding little_bytes
length-little_bytes zero v = refl
length-little_bytes (suc w) v = ap suc (length-little_bytes w (v / 256))

pub table-append : (w : ℕ) (xs ys : List ℕ) → table_of w (xs ++ ys) ≡ table_of w xs ++ table_of w ys
unfolding table_of
table-append w [] ys = refl
table-append w (x ∷ xs) ys = rw (table-append w xs ys) (sym (append_assoc (little_bytes w x) (table_of w xs) (table_of w ys)))

pub length-table : (w : ℕ) (xs : List ℕ) → length (table_of w xs) ≡ length xs * w
unfolding table_of
length-table w [] = sym (zero-mul w)
length-table w (x ∷ xs) = rw (length-append, length-little_bytes, length-table w xs) (omega (arith, suc-mul (length xs) w))

-- The loop that writes a number's bytes: one more of them.
pub putting-more : (t : List ℕ) (i x : ℕ) → i < length t
    → take (i + 1) (set t i (x % 256)) ++ little_bytes (length t - (i + 1)) (x / 256) ≡ take i t ++ little_bytes (length t - i) x
unfolding little_bytes
putting-more t i x h =
    let n : length t - i ≡ suc (length t - suc i) = omega arith in
    rw (n, add-one, take-suc-set t i _ h, append_snoc)

pub putting-done : (t goal : List ℕ) (i x : ℕ) → take i t ++ little_bytes (length t - i) x ≡ goal → length t ≤ i → t ≡ goal
unfolding little_bytes
putting-done t goal i x f h =
    let n : length t - i ≡ 0 = omega arith in
    sym (append-nil t) ∙ (rw (n, take_all i t h) at f)

-- a number put into the place of an entry
pub put-one : (w at v : ℕ) (t ys : List ℕ) → at + w ≤ length t → ys ≡ little_bytes (length (take (at + w - at) (drop at t))) v
    → put_mid at (at + w - at) t ys ≡ take at t ++ (little_bytes w v ++ drop (at + w) t)
put-one w at v t ys h q =
    let l = length-one w at t h in
    let y : ys ≡ little_bytes w v = q ∙ rw l in
    rw (y, Post-is at (at + w) t (omega arith))

-- The loop that writes entries.
pub record Storing (w : ℕ) (values out₀ out : List ℕ) (i : ℕ) : Type 0 where
  pub same : length out ≡ length out₀
  pub is : out ≡ table_of w (take i values) ++ drop (i * w) out₀

pub storing-start : (w : ℕ) (values out : List ℕ) → Storing w values out out 0
unfolding table_of
storing-start w values out = record { same = refl; is = rw zero-mul }

pub storing-more : {w : ℕ} {values out₀ out out' : List ℕ} {i : ℕ} (v : ℕ) → Storing w values out₀ out i → i < length values → i * w + w ≤ length out₀ → v ≡ get_or values i 0
    → out' ≡ take (i * w) out ++ (little_bytes w v ++ drop (i * w + w) out) → Storing w values out₀ out' (i + 1)
unfolding table_of
storing-more {w} {values} {out₀} {out} {out'} {i} v f h room is e =
    let done : List ℕ = table_of w (take i values) in
    let l : length done ≡ i * w = length-table w (take i values) ∙ ap (λ (n : ℕ). n * w) (length-take-le i values (omega arith)) in
    record {
      same = ap length e ∙ simp (length-append, length-little_bytes, length-take, length-drop) (omega (arith, f.same));
      is =
          e
          ∙ rw
          (is, f.is, take_at done (drop (i * w) out₀) (i * w) l, ← drop-drop w (i * w) (done ++ drop (i * w) out₀), drop_at done (drop (i * w) out₀) (i * w) l, drop-drop, add-one, suc-mul, take-suc values i 0 h, table-append, append-nil, append_assoc);
    }

pub storing-done : {w : ℕ} {values out₀ out : List ℕ} {i : ℕ} → Storing w values out₀ out i → i ≡ length values → out ≡ table_of w values ++ drop (length values * w) out₀
storing-done f e = f.is ∙ rw (e, take-length)

-- one entry put over a table
pub entry-over : (w at v : ℕ) (t : List ℕ) → take at t ++ (little_bytes w v ++ drop (at + w) t) ≡ over at (table_of w (v ∷ [])) t
unfolding table_of over
entry-over w at v t = rw (append-nil, length-little_bytes)

-- less 0, numbers of 32 bits are themselves
pub less_none : (xs : List ℕ) → ((i : ℕ) → get_or xs i 0 < 4294967296) → map (less_wrapped 0) xs ≡ xs
less_none [] h = refl
less_none (x ∷ xs) h =
    let e : less_wrapped 0 x ≡ x = omega (arith, h 0) in
    rw (less_none xs (λ i. h (suc i)), e)

table-split : (w n : ℕ) (values : List ℕ) → table_of w values ≡ table_of w (take n values) ++ table_of w (drop n values)
table-split w n values = ap (table_of w) (sym (take-append-drop n values)) ∙ table-append w (take n values) (drop n values)

length_front : (w n : ℕ) (values : List ℕ) → n ≤ length values → length (table_of w (take n values)) ≡ n * w
length_front w n values h = length-table w (take n values) ∙ ap (λ (m : ℕ). m * w) (length-take-le n values h)

-- the bytes of entries p to e
pub table-part : (w p e : ℕ) (values : List ℕ) → p ≤ e → e ≤ length values → take (e * w - p * w) (drop (p * w) (table_of w values)) ≡ table_of w (take (e - p) (drop p values))
table-part w p e values h k =
    let n : e * w - p * w ≡ (e - p) * w = omega (arith, mul-split w p e h) in
    let d : drop (p * w) (table_of w values) ≡ table_of w (drop p values) =
    rw (table-split w p values) (drop_at (table_of w (take p values)) (table_of w (drop p values)) (p * w) (length_front w p values (omega arith))) in
    rw (n, d, table-split w (e - p) (drop p values))
    (take_at (table_of w (take (e - p) (drop p values))) _ ((e - p) * w) (length_front w (e - p) (drop p values) (rw length-drop (omega arith))))

-- a part stored
pub part-stored : (w : ℕ) (values out ys : List ℕ) (p e : ℕ) → p ≤ e → e ≤ length values → length out ≡ length values * w
    → ys ≡ if◌then◌else◌ (leb (length (take (e - p) (drop p values)) * w) (length (take (e * w - p * w) (drop (p * w) out)))) (table_of w (take (e - p) (drop p values)) ++ drop (length (take (e - p) (drop p values)) * w) (take (e * w - p * w) (drop (p * w) out))) (take (e * w - p * w) (drop (p * w) out))
    → put_mid (p * w) (e * w - p * w) out ys ≡ with_part (p * w) (e * w) (table_of w values) out
unfolding with_part
part-stored w values out ys p e h k l q =
    let mid : List ℕ = take (e * w - p * w) (drop (p * w) out) in
    let n : length (take (e - p) (drop p values)) ≡ e - p = length-take-le (e - p) (drop p values) (rw length-drop (omega arith)) in
    let b : length mid ≡ (e - p) * w = length-take-le (e * w - p * w) (drop (p * w) out) (rw length-drop (omega (arith, mul-le-mul_right w k))) ∙ omega (arith, mul-split w p e h) in
    let y : ys ≡ take (e * w - p * w) (drop (p * w) (table_of w values)) =
    q ∙ rw (n, le-leb ((e - p) * w) (length mid) (omega (arith, b)), drop_of_length-le mid {i = (e - p) * w} (omega (arith, b)), append-nil) (sym (table-part w p e values h k)) in
    rw (y, Post-is (p * w) (e * w) out (mul-le-mul_right w h))

-- two parts stored one after the other: up to e of the first half, and to f of the second
module _ (w : ℕ) (values out₀ out out₁ out₂ : List ℕ) (half p e f : ℕ) (l : length out₀ ≡ length values * w) (s : Halves (half * w) (table_of w values) out₀ out (p * w)) (h : p ≤ e) (k : e ≤ half) (m : half + e ≤ f) (n : f ≤ length values)
    (a : out₁ ≡ with_part (p * w) (e * w) (table_of w values) out) (b : out₂ ≡ with_part ((half + p) * w) (f * w) (table_of w values) out₁) where
  up : half * w + e * w ≤ f * w
  up = rw (← add-mul) (mul-le-mul_right w m)

  pub stored_more : f ≡ half + e → Halves (half * w) (table_of w values) out₀ out₂ (e * w)
  stored_more q = written-more (λ _. table_of w values) out₀ out out₁ out₂ (half * w) (p * w) (e * w) (f * w) (length-table w values ∙ sym l) s (mul-le-mul_right w h) (mul-le-mul_right w k) up (rw l (mul-le-mul_right w n)) a (rw add-mul at b) (ap (λ (x : ℕ). x * w) q ∙ add-mul half e w)

  pub stored-end : e ≡ half → f ≡ length values → out₂ ≡ table_of w values
  stored-end q r = written-end (λ _. table_of w values) out₀ out out₁ out₂ (half * w) (p * w) (e * w) (f * w) (length-table w values ∙ sym l) s (mul-le-mul_right w h) (mul-le-mul_right w k) up (rw l (mul-le-mul_right w n)) a (rw add-mul at b) (ap (λ (x : ℕ). x * w) q) (ap (λ (x : ℕ). x * w) r ∙ sym l)
