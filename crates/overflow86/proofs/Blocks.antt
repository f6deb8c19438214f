-- The stored image loaded by blocks.
-- Assumes nothing.
use mathlib.Core.Path.{◌≡◌, refl, sym, ap, ◌∙◌}
use mathlib.Core.Bool.{Bool, true, false}
use mathlib.Core.List.{List, [], ◌∷◌, ◌++◌, map, map-append, append-nil, append_assoc}
use Prim.Native.Nat.{ℕ, suc, ◌+◌, ◌-◌, ◌*◌, ◌≤◌}
use native.Mathlib.Nat.{add-mul, mul-le-mul_right}
use native.Mathlib.Omega.{arith}
use borrow.Rule.Slice.PartMut.{put_mid}
use lib.ListN.{length, take, drop, length-drop, length-append, length-map, drop_of_length-le}
use lib.Seq.{take-add, take_all, take_at, drop_at, drop-drop, length-take-le}
use lib.Dec.{eqb, ltb}
use borrow.Author.Tests.{lt-ltb, ltb-false}
use Rattle.std.specs.List.{list_any}
use Rattle.table.specs.Table.{entries}
use Rattle.table.proofs.Laws.{length-entries, entries-part}
use Rattle.marks.specs.Steps.{count_of}
use Rattle.overflow86.specs.Steps.{waiting_if}
use Rattle.overflow86.proofs.Loops.{count-cons, one-le}

pub count-append : (m : ℕ) (a b : List ℕ) → count_of m (a ++ b) ≡ count_of m a + count_of m b
unfolding count_of
count-append m [] b = omega arith
count-append m (x ∷ a) b = rw (count-cons m x (a ++ b), count-cons m x a, count-append m a b) (omega arith)

count-le : (m : ℕ) (xs : List ℕ) → count_of m xs ≤ length xs
unfolding count_of
count-le m [] = omega arith
count-le m (x ∷ xs) = omega (arith, count-cons m x xs, one-le m x, count-le m xs)

-- some element is m where more than none are
pub any-counted : (m : ℕ) (xs : List ℕ) → list_any (λ y. eqb y m) xs ≡ ltb 0 (count_of m xs)
unfolding count_of
any-counted m [] = refl
any-counted m (x ∷ xs) = go (eqb x m) refl (any-counted m xs)
  where
    go : (t : Bool) → eqb x m ≡ t → list_any (λ y. eqb y m) xs ≡ ltb 0 (count_of m xs) → list_any (λ y. eqb y m) (x ∷ xs) ≡ ltb 0 (count_of m (x ∷ xs))
    go true q ih = rw q (sym (lt-ltb 0 (suc (count_of m xs)) (omega arith)))
    go false q ih = rw q ih

-- a block without a mark stays as it was loaded
no-mark : (m : ℕ) (xs : List ℕ) → count_of m xs ≡ 0 → map (waiting_if m) xs ≡ xs
unfolding count_of
no-mark m [] h = refl
no-mark m (x ∷ xs) h = go (eqb x m) refl (no-mark m xs)
  where
    go : (t : Bool) → eqb x m ≡ t → (count_of m xs ≡ 0 → map (waiting_if m) xs ≡ xs) → map (waiting_if m) (x ∷ xs) ≡ x ∷ xs
    go true q ih = absurd (let z : suc (count_of m xs) ≡ 0 = rw q at h in omega arith)
    go false q ih = rw (q, ih (rw q at h))

pub unmarked : (m : ℕ) (vs px : List ℕ) (found : Bool) → px ≡ vs → found ≡ ltb 0 (count_of m px) → found ≡ false → (0 ≡ count_of m vs) × (px ≡ map (waiting_if m) vs)
unmarked m vs px found e f q =
    let h : count_of m px ≤ 0 = ltb-false 0 (count_of m px) (sym f ∙ q) in
    let z : count_of m vs ≡ 0 = rw (← e) (omega arith) in
    (sym z, e ∙ sym (no-mark m vs z))

take_split : (p e : ℕ) (l : List ℕ) → p ≤ e → take e l ≡ take p l ++ take (e - p) (drop p l)
take_split p e l h = let n : p + (e - p) ≡ e = omega arith in ap (λ (q : ℕ). take q l) (sym n) ∙ take-add p (e - p) l

-- what a part leaves of the whole, whose front is h
put-block : (h px px₀ ys : List ℕ) (p e : ℕ) → px ≡ h ++ drop p px₀ → length h ≡ p → p ≤ e → put_mid p (e - p) px ys ≡ (h ++ ys) ++ drop e px₀
put-block h px px₀ ys p e is len k =
    let n : p + (e - p) ≡ e = omega arith in
    rw (is, take_at h (drop p px₀) p len, drop_at h (drop p px₀) p len, drop-drop, n, append_assoc)

-- the first p pixels are loaded, with their marks waiting
pub record Blocks (w m : ℕ) (image px₀ px : List ℕ) (marks p : ℕ) : Type 0 where
  pub upto : p ≤ length px₀
  pub same : length px ≡ length px₀
  pub low : marks ≤ p
  pub count : marks ≡ count_of m (take p (entries w (length px₀) image))
  pub is : px ≡ map (waiting_if m) (take p (entries w (length px₀) image)) ++ drop p px₀

pub blocks_start : (w m : ℕ) (image px : List ℕ) → Blocks w m image px px 0 0
unfolding count_of
blocks_start w m image px = record { upto = omega arith; same = refl; low = omega arith; count = refl; is = refl }

sub_back : (p e : ℕ) → p ≤ e → e - p + p ≡ e
sub_back p e h = omega arith

-- the bytes of a part of n pixels of w bytes
pub part_bytes : (p n w l : ℕ) → p ≤ n → n * w ≤ l → p * w ≤ l
part_bytes p n w l h k = omega (arith, mul-le-mul_right w h)

module _ (w m : ℕ) (image px₀ px : List ℕ) (marks p e : ℕ) (f : Blocks w m image px₀ px marks p) (room : length px₀ * w ≤ length image) (h : p ≤ e) (k : e ≤ length px₀) where
  size : length (take (e - p) (drop p px)) ≡ e - p
  size = length-take-le (e - p) (drop p px) (simp length-drop (omega (arith, f.same)))

  rest : take (length image - p * w) (drop (p * w) image) ≡ drop (p * w) image
  rest = take_all (length image - p * w) (drop (p * w) image) (simp length-drop (omega arith))

  pub block_room : length (take (e - p) (drop p px)) * w ≤ length (take (length image - p * w) (drop (p * w) image))
  block_room =
      let s : (e - p) * w + p * w ≡ e * w = sym (add-mul (e - p) p w) ∙ ap (λ (n : ℕ). n * w) (sub_back p e (omega arith)) in
      let b : e * w ≤ length px₀ * w = mul-le-mul_right w k in
      rw (size, rest, length-drop) (omega arith)

  block : entries w (length (take (e - p) (drop p px))) (take (length image - p * w) (drop (p * w) image)) ≡ take (e - p) (drop p (entries w (length px₀) image))
  block = rw (size, rest) (sym (entries-part w (length px₀) p (e - p) image (omega arith)))

  pub blocks_more : (r : ℕ) (out : List ℕ)
      → (r ≡ count_of m (entries w (length (take (e - p) (drop p px))) (take (length image - p * w) (drop (p * w) image))))
      × (out ≡ map (waiting_if m) (entries w (length (take (e - p) (drop p px))) (take (length image - p * w) (drop (p * w) image))))
      → Blocks w m image px₀ (put_mid p (e - p) px out) (marks + r) e
  blocks_more r out b =
      let vs = entries w (length px₀) image in
      let split = take_split p e vs (omega arith) in
      let a : r ≡ count_of m (take (e - p) (drop p vs)) = b.0 ∙ ap (count_of m) block in
      let o : out ≡ map (waiting_if m) (take (e - p) (drop p vs)) = b.1 ∙ ap (map (waiting_if m)) block in
      let front : length (map (waiting_if m) (take p vs)) ≡ p = rw (length-map, length-take-le p vs (rw length-entries f.upto)) in
      let s : put_mid p (e - p) px out ≡ map (waiting_if m) (take e vs) ++ drop e px₀ =
      put-block (map (waiting_if m) (take p vs)) px px₀ out p e f.is front (omega arith) ∙ rw (split, map-append, o) in
      let l : length (take (e - p) (drop p vs)) ≡ e - p = length-take-le (e - p) (drop p vs) (rw (length-drop, length-entries) (omega arith)) in
      let len : length (map (waiting_if m) (take e vs)) ≡ e = rw (length-map, length-take-le e vs (rw length-entries k)) in
      record {
        upto = k;
        same = rw (s, length-append, len, length-drop) (omega arith);
        low = omega (arith, f.low, a, count-le m (take (e - p) (drop p vs)), l);
        count = rw (split, count-append, f.count, a);
        is = s;
      }

pub blocks_end : (w m : ℕ) (image px₀ px : List ℕ) (marks p : ℕ) → Blocks w m image px₀ px marks p → length px₀ ≤ p
    → (marks ≡ count_of m (entries w (length px₀) image)) × (px ≡ map (waiting_if m) (entries w (length px₀) image))
blocks_end w m image px₀ px marks p f h =
    let e = take_all p (entries w (length px₀) image) (rw length-entries h) in
    (rw e at f.count, (rw (e, drop_of_length-le px₀ h) at f.is) ∙ append-nil (map (waiting_if m) (entries w (length px₀) image)))
