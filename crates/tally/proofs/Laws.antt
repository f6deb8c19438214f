-- Laws of the counts of a table's numbers, and the loop over its blocks.
-- Assumes nothing.
use mathlib.Core.Path.{◌≡◌, refl, sym, ap, ◌∙◌}
use mathlib.Core.Bool.{Bool, true, false, ◌&&◌, ◌||◌}
use mathlib.Core.List.{List, [], ◌∷◌, ◌++◌}
use Prim.Native.Nat.{ℕ, zero, suc, ◌+◌, ◌-◌, ◌*◌, ◌/◌, ◌≤◌, ◌<◌}
use native.Mathlib.Nat.{le_of_suc-le-suc, not-suc-le-zero, div-mul-le_self}
use native.Mathlib.Omega.{arith}
use lib.ListN.{length, take, drop, get_or, length-append}
use lib.Dec.{eqb, leb, ltb}
use lib.Seq.{take_all, length-take-le}
use borrow.Author.Tests.{le-ltb, ltb-false, leb-true, eqb-true}
use Rattle.lists.proofs.Tests.{and-true-left, and-true-right}
use Rattle.std.specs.Prelude.{if◌then◌else◌}
use Rattle.table.specs.Table.{entries, whole_entries}
use Rattle.table.proofs.Laws.{length-entries, take-entries, entries-part, entries-bytes}
use Rattle.expand.specs.Steps.{count}
use Rattle.expand.proofs.Steps.{count_if-append, count-le}
use Rattle.expand.proofs.Whole.{tail-is, reach, part-fits}
use Rattle.lists.specs.Only.{only}
use Rattle.lists.proofs.Only.{only-append, only-le, take_split, Counting, counting-done}
use Rattle.tally.specs.Tally.{is_outside, tally_of, tally_more, bytes_tally}
use Rattle.tally.specs.declared.Tally.{Tally}

-- is the number m
abbrev pub is_equal : ℕ → ℕ → Bool
is_equal m x = eqb x m

pub count-only : (m : ℕ) (xs : List ℕ) → length (only (is_equal m) xs) ≡ count m xs
unfolding count only
count-only m [] = refl
count-only m (x ∷ xs) = go (eqb x m) (count-only m xs)
  where
    go : (t : Bool) → length (only (is_equal m) xs) ≡ count m xs
        → length (if◌then◌else◌ t (x ∷ only (is_equal m) xs) (only (is_equal m) xs)) ≡ if◌then◌else◌ t (suc (count m xs)) (count m xs)
    go true h = ap suc h
    go false h = h

-- the loop that counts a block
pub counted_is : (m l h : ℕ) {s : List ℕ} {a b c i : ℕ} → Counting (is_equal 0) s a i → Counting (is_equal m) s b i → Counting (is_outside l h) s c i → length s ≤ i
    → ◌≡◌ {A = Tally} (record { zeros = a; marks = b; outside = c }) (tally_of m l h s)
unfolding tally_of
counted_is m l h {s} f g k e = rw (counting-done f e, counting-done g e, counting-done k e, count-only 0 s, count-only m s)

-- the counts of a list are those of its parts, added
pub tally-append : (m l h : ℕ) (xs ys : List ℕ) → tally_of m l h (xs ++ ys) ≡ tally_more (tally_of m l h xs) (tally_of m l h ys)
unfolding tally_of tally_more
tally-append m l h xs ys = rw (count_if-append true 0 xs ys, count_if-append true m xs ys, only-append (is_outside l h), length-append)

-- no count is above the number of entries
pub record Few (n : ℕ) (c : Tally) : Type 0 where
  pub zeros : c.zeros ≤ n
  pub marks : c.marks ≤ n
  pub outside : c.outside ≤ n

pub tally-few : (m l h : ℕ) (xs : List ℕ) {n : ℕ} {c : Tally} → c ≡ tally_of m l h xs → length xs ≡ n → Few n c
unfolding tally_of
tally-few m l h xs e k = rw (e, ← k) (record { zeros = count-le 0 xs; marks = count-le m xs; outside = only-le (is_outside l h) xs })

-- The loop over the blocks: those up to entry p are counted.
pub record Tallying (w m l h : ℕ) (t : List ℕ) (c : Tally) (p : ℕ) : Type 0 where
  pub upto : p ≤ length t / w
  pub is : c ≡ tally_of m l h (entries w p t)

pub tallying-start : (w m l h : ℕ) (t : List ℕ) → Tallying w m l h t (record { zeros = 0; marks = 0; outside = 0 }) 0
unfolding tally_of entries
tallying-start w m l h t = record { upto = omega arith; is = refl }

pub tallying-few : {w m l h : ℕ} {t : List ℕ} {c : Tally} {p : ℕ} → Tallying w m l h t c p → Few p c
tallying-few {w} {m} {l} {h} {t} {c} {p} f = tally-few m l h (entries w p t) f.is (length-entries w p t)

entries-join : (w p e : ℕ) (t : List ℕ) → p ≤ e → entries w e t ≡ entries w p t ++ entries w (e - p) (drop (p * w) t)
entries-join w p e t h =
    sym (take_all e (entries w e t) (rw length-entries (omega arith)))
    ∙ take_split p e (entries w e t) h
    ∙ rw (take-entries w p e t h, entries-part w e p (e - p) t (omega arith))

pub tallying-more : {w m l h : ℕ} {t : List ℕ} {c d r : Tally} {p : ℕ} (e k : ℕ) → Tallying w m l h t c p → p ≤ e → e ≤ length t / w → k ≡ e - p
    → d ≡ tally_of m l h (entries w k (take (length t - p * w) (drop (p * w) t))) → r ≡ tally_more c d → Tallying w m l h t r e
tallying-more {w} {m} {l} {h} {t} {c} {d} {r} {p} e k f a b q s u = record {
  upto = b;
  is = u ∙ rw (f.is, s, q, tail-is (p * w) t, entries-join w p e t a, tally-append);
}

pub tallying-done : {w m l h : ℕ} {t : List ℕ} {c : Tally} {p : ℕ} → Tallying w m l h t c p → length t / w ≤ p → c ≡ tally_of m l h (whole_entries w t)
tallying-done {w} {m} {l} {h} {t} {c} {p} f a = let e : p ≡ length t / w = omega (arith, f.upto) in rw e at f.is

-- the block's entries lie within the table
pub block_within : (w p e : ℕ) (t : List ℕ) → p ≤ e → e ≤ length t / w → (p * w ≤ length t) × ((e - p) * w ≤ length t - p * w)
block_within w p e t a b =
    let d = div-mul-le_self (length t) w in
    (omega (arith, reach p (length t / w) w (omega arith)), part-fits p e (length t / w) w (length t) a b d)

-- none lies outside: each lies within the range
inside_of : (l h x : ℕ) → is_outside l h x ≡ false → (l ≤ x) × (x ≤ h)
inside_of l h x e = go (ltb x l) refl e
  where
    go : (t : Bool) → ltb x l ≡ t → (t || ltb h x) ≡ false → (l ≤ x) × (x ≤ h)
    go true q r = let z : ◌≡◌ {A = ℕ} 0 1 = cc in absurd (omega arith)
    go false q r = (ltb-false x l q, ltb-false h x r)

pub none-outside : (m l h : ℕ) (xs : List ℕ) → (tally_of m l h xs).outside ≡ 0 → (i : ℕ) → i < length xs → (l ≤ get_or xs i 0) × (get_or xs i 0 ≤ h)
unfolding tally_of only
none-outside m l h [] e i k = absurd (not-suc-le-zero k)
none-outside m l h (x ∷ xs) e i k = go (is_outside l h x) refl e i k (none-outside m l h xs)
  where
    go : (t : Bool) → is_outside l h x ≡ t → length (if◌then◌else◌ t (x ∷ only (is_outside l h) xs) (only (is_outside l h) xs)) ≡ 0 → (i : ℕ) → i < suc (length xs)
        → (length (only (is_outside l h) xs) ≡ 0 → (j : ℕ) → j < length xs → (l ≤ get_or xs j 0) × (get_or xs j 0 ≤ h)) → (l ≤ get_or (x ∷ xs) i 0) × (get_or (x ∷ xs) i 0 ≤ h)
    go true q r i k rec = absurd (omega arith)
    go false q r zero k rec = inside_of l h x q
    go false q r (suc j) k rec = rec r j (le_of_suc-le-suc k)

pub all-inside : (m l h : ℕ) (xs : List ℕ) → ((i : ℕ) → i < length xs → (l ≤ get_or xs i 0) × (get_or xs i 0 ≤ h)) → (tally_of m l h xs).outside ≡ 0
unfolding tally_of only
all-inside m l h [] f = refl
all-inside m l h (x ∷ xs) f =
    let z = f 0 (omega arith) in
    rw (le-ltb _ _ z.0, le-ltb _ _ z.1) (all-inside m l h xs (λ i k. f (suc i) (omega arith)))

-- The loop over the blocks of bytes.
pub record ByteTallying (m : ℕ) (t : List ℕ) (zeros marks p : ℕ) : Type 0 where
  pub upto : p ≤ length t
  pub zeros-is : zeros ≡ count 0 (take p t)
  pub marks-is : marks ≡ count m (take p t)

pub bytes-start : (m : ℕ) (t : List ℕ) → ByteTallying m t 0 0 0
unfolding count
bytes-start m t = record { upto = omega arith; zeros-is = refl; marks-is = refl }

count-split : (m p e : ℕ) (t : List ℕ) → p ≤ e → count m (take e t) ≡ count m (take p t) + count m (take (e - p) (drop p t))
count-split m p e t h = rw (take_split p e t h) (count_if-append true m _ _)

pub bytes-more : {m : ℕ} {t : List ℕ} {zeros marks p : ℕ} (e a b : ℕ) → ByteTallying m t zeros marks p → p ≤ e → e ≤ length t → a ≡ count 0 (take (e - p) (drop p t))
    → b ≡ count m (take (e - p) (drop p t)) → ByteTallying m t (zeros + a) (marks + b) e
bytes-more {m} {t} {zeros} {marks} {p} e a b f h k q r = record {
  upto = k;
  zeros-is = rw (f.zeros-is, q, count-split 0 p e t h);
  marks-is = rw (f.marks-is, r, count-split m p e t h);
}

-- counts so far are no more than the bytes so far
pub bytes-few : {m : ℕ} {t : List ℕ} {zeros marks p : ℕ} → ByteTallying m t zeros marks p → (zeros ≤ p) × (marks ≤ p)
bytes-few {m} {t} {zeros} {marks} {p} f =
    let l = length-take-le p t f.upto in
    (omega (arith, count-le 0 (take p t), f.zeros-is), omega (arith, count-le m (take p t), f.marks-is))

pub bytes-done : {m : ℕ} {t : List ℕ} {zeros marks p : ℕ} → ByteTallying m t zeros marks p → length t ≤ p
    → ◌≡◌ {A = Tally} (record { zeros = zeros; marks = marks; outside = 0 }) (bytes_tally m t)
bytes-done {m} {t} {zeros} {marks} {p} f h = let e = take_all p t h in rw (f.zeros-is, f.marks-is, e)

-- bytes as entries of one byte, in a range that holds them
pub bytes-are : (m low high : ℕ) (t : List ℕ) → ((i : ℕ) → get_or t i 0 < 256) → low ≡ 0 → 255 ≤ high → tally_of m low high (whole_entries 1 t) ≡ bytes_tally m t
unfolding tally_of
bytes-are m low high t b q h =
    let n : length t / 1 ≡ length t = omega arith in
    let e : whole_entries 1 t ≡ t = rw (n, entries-bytes (length t) t (omega arith), take_all (length t) t (omega arith)) in
    let z : length (only (is_outside low high) t) ≡ 0 = all-inside m low high t (λ i k. (omega arith, omega (arith, b i))) in
    rw (e, z)

pub holds_of : (mark low high : ℕ) (r : Bool) → r ≡ (leb mark 255 && eqb low 0 && leb 255 high) → r ≡ true → (mark ≤ 255) × (low ≡ 0) × (255 ≤ high)
holds_of mark low high r e t =
    let a = sym e ∙ t in
    let b = and-true-left (leb mark 255 && eqb low 0) (leb 255 high) a in
    (leb-true mark 255 (and-true-left (leb mark 255) (eqb low 0) b), eqb-true low 0 (and-true-right (leb mark 255) (eqb low 0) b), leb-true 255 high (and-true-right (leb mark 255 && eqb low 0) (leb 255 high) a))
