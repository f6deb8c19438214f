-- Width 1 where few pixels take an entry: a pixel by itself, and runs of pixels that take none.
-- Assumes nothing.
use Rattle.std.proofs.Common.{◌≡◌, ℕ, suc, ◌+◌, ◌-◌, ◌*◌, ◌%◌, ◌<◌, ◌≤◌, Bool, true, false, ◌||◌, List, [], ◌∷◌, ◌++◌, map, length, get_or, take, drop, set, sym, refl, ap, ◌∙◌, add-zero, arith, length-drop, length-take, get_or-drop, get_or-take, take-suc, drop-drop, take-add, eq-eqb, ne_eqb}
use mathlib.Core.Bool.{or-false}
use lib.Seq.{set_split}
use borrow.Rule.Slice.PartMut.{put_mid}
use Rattle.table.specs.Table.{entries}
use Rattle.table.proofs.Laws.{entries-bytes, entries-part}
use Rattle.expand.specs.Steps.{fill_by, count, sum_too_large, any_too_large}
use Rattle.expand.specs.Blocks.{stored, wrapped, used_baseline, Replaced, Lifted, Stepped, Unmarked, Passed}
use Rattle.expand.specs.declared.Cursors.{Cursors}
use Rattle.expand.specs.declared.Under.{Under}
use Rattle.expand.specs.declared.Taken.{Taken}
use Rattle.expand.proofs.Steps.{fill_none, replace-none, count-below, count-append, sum_fits}
use Rattle.expand.proofs.Whole.{Done, done_more, stepped-of, lifted-not}

-- the entry that a table holds next
next-entry : (k : ℕ) (es : List ℕ) → get_or (drop k es) 0 0 ≡ get_or es k 0
next-entry k es = get_or-drop k es 0 0 ∙ rw add-zero

-- steps a and b of one byte

pub replaced-two-byte : (b v : ℕ) (e2 e4 : List ℕ) (c : Cursors) → b ≡ 255 → v ≡ get_or e2 c.two 0 → (v ≡ 65535 → ⊥)
    → Replaced 1 (stored (b ∷ []) [] e2 e4) (v ∷ []) c (record { two = c.two + 1; four = c.four })
unfolding fill_by count
replaced-two-byte b v e2 e4 c eb ev n =
    let a = eq-eqb b 255 eb in
    let x : get_or (drop c.two e2) 0 0 ≡ v = next-entry c.two e2 ∙ sym ev in
    let m = ne_eqb v 65535 n in
    record { two_is = rw a (omega arith); four_is = rw (a, x, m) (omega arith); is = rw (a, x, m) }

pub replaced-four-byte : (b v z : ℕ) (e2 e4 : List ℕ) (c : Cursors) → b ≡ 255 → v ≡ get_or e2 c.two 0 → v ≡ 65535 → z ≡ get_or e4 c.four 0
    → Replaced 1 (stored (b ∷ []) [] e2 e4) (z ∷ []) c (record { two = c.two + 1; four = c.four + 1 })
unfolding fill_by count
replaced-four-byte b v z e2 e4 c eb ev n ez =
    let a = eq-eqb b 255 eb in
    let x : get_or (drop c.two e2) 0 0 ≡ v = next-entry c.two e2 ∙ sym ev in
    let m = eq-eqb v 65535 n in
    let y : get_or (drop c.four e4) 0 0 ≡ z = next-entry c.four e4 ∙ sym ez in
    record { two_is = rw a (omega arith); four_is = rw (a, x, m) (omega arith); is = rw (a, x, m, y) }

-- numbers below 65535 of which none is 255
pub replaced-run : (xs e2 e4 : List ℕ) (c : Cursors) → ((i : ℕ) → i < length xs → get_or xs i 0 < 65535) → count 255 xs ≡ 0 → Replaced 1 (stored xs [] e2 e4) xs c c
replaced-run xs e2 e4 c low z =
    let y : count 65535 xs ≡ 0 = count-below 65535 xs low in
    let s = replace-none 255 xs (drop c.two e2) z in
    record { two_is = omega arith; four_is = rw s (omega arith); is = rw s (sym (replace-none 65535 xs (drop c.four e4) y)) }

pub no-255 : (b : ℕ) → (b ≡ 255 → ⊥) → count 255 (b ∷ []) ≡ 0
unfolding count
no-255 b h = rw (ne_eqb b 255 h)

pub one-low : (b m : ℕ) → b < m → (i : ℕ) → i < length (b ∷ []) → get_or (b ∷ []) i 0 < m
one-low b m h i k = let e : i ≡ 0 = omega arith in rw e h

-- step c of one pixel

pub lifted-zero : (v z base : ℕ) (eu : List ℕ) (u : Under) → v ≡ 0 → z ≡ get_or eu u.next 0
    → Lifted true base (v ∷ []) eu (z ∷ []) u (record { next = u.next + 1; over = u.over })
unfolding fill_by count any_too_large
lifted-zero v z base eu u ev ez =
    let a = eq-eqb v 0 ev in
    let x : get_or (drop u.next eu) 0 0 ≡ z = next-entry u.next eu ∙ sym ez in
    record { next-is = rw a (omega arith); over-is = rw a (sym (or-false u.over)); is = rw (a, x) }

pub lifted-other : (v z base : ℕ) (eu : List ℕ) (u : Under) (over : Bool) → (v ≡ 0 → ⊥) → over ≡ (u.over || sum_too_large base v) → z ≡ wrapped base v
    → Lifted true base (v ∷ []) eu (z ∷ []) u (record { next = u.next; over = over })
unfolding fill_by count any_too_large
lifted-other v z base eu u over n eo ez =
    let a = ne_eqb v 0 n in
    record { next-is = rw a (omega arith); over-is = eo ∙ ap (λ (t : Bool). u.over || t) (sym (or-false (sum_too_large base v))); is = rw (a, ez) }

-- step c of a run

large-low : (b : ℕ) (xs : List ℕ) → ((i : ℕ) → i < length xs → get_or xs i 0 + b ≤ 4294967295) → any_too_large b xs ≡ false
unfolding any_too_large
large-low b [] h = refl
large-low b (x ∷ xs) h = rw (sum_fits b x (h 0 (omega arith)), large-low b xs (λ i k. h (suc i) (omega arith)))

same-run : (xs : List ℕ) → ((i : ℕ) → i < length xs → get_or xs i 0 < 65535) → map (wrapped 0) xs ≡ xs
same-run [] h = refl
same-run (x ∷ xs) h =
    let l : x < 65535 = h 0 (omega arith) in
    let e : (x + 0) % 4294967296 ≡ x = omega arith in
    rw (e, same-run xs (λ i k. h (suc i) (omega arith)))

lifted-run : (step : Bool) (base : ℕ) (xs eu : List ℕ) (u : Under) → ((i : ℕ) → i < length xs → get_or xs i 0 < 65535) → base ≤ 65535 → (step ≡ true → count 0 xs ≡ 0)
    → Lifted step base xs eu (map (wrapped (used_baseline step base)) xs) u u
lifted-run true base xs eu u low h z =
    let k = z refl in
    let l : any_too_large base xs ≡ false = large-low base xs (λ i j. omega (arith, low i j)) in
    record { next-is = omega arith; over-is = rw l (sym (or-false u.over)); is = sym (fill_none 0 (wrapped base) xs (drop u.next eu) k) }
lifted-run false base xs eu u low h z = rw (same-run xs low) (lifted-not base xs eu u)

-- the three steps of a run
pub stepped-run : (step : Bool) (base : ℕ) (xs eu e2 e4 : List ℕ) (t : Taken) → ((i : ℕ) → i < length xs → get_or xs i 0 < 65535) → base ≤ 65535 → Unmarked step xs
    → Stepped 1 step base (stored xs eu e2 e4) (map (wrapped (used_baseline step base)) xs) t t
stepped-run step base xs eu e2 e4 t low h m =
    stepped-of (replaced-run xs e2 e4 (record { two = t.two; four = t.four }) low m.no-255) (lifted-run step base xs eu (record { next = t.under; over = t.over }) low h m.no-0)

-- the search

unmarked-nil : (step : Bool) → Unmarked step []
unfolding count
unmarked-nil step = record { no-255 = refl; no-0 = λ e. refl }

unmarked-append : {step : Bool} {xs ys : List ℕ} → Unmarked step xs → Unmarked step ys → Unmarked step (xs ++ ys)
unmarked-append {step} {xs} {ys} f g = record {
  no-255 = count-append 255 xs ys ∙ rw (f.no-255, g.no-255);
  no-0 = λ e. count-append 0 xs ys ∙ rw (f.no-0 e, g.no-0 e);
}

pub unmarked-one : (step : Bool) (b : ℕ) → (b ≡ 255 → ⊥) → (step ≡ true → b ≡ 0 → ⊥) → Unmarked step (b ∷ [])
unfolding count
unmarked-one step b h k = record { no-255 = no-255 b h; no-0 = λ e. rw (ne_eqb b 0 (k e)) }

pub passed_start : (step : Bool) (xs : List ℕ) (p end : ℕ) → p ≤ end → Passed step xs p end p
passed_start step xs p end h = let z : p - p ≡ 0 = omega arith in record { low = omega arith; upto = h; none = rw z (unmarked-nil step) }

pub passed-more : {step : Bool} {xs : List ℕ} {p end q : ℕ} (e : ℕ) → Passed step xs p end q → q ≤ e → e ≤ end → Unmarked step (take (e - q) (drop q xs)) → Passed step xs p end e
passed-more {step} {xs} {p} {end} {q} e f h k m =
    let l = f.low in
    let n : e - p ≡ (q - p) + (e - q) = omega arith in
    let d : p + (q - p) ≡ q = omega arith in
    let s : take (e - p) (drop p xs) ≡ take (q - p) (drop p xs) ++ take (e - q) (drop q xs)
    = rw (n, take-add (q - p) (e - q) (drop p xs), drop-drop (q - p) p xs, d) in
    record { low = omega arith; upto = k; none = rw s (unmarked-append f.none m) }

pub one_of : (q : ℕ) (xs : List ℕ) → q < length xs → take (q + 1 - q) (drop q xs) ≡ get_or xs q 0 ∷ []
one_of q xs h =
    let e : q + 1 - q ≡ 1 = omega arith in
    let l : 0 < length (drop q xs) = rw length-drop (omega arith) in
    rw (e, take-suc (drop q xs) 0 0 l, get_or-drop q xs 0 0, add-zero)

-- the loop: a run, and the pixel behind it

-- the stored values of width 1 are the bytes
part_bytes : (n p e : ℕ) (image : List ℕ) → p ≤ e → e ≤ n → n ≤ length image → take (e - p) (drop p (entries 1 n image)) ≡ take (e - p) (drop p image)
part_bytes n p e image h k m =
    let one : p * 1 ≡ p = omega arith in
    let w : entries 1 (e - p) (drop p image) ≡ take (e - p) (drop p image) = entries-bytes (e - p) (drop p image) (rw length-drop (omega arith)) in
    entries-part 1 n p (e - p) image (omega arith) ∙ rw one w

part_low : (p k m : ℕ) (image : List ℕ) → ((i : ℕ) → get_or image i 0 < m) → (i : ℕ) → i < length (take k (drop p image)) → get_or (take k (drop p image)) i 0 < m
part_low p k m image low i h = rw (get_or-take k (drop p image) i 0 (omega (arith, length-take k (drop p image))), get_or-drop p image i 0) (low (p + i))

module _ {step : Bool} {base : ℕ} (image : List ℕ) {eu e2 e4 px₀ px : List ℕ} {t : Taken} {p : ℕ} (f : Done 1 step base (stored (entries 1 (length px₀) image) eu e2 e4) px₀ px t p) (m : length px₀ ≤ length image) where
  pub done-run : {end q : ℕ} {ys : List ℕ} → base ≤ 65535 → ((i : ℕ) → get_or image i 0 < 65535) → Passed step image p end q → end ≤ length px₀
      → ys ≡ map (wrapped (used_baseline step base)) (take (q - p) (drop p image)) → Done 1 step base (stored (entries 1 (length px₀) image) eu e2 e4) px₀ (put_mid p (q - p) px ys) t q
  done-run {end} {q} {ys} b low s k e =
      let l = s.low in
      let u = s.upto in
      let run = take (q - p) (drop p image) in
      let z : take (q - p) (drop p (entries 1 (length px₀) image)) ≡ run = part_bytes (length px₀) p q image l (omega arith) m in
      let g : Stepped 1 step base (stored run eu e2 e4) ys t t = rw e (stepped-run step base run eu e2 e4 t (part_low p (q - p) 65535 image low) b s.none) in
      done_more {ys = ys} q f l (omega (arith, f.room)) (rw z g)

  pub done-pixel : {v : ℕ} {r : Taken} → p < length px₀ → Stepped 1 step base (stored (get_or image p 0 ∷ []) eu e2 e4) (v ∷ []) t r
      → Done 1 step base (stored (entries 1 (length px₀) image) eu e2 e4) px₀ (set px p v) r (p + 1)
  done-pixel {v} {r} h g =
      let z : take (p + 1 - p) (drop p (entries 1 (length px₀) image)) ≡ get_or image p 0 ∷ []
      = part_bytes (length px₀) p (p + 1) image (omega arith) (omega arith) m ∙ one_of p image (omega arith) in
      let n : p + (p + 1 - p) ≡ suc p = omega arith in
      let s : set px p v ≡ put_mid p (p + 1 - p) px (v ∷ []) = set_split px p v (omega (arith, f.same)) ∙ rw (drop-drop (p + 1 - p) p px, n) in
      rw s (done_more {ys = v ∷ []} (p + 1) f (omega arith) (omega (arith, f.room)) (rw z g))
