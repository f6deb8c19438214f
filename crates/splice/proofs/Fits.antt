-- Padding, and the numbers that an edit takes.
-- Assumes nothing.
use mathlib.Core.Path.{◌≡◌, refl, sym, subst}
use mathlib.Core.Bool.{Bool, true, false, ◌&&◌}
use Prim.Native.Nat.{ℕ, ◌+◌, ◌-◌, ◌*◌, ◌/◌, ◌%◌, ◌≤◌, ◌<◌}
use native.Mathlib.Omega.{arith}
use mathlib.Core.List.{List}
use lib.ListN.{length}
use lib.Dec.{leb}
use borrow.Author.Tests.{le-leb, leb-true}
use Rattle.lists.specs.Bytes.{padded_to}
use Rattle.lists.proofs.Tests.{and-true-left, and-true-right}
use Rattle.splice.specs.Moves.{moved, copied, fill, edit_fits, put_fits}

pub pad-bounds : (n : ℕ) → (n ≤ padded_to 16 n) × (padded_to 16 n < n + 16)
unfolding padded_to
pad-bounds n = omega arith

pub pad-mono : (m n : ℕ) → m ≤ n → padded_to 16 m ≤ padded_to 16 n
unfolding padded_to
pad-mono m n h = omega arith

-- m bytes and n, at least as many but at most 16 more: the padded lengths are the same, or 16 apart
pub pad-same : (m n : ℕ) → m ≤ n → n ≤ padded_to 16 m → padded_to 16 n ≡ padded_to 16 m
unfolding padded_to
pad-same m n h k = omega arith

pub pad-same-down : (m n : ℕ) → m ≤ n → padded_to 16 n < m + 16 → padded_to 16 n ≡ padded_to 16 m
unfolding padded_to
pad-same-down m n h k = omega arith

pub pad-more : (m n : ℕ) → padded_to 16 m < n → n ≤ m + 16 → padded_to 16 n ≡ padded_to 16 m + 16
unfolding padded_to
pad-more m n h k = omega arith

pub pad-more-down : (m n : ℕ) → m + 16 ≤ padded_to 16 n → n ≤ m + 16 → padded_to 16 n ≡ padded_to 16 m + 16
unfolding padded_to
pad-more-down m n h k = omega arith

fill-core : (k old new a b q r : ℕ) → k + old + a ≡ 16 * q → k + new + b ≡ 16 * r → b < 16 → new ≤ 16 → (a + 32 + old - new) % 16 ≡ b
fill-core k old new a b q r ea eb hb h = omega arith

pad-sixteens : (n : ℕ) → padded_to 16 n ≡ 16 * ((n + 15) / 16)
unfolding padded_to
pad-sixteens n = omega arith

fill-after : (n old new : ℕ) → old ≤ n → new ≤ 16 → (fill n + 32 + old - new) % 16 ≡ fill (n - old + new)
fill-after n old new h s =
    let m : ℕ = n - old + new in
    let p = pad-bounds n in
    let q = pad-bounds m in
    fill-core (n - old) old new (fill n) (fill m) ((n + 15) / 16) ((m + 15) / 16) (omega (arith, pad-sixteens n)) (omega (arith, pad-sixteens m)) (omega arith) s

-- The conditions of an edit.
abbrev pub Fits : (room s n before old post w : ℕ) → Type 0
Fits room s n before old post w =
    (before + old ≤ n) × (old ≤ 16) × (w ≤ 16) × (s + padded_to 16 n + post ≤ room) × (s + padded_to 16 (n - old + w) + post ≤ room)

-- a test came out false where true is impossible
not-true : (t : Bool) → (t ≡ true → ⊥) → t ≡ false
not-true true h = absurd (h refl)
not-true false h = refl

module _ (room s n before old post w : ℕ) where
  pub fits-when : before + old ≤ n → old ≤ 16 → w ≤ 16 → s + padded_to 16 n + post ≤ room → s + padded_to 16 (n - old + w) + post ≤ room
      → edit_fits room s n before old post w ≡ true
  unfolding edit_fits
  fits-when a b c d e = rw (le-leb _ _ a, le-leb _ _ b, le-leb _ _ c, le-leb _ _ d, le-leb _ _ e)

  pub fits-then : edit_fits room s n before old post w ≡ true → Fits room s n before old post w
  unfolding edit_fits
  fits-then t =
      let b : Bool = leb (before + old) n && leb old 16 in
      let d : Bool = b && leb w 16 && leb (s + padded_to 16 n + post) room in
      let t₃ : d ≡ true = and-true-left d (leb (s + padded_to 16 (n - old + w) + post) room) t in
      let t₂ : (b && leb w 16) ≡ true = and-true-left (b && leb w 16) (leb (s + padded_to 16 n + post) room) t₃ in
      let t₁ : b ≡ true = and-true-left b (leb w 16) t₂ in (
        leb-true _ _ (and-true-left (leb (before + old) n) (leb old 16) t₁),
        leb-true _ _ (and-true-right (leb (before + old) n) (leb old 16) t₁),
        leb-true _ _ (and-true-right b (leb w 16) t₂),
        leb-true _ _ (and-true-right (b && leb w 16) (leb (s + padded_to 16 n + post) room) t₃),
        leb-true _ _ (and-true-right d (leb (s + padded_to 16 (n - old + w) + post) room) t),
      )

  pub unfit : (Fits room s n before old post w → n ≤ padded_to 16 n → ⊥) → edit_fits room s n before old post w ≡ false
  unfit h = not-true _ (λ t. h (fits-then t) (pad-bounds n).0)

  -- what `resize` needs
  pub resize-room : Fits room s n before old post w → s + before + w + (n - (before + old)) + (fill n + 32 + old - w) % 16 + post ≤ room
  resize-room f =
      subst (λ (z : ℕ). s + before + w + (n - (before + old)) + z + post ≤ room) (sym (fill-after n old w (omega arith) f.2))
      (let p = pad-bounds (n - old + w) in omega arith)

module _ (room at w : ℕ) where
  pub put-fits : w ≤ 4 → at + w ≤ room → put_fits room at w ≡ true
  unfolding put_fits
  put-fits a b = rw (le-leb _ _ a, le-leb _ _ b)

  pub put-unfit : ((w ≤ 4) × (at + w ≤ room) → ⊥) → put_fits room at w ≡ false
  unfolding put_fits
  put-unfit h = not-true _ (λ t. h (leb-true _ _ (and-true-left (leb w 4) (leb (at + w) room) t), leb-true _ _ (and-true-right (leb w 4) (leb (at + w) room) t)))

module _ (b : List ℕ) (from to n : ℕ) where
  pub copy-fits : from + n ≤ length b → to + n ≤ length b → copied b from to n ≡ moved b from to n
  unfolding copied
  copy-fits f t = rw (le-leb _ _ f, le-leb _ _ t)

  pub copy-unfit : ((from + n ≤ length b) × (to + n ≤ length b) → ⊥) → copied b from to n ≡ b
  unfolding copied
  copy-unfit h =
      let e : (leb (from + n) (length b) && leb (to + n) (length b)) ≡ false =
      not-true _ (λ t. h (leb-true _ _ (and-true-left (leb (from + n) (length b)) (leb (to + n) (length b)) t), leb-true _ _ (and-true-right (leb (from + n) (length b)) (leb (to + n) (length b)) t))) in
      rw e
