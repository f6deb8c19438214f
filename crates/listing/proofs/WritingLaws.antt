-- Text written from its last byte to its first.
-- Assumes nothing.
use mathlib.Core.Path.{◌≡◌, refl, sym, ap, ◌∙◌}
use mathlib.Core.Bool.{Bool, true, false}
use mathlib.Core.List.{List, [], ◌∷◌, ◌++◌, append_assoc, append-nil}
use Prim.Native.Nat.{ℕ, zero, suc, ◌+◌, ◌-◌, ◌/◌, ◌%◌, ◌≤◌, ◌<◌}
use native.Mathlib.Omega.{arith}
use native.Mathlib.Numerals.{add-one}
use lib.ListN.{length, take, drop, set, length-append, length-drop, take-append-drop}
use lib.Seq.{drop-length, take-take, take_at, drop_at, length-take-le, set_split, append_snoc}
use lib.Dec.{ltb}
use borrow.Author.Tests.{lt-ltb, le-ltb}
use Rattle.std.specs.Prelude.{if◌then◌else◌}
use Rattle.listing.specs.Writing.{Wrote}
use Rattle.listing.specs.Listing.{digits}
use Rattle.lists.specs.Digits.{digits_up_to, decimal}

pub wrote_none : (b : List ℕ) (at : ℕ) → at ≤ length b → Wrote b at b at []
wrote_none b at h = record { room = h; place = omega arith; bytes = sym (take-append-drop at b) }

-- a text before a text
module _ {b : List ℕ} {at : ℕ} {c : List ℕ} {p : ℕ} {s : List ℕ} (f : Wrote b at c p s) where
  front : take p c ≡ take p b
  front =
      let e : length (take p b) ≡ p = length-take-le p b (omega (arith, f.room, f.place)) in
      rw f.bytes (take_at (take p b) _ p e)

  back : drop p c ≡ s ++ drop at b
  back =
      let e : length (take p b) ≡ p = length-take-le p b (omega (arith, f.room, f.place)) in
      rw f.bytes (drop_at (take p b) _ p e)

  pub wrote-length : length c ≡ length b
  wrote-length =
      let e : length (take p b) ≡ p = length-take-le p b (omega (arith, f.room, f.place)) in
      ap length f.bytes ∙ simp (length-append, e, length-drop) (omega (arith, f.room, f.place))

  pub wrote_then : {d : List ℕ} {q : ℕ} {r : List ℕ} → Wrote c p d q r → Wrote b at d q (r ++ s)
  wrote_then {d} {q} {r} g = record {
    room = f.room;
    place = rw length-append (omega (arith, f.place, g.place));
    bytes =
        let e : take q c ≡ take q b = sym (take-take q p c (omega (arith, g.place))) ∙ ap (take q) front ∙ take-take q p b (omega (arith, g.place)) in
        g.bytes ∙ rw (e, back, append_assoc);
  }

  -- written into what is before it
  pub before-length : length (take p c) ≡ p
  before-length = length-take-le p c (omega (arith, wrote-length, f.room, f.place))

  pub widened : {d : List ℕ} {q : ℕ} {r : List ℕ} → Wrote (take p c) (length (take p c)) d q r → Wrote c p (d ++ drop p c) q r
  widened {d} {q} {r} g = record {
    room = omega (arith, wrote-length, f.room, f.place);
    place = g.place ∙ before-length;
    bytes =
        let e : take q (take p c) ≡ take q c = take-take q p c (omega (arith, g.place, before-length)) in
        let n : drop (length (take p c)) (take p c) ≡ [] = drop-length (take p c) in
        rw (g.bytes, e, n, append-nil, append_assoc);
  }

  pub wrote-before : {d : List ℕ} {q : ℕ} {r : List ℕ} → Wrote (take p c) (length (take p c)) d q r → Wrote b at (d ++ drop p c) q (r ++ s)
  wrote-before g = wrote_then (widened g)

  pub wrote-byte : (v q : ℕ) → p ≡ suc q → Wrote b at (set c q v) q (v ∷ s)
  wrote-byte v q e =
      let h : q < length c = omega (arith, wrote-length, f.room, f.place) in
      let t : take q c ≡ take q b = sym (take-take q p c (omega arith)) ∙ ap (take q) front ∙ take-take q p b (omega arith) in
      let d : drop (suc q) c ≡ s ++ drop at b = ap (λ (n : ℕ). drop n c) (sym e) ∙ back in
      record {
        room = f.room;
        place = omega (arith, f.place);
        bytes = set_split c q v h ∙ rw (t, d);
      }

-- a text on its way: todo is still to be written

pub record Writing (b : List ℕ) (at : ℕ) (c : List ℕ) (place : ℕ) (todo text : List ℕ) : Type 0 where
  pub done : List ℕ
  pub wrote : Wrote b at c place done
  pub whole : todo ++ done ≡ text

pub writing_start : (b : List ℕ) (at : ℕ) (text : List ℕ) → at ≤ length b → Writing b at b at text text
writing_start b at text h = record { done = []; wrote = wrote_none b at h; whole = append-nil text }

module _ {b : List ℕ} {at : ℕ} {c : List ℕ} {place : ℕ} {todo text : List ℕ} (f : Writing b at c place todo text) where
  pub writing-byte : (todo' : List ℕ) (v q : ℕ) → place ≡ suc q → todo ≡ todo' ++ v ∷ [] → Writing b at (set c q v) q todo' text
  writing-byte todo' v q e s = record {
    done = v ∷ f.done;
    wrote = wrote-byte f.wrote v q e;
    whole = sym (append_snoc todo' v f.done) ∙ (rw s at f.whole);
  }

  pub writing-done : todo ≡ [] → Wrote b at c place text
  writing-done e = rw (← f.whole, e) f.wrote

  pub writing-length : length c ≡ length b
  writing-length = wrote-length f.wrote

-- the digits

pub digits_more : (k n : ℕ) → 0 < k → digits k n ≡ digits (k - 1) (n / 10) ++ (48 + n % 10) ∷ []
unfolding digits
digits_more k n h = let e : k ≡ suc (k - 1) = omega arith in ap (λ (j : ℕ). digits j n) e

pub decimal-last : (k n : ℕ) → 0 < k → n < 10 → digits_up_to k n ≡ [] ++ (48 + n % 10) ∷ []
unfolding digits_up_to
decimal-last k n h l = let e : k ≡ suc (k - 1) = omega arith in ap (λ (j : ℕ). digits_up_to j n) e ∙ rw (lt-ltb n 10 l)

pub decimal-more : (k n : ℕ) → 0 < k → 10 ≤ n → digits_up_to k n ≡ digits_up_to (k - 1) (n / 10) ++ (48 + n % 10) ∷ []
unfolding digits_up_to
decimal-more k n h l = let e : k ≡ suc (k - 1) = omega arith in ap (λ (j : ℕ). digits_up_to j n) e ∙ rw (le-ltb n 10 l)

pub no-digits : (k n : ℕ) → k ≤ 0 → digits k n ≡ []
unfolding digits
no-digits k n h = let e : k ≡ 0 = omega arith in rw e

pub no-decimal : (k n : ℕ) → k ≤ 0 → digits_up_to k n ≡ []
unfolding digits_up_to
no-decimal k n h = let e : k ≡ 0 = omega arith in rw e

pub length_digits : (k n : ℕ) → length (digits k n) ≡ k
unfolding digits
length_digits zero n = refl
length_digits (suc k) n = rw (length-append, length_digits k (n / 10), add-one)

pub length-upto : (k n : ℕ) → length (digits_up_to k n) ≤ k
unfolding digits_up_to
length-upto zero n = omega arith
length-upto (suc k) n = go (ltb n 10) (length-upto k (n / 10))
  where
    go : (b : Bool) → length (digits_up_to k (n / 10)) ≤ k → length (if◌then◌else◌ b [] (digits_up_to k (n / 10)) ++ (48 + n % 10) ∷ []) ≤ suc k
    go true h = omega arith
    go false h = rw length-append (omega arith)

pub length-decimal : (n : ℕ) → length (decimal n) ≤ 10
length-decimal n = length-upto 10 n
