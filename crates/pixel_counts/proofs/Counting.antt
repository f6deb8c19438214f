-- Counts of blocks that follow each other, and the loop over them.
-- Assumes nothing.
use Rattle.std.proofs.Common.{◌≡◌, ℕ, zero, suc, ◌+◌, ◌-◌, ◌*◌, ◌/◌, ◌%◌, ◌^◌, ◌<◌, ◌≤◌, Bool, true, false, eqb, leb, List, [], ◌∷◌, ◌++◌, length, get_or, take, drop, sym, refl, ap, ◌∙◌, arith, length-append, length-drop, length-take, take_all, drop-drop, zero-mul, suc-mul, add-one, eqb-true}
use Rattle.std.specs.Prelude.{if◌then◌else◌}
use Rattle.std.specs.Int.{from_bool}
use Rattle.std.specs.Simd.{first_chunks}
use Rattle.lists.specs.Only.{only}
use Rattle.lists.proofs.Only.{only-append, only-le, only-more, take_split}
use Rattle.layout.specs.declared.Width.{Width}
use Rattle.layout.specs.declared.Width.TheVariants as W
use Rattle.layout.specs.declared.Underflow.{Underflow}
use Rattle.layout.specs.declared.Underflow.TheVariants as U
use Rattle.layout.specs.declared.Form.{Form}
use Rattle.header_text.specs.declared.Counts.{Counts}
use Rattle.pixel_counts.specs.Counts.{is_underflow, counts_of, counts_more, counts_for, no_counts, under_count, two_count, four_count, wrapped, passing, passing_from}

-- The loop that counts modulo 2^32.
pub record Wrapping (p : ℕ → Bool) (s : List ℕ) (k i : ℕ) : Type 0 where
  pub upto : i ≤ length s
  pub is : k ≡ passing p (take i s)

pub wrapping-start : (p : ℕ → Bool) (s : List ℕ) → Wrapping p s 0 0
unfolding only
wrapping-start p s = record { upto = omega arith; is = refl }

wrap-add : (m n z : ℕ) → m ≡ wrapped n → wrapped (m + z) ≡ wrapped (n + z)
wrap-add m n z e = omega arith

pub wrapping-more : {p : ℕ → Bool} {s : List ℕ} {k i r : ℕ} (t : Bool) → Wrapping p s k i → i < length s → t ≡ p (get_or s i 0) → r ≡ (k + from_bool t) % 2 ^ 32
    → Wrapping p s r (i + 1)
wrapping-more {p} {s} {k} {i} {r} t f h e q = record {
  upto = omega arith;
  is = q ∙ wrap-add k (length (only p (take i s))) (from_bool t) f.is ∙ rw (only-more p s i h, length-append, ← e) (ap (λ (n : ℕ). wrapped (length (only p (take i s)) + n)) (one t (get_or s i 0)));
}
  where
    one : (t : Bool) (x : ℕ) → from_bool t ≡ length (if◌then◌else◌ t (x ∷ []) [])
    one true x = refl
    one false x = refl

pub wrapping-done : {p : ℕ → Bool} {s : List ℕ} {k i : ℕ} → Wrapping p s k i → length s ≤ i → k ≡ passing p s
wrapping-done {p} {s} {k} {i} f h = rw (take_all i s h) at f.is

-- the count of fewer than 2^32 numbers is whole
pub passing-whole : (p : ℕ → Bool) (vs : List ℕ) → length vs < 4294967296 → passing p vs ≡ length (only p vs)
passing-whole p vs h = let l = only-le p vs in omega arith

pub from-whole : (k limit : ℕ) (vs : List ℕ) → length vs < 4294967296 → (k ≡ 0 → length (only (leb limit) vs) ≡ 0) → passing_from k limit vs ≡ length (only (leb limit) vs)
from-whole k limit vs h z = go (eqb k 0) refl
  where
    go : (t : Bool) → eqb k 0 ≡ t → if◌then◌else◌ t 0 (passing (leb limit) vs) ≡ length (only (leb limit) vs)
    go true e = sym (z (eqb-true k 0 e))
    go false e = passing-whole (leb limit) vs h

-- The loop that counts the blocks.
pub record Blocks (form : Form) (base : ℕ) (pixels : List ℕ) (c : Counts) (p : ℕ) : Type 0 where
  pub upto : p ≤ length pixels
  pub is : c ≡ counts_for form (counts_of base (take p pixels))

under_none : (u : Underflow) → under_count u 0 ≡ 0
under_none U.None = refl
under_none (U.Subtracted e) = refl

two_none : (w : Width) → two_count w 0 ≡ 0
two_none W.One = refl
two_none W.Two = refl
two_none W.Four = refl

four-none : (w : Width) → four_count w 0 ≡ 0
four-none W.One = refl
four-none W.Two = refl
four-none W.Four = refl

pub blocks_start : (form : Form) (base : ℕ) (pixels : List ℕ) → Blocks form base pixels no_counts 0
unfolding counts_of counts_for only
blocks_start form base pixels = record { upto = omega arith; is = rw (under_none form.underflow, two_none form.width, four-none form.width) }

under_more : (u : Underflow) (m n : ℕ) → under_count u m + under_count u n ≡ under_count u (m + n)
under_more U.None m n = refl
under_more (U.Subtracted e) m n = refl

two-more : (w : Width) (m n : ℕ) → two_count w m + two_count w n ≡ two_count w (m + n)
two-more W.One m n = refl
two-more W.Two m n = refl
two-more W.Four m n = refl

four-more : (w : Width) (m n : ℕ) → four_count w m + four_count w n ≡ four_count w (m + n)
four-more W.One m n = refl
four-more W.Two m n = refl
four-more W.Four m n = refl

-- no count is above the number of pixels
pub record Few (n : ℕ) (c : Counts) : Type 0 where
  pub under : c.under ≤ n
  pub two : c.two ≤ n
  pub four : c.four ≤ n

under-few : (u : Underflow) (m n : ℕ) → m ≤ n → under_count u m ≤ n
under-few U.None m n h = omega arith
under-few (U.Subtracted e) m n h = h

two-few : (w : Width) (m n : ℕ) → m ≤ n → two_count w m ≤ n
two-few W.One m n h = h
two-few W.Two m n h = omega arith
two-few W.Four m n h = omega arith

four-few : (w : Width) (m n : ℕ) → m ≤ n → four_count w m ≤ n
four-few W.One m n h = h
four-few W.Two m n h = h
four-few W.Four m n h = omega arith

pub counts-few : (form : Form) (base : ℕ) (xs : List ℕ) (c : Counts) → c ≡ counts_for form (counts_of base xs) → Few (length xs) c
unfolding counts_of counts_for
counts-few form base xs c e =
    rw e
    (record {
      under = under-few form.underflow _ (length xs) (only-le (is_underflow base) xs);
      two = two-few form.width _ (length xs) (only-le (leb (base + 255)) xs);
      four = four-few form.width _ (length xs) (only-le (leb (base + 65535)) xs);
    })

-- sums that fit
plain_more : Counts → Counts → Counts
plain_more c d = record { under = c.under + d.under; two = c.two + d.two; four = c.four + d.four }

plain-append : (form : Form) (base : ℕ) (xs ys : List ℕ) → plain_more (counts_for form (counts_of base xs)) (counts_for form (counts_of base ys)) ≡ counts_for form (counts_of base (xs ++ ys))
unfolding plain_more counts_of counts_for
plain-append form base xs ys =
    rw (under_more form.underflow, two-more form.width, four-more form.width, only-append (is_underflow base), only-append (leb (base + 255)), only-append (leb (base + 65535)), length-append, length-append, length-append)

wrapped-whole : (n : ℕ) → n < 4294967296 → wrapped n ≡ n
wrapped-whole n h = omega arith

more-whole : {m n : ℕ} {c d : Counts} → Few m c → Few n d → m + n < 4294967296 → counts_more c d ≡ plain_more c d
unfolding counts_more plain_more
more-whole {m} {n} {c} {d} f g h = rw (wrapped-whole (c.under + d.under) (omega arith), wrapped-whole (c.two + d.two) (omega arith), wrapped-whole (c.four + d.four) (omega arith))

pub counts-append : (form : Form) (base : ℕ) (xs ys : List ℕ) → length xs + length ys < 4294967296
    → counts_more (counts_for form (counts_of base xs)) (counts_for form (counts_of base ys)) ≡ counts_for form (counts_of base (xs ++ ys))
counts-append form base xs ys h =
    more-whole (counts-few form base xs _ refl) (counts-few form base ys _ refl) h ∙ plain-append form base xs ys

pub blocks_more : {form : Form} {base : ℕ} {pixels : List ℕ} {c d r : Counts} {p : ℕ} (e : ℕ) → Blocks form base pixels c p → p ≤ e → e ≤ length pixels → length pixels < 4294967296
    → d ≡ counts_for form (counts_of base (take (e - p) (drop p pixels))) → r ≡ counts_more c d → Blocks form base pixels r e
blocks_more {form} {base} {pixels} {c} {d} {r} {p} e f h k l q s = record {
  upto = k;
  is = s ∙ rw (f.is, q, counts-append form base (take p pixels) (take (e - p) (drop p pixels)) fits, ← take_split p e pixels h);
}
  where
    fits : length (take p pixels) + length (take (e - p) (drop p pixels)) < 4294967296
    fits = simp (length-take, length-drop) (omega arith)

pub blocks-done : {form : Form} {base : ℕ} {pixels : List ℕ} {c : Counts} {p : ℕ} → Blocks form base pixels c p → length pixels ≤ p → c ≡ counts_for form (counts_of base pixels)
blocks-done {form} {base} {pixels} {c} {p} f h = rw (take_all p pixels h) at f.is

-- a block of the slice as arrays
pub chunk_at : (n k i : ℕ) (d xs : List ℕ) → i < k → get_or (first_chunks n k xs) i d ≡ take n (drop (i * n) xs)
chunk_at n zero i d xs h = absurd (omega arith)
chunk_at n (suc k) zero d xs h = rw zero-mul
chunk_at n (suc k) (suc i) d xs h = chunk_at n k i d (drop n xs) (omega arith) ∙ rw drop-drop (ap (λ (m : ℕ). take n (drop m xs)) (omega (arith, suc-mul i n)))

-- the i-th of the blocks of n pixels, and what is left after them
pub block_at : (n i : ℕ) (e xs : List ℕ) (bs : List (List ℕ)) → bs ≡ first_chunks n (length xs / n) xs → i < length xs / n → get_or bs i e ≡ take ((i + 1) * n - i * n) (drop (i * n) xs)
block_at n i e xs bs q h =
    let m : (i + 1) * n - i * n ≡ n = omega (arith, suc-mul i n, ap (λ (k : ℕ). k * n) (add-one i)) in
    rw (q, m) (chunk_at n (length xs / n) i e xs h)

pub rest_at : (i : ℕ) (xs rest : List ℕ) (p : ℕ) → rest ≡ drop i xs → p ≡ i → rest ≡ take (length xs - p) (drop p xs)
rest_at i xs rest p q e = q ∙ rw e (sym (take_all (length xs - i) (drop i xs) (simp length-drop (omega arith))))

-- a test as a number
pub one_if : (t : Bool) → from_bool t ≡ if◌then◌else◌ t 1 0
one_if true = refl
one_if false = refl
