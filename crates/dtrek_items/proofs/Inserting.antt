-- One place put in among others, and what it does to the keywords that stand there.
-- Assumes nothing.
use mathlib.Core.Path.{◌≡◌, refl, sym, ap, ◌∙◌}
use mathlib.Core.Bool.{Bool, true, false, ◌||◌}
use mathlib.Core.List.{List, [], ◌∷◌, ◌++◌}
use Prim.Native.Nat.{ℕ, zero, suc, ◌+◌, ◌-◌, ◌≤◌, ◌<◌}
use native.Mathlib.Omega.{arith}
use lib.ListN.{length, get_or, take, drop, set, length-set, length-drop, length-append, get_or-append}
use lib.Seq.{get_or-set_same, get_or-set_other, get_or-take, get_or-drop, get_or-append-add, ext_get_or, length-take-le}
use Rattle.lists.specs.Bytes.{same_bytes}
use Rattle.dtrek_text.specs.Bytes.{keyword_at}
use Rattle.std.specs.Prelude.{Result, Ok, Err}
use Rattle.std.specs.declared.cmp.Ordering.{Ordering}
use Rattle.std.specs.declared.cmp.Ordering.TheVariants.{Less, Equal, Greater}
use Rattle.std.specs.Ordering.{ordering_index}
use Rattle.std.specs.Result.{result_err}
use Rattle.std.specs.List.{CopiedTo, SameBelow}
use Rattle.std.specs.List.Sorted.{IsNonDecreasingBy, IsBinarySearchResult, IsSearchInRange}
use Rattle.std.proofs.lemmas.List.Sorted.{IsNonDecreasingBy-from_default}
use Rattle.std.proofs.lemmas.Cmp.{nat_list_cmp_total}
use Rattle.dtrek_items.specs.Keys.{compared, keys_at, has_key, key_at, Rising, Between, Sought, Inserted}
use Rattle.dtrek_items.proofs.Ordering.{Two, two, lower, equal, higher, reversed, before-trans, same_by}

-- the places from i on moved one up, and the new one put in
module _ {ps : List ℕ} (qs : List ℕ) {k i : ℕ} (h : i ≤ k) (r : k < length ps) (n : length qs ≡ length ps) (moved : CopiedTo ps qs i (i + 1) (k - i)) (below : SameBelow ps qs (i + 1)) where
  pub inserted : (start : ℕ) → Inserted ps k i start (set qs i start)
  inserted start = record {
    same = length-set qs i start ∙ n;
    low = λ m l. get_or-set_other qs i m start 0 (λ e. omega arith) ∙ below m 0 (omega arith);
    here = get_or-set_same qs i start 0 (omega arith);
    high = λ m l g. get_or-set_other qs i m start 0 (λ e. omega arith) ∙ moved m 0 (omega arith) (omega arith) ∙ ap (λ (j : ℕ). get_or ps j 0) (omega arith);
  }

-- the first k + 1 places after it
module _ {ps qs : List ℕ} {k i start : ℕ} (f : Inserted ps k i start qs) (h : i ≤ k) (r : k < length ps) where
  abbrev whole : List ℕ
  whole = take i ps ++ (start ∷ take (k - i) (drop i ps))

  front_length : length (take i ps) ≡ i
  front_length = length-take-le i ps (omega arith)

  whole_length : length whole ≡ suc k
  whole_length =
      let b : length (take (k - i) (drop i ps)) ≡ k - i = length-take-le (k - i) (drop i ps) (omega (arith, length-drop i ps)) in
      length-append (take i ps) (start ∷ take (k - i) (drop i ps)) ∙ omega (arith, front_length)

  whole-at : (m : ℕ) → m < suc k → Two m i → get_or qs m 0 ≡ get_or whole m 0
  whole-at m l (lower x) =
      f.low m x ∙ sym (get_or-append (take i ps) (start ∷ take (k - i) (drop i ps)) 0 m (omega (arith, front_length)) ∙ get_or-take i ps m 0 x)
  whole-at m l (equal x) =
      let n : m ≡ length (take i ps) + 0 = omega (arith, front_length) in
      rw x f.here ∙ sym (ap (λ (n : ℕ). get_or whole n 0) n ∙ get_or-append-add (take i ps) (start ∷ take (k - i) (drop i ps)) 0 0)
  whole-at m l (higher x) =
      let n : m ≡ length (take i ps) + suc (m - 1 - i) = omega (arith, front_length) in
      let p : i + (m - 1 - i) ≡ m - 1 = omega arith in
      f.high m x (omega arith)
      ∙ sym (ap (λ (n : ℕ). get_or whole n 0) n ∙ get_or-append-add (take i ps) (start ∷ take (k - i) (drop i ps)) (suc (m - 1 - i)) 0 ∙ get_or-take (k - i) (drop i ps) (m - 1 - i) 0 (omega arith) ∙ rw (get_or-drop, p))

  pub inserted-is : take (suc k) qs ≡ whole
  inserted-is =
      let l : length (take (suc k) qs) ≡ suc k = length-take-le (suc k) qs (omega (arith, f.same)) in
      ext_get_or 0 (take (suc k) qs) whole (l ∙ sym whole_length) (λ m g. get_or-take (suc k) qs m 0 (omega arith) ∙ whole-at m (omega arith) (two m i))

-- membership over parts
has-append : (key : List ℕ) (xs ys : List (List ℕ)) → has_key key (xs ++ ys) ≡ (has_key key xs || has_key key ys)
unfolding has_key
has-append key [] ys = refl
has-append key (x ∷ xs) ys = rw (has-append key xs ys) (or_assoc (same_bytes x key) (has_key key xs) (has_key key ys))
  where
    or_assoc : (a b c : Bool) → (a || (b || c)) ≡ ((a || b) || c)
    or_assoc true b c = refl
    or_assoc false b c = refl

keys-append : (text xs ys : List ℕ) → keys_at text (xs ++ ys) ≡ keys_at text xs ++ keys_at text ys
keys-append text [] ys = refl
keys-append text (x ∷ xs) ys = ap (λ (l : List (List ℕ)). keyword_at text x ∷ l) (keys-append text xs ys)

or_swap : (a s b : Bool) → (a || (s || b)) ≡ (s || (a || b))
or_swap true true b = refl
or_swap true false b = refl
or_swap false s b = refl

split_at : (ps : List ℕ) (k i : ℕ) → i ≤ k → take k ps ≡ take i ps ++ take (k - i) (drop i ps)
split_at ps zero zero h = refl
split_at ps (suc k) zero h = let e : suc k - 0 ≡ suc k = omega arith in rw e
split_at ps zero (suc i) h = absurd (omega arith)
split_at [] (suc k) (suc i) h = go (suc k - suc i)
  where
    go : (n : ℕ) → ◌≡◌ {A = List ℕ} [] (take n [])
    go zero = refl
    go (suc n) = refl
split_at (p ∷ ps) (suc k) (suc i) h = let e : suc k - suc i ≡ k - i = omega arith in rw (e, split_at ps k i (omega arith))

pub inserted-has : (text : List ℕ) {ps qs : List ℕ} {k i start : ℕ} → Inserted ps k i start qs → i ≤ k → k < length ps → (key : List ℕ)
    → has_key key (keys_at text (take (suc k) qs)) ≡ (same_bytes (keyword_at text start) key || has_key key (keys_at text (take k ps)))
unfolding has_key
inserted-has text {ps} {qs} {k} {i} {start} f h r key =
    let a = has_key key (keys_at text (take i ps)) in
    let b = has_key key (keys_at text (take (k - i) (drop i ps))) in
    rw (inserted-is f h r, keys-append, has-append, split_at ps k i h, keys-append, has-append) (or_swap a (same_bytes (keyword_at text start) key) b)

-- a keyword at a place is among them, and one that differs from all is not
pub has-at : (text key ps : List ℕ) (j : ℕ) → j < length ps → same_bytes (key_at text ps j) key ≡ true → has_key key (keys_at text ps) ≡ true
unfolding has_key
has-at text key [] j h e = absurd (omega arith)
has-at text key (p ∷ ps) zero h e = rw e
has-at text key (p ∷ ps) (suc j) h e = rw (has-at text key ps j (omega arith) e) (or-true (same_bytes (keyword_at text p) key))
  where
    or-true : (b : Bool) → (b || true) ≡ true
    or-true true = refl
    or-true false = refl

pub has-none : (text key ps : List ℕ) → ((j : ℕ) → j < length ps → same_bytes (key_at text ps j) key ≡ false) → has_key key (keys_at text ps) ≡ false
unfolding has_key
has-none text key [] h = refl
has-none text key (p ∷ ps) h = rw (h 0 (omega arith), has-none text key ps (λ j l. h (suc j) (omega arith)))

-- a free place is that of a keyword that is not there
free-differs : {text ps key : List ℕ} {i : ℕ} → Between text ps key i → (j : ℕ) → j < length ps → Two j i → same_bytes (key_at text ps j) key ≡ false
free-differs {text} {ps} {key} f j l (lower x) = same_by (key_at text ps j) key (f.low j x)
free-differs {text} {ps} {key} f j l (equal x) = same_by (key_at text ps j) key (f.high j (omega arith) l)
free-differs {text} {ps} {key} f j l (higher x) = same_by (key_at text ps j) key (f.high j (omega arith) l)

pub free-none : {text ps key : List ℕ} {i : ℕ} → Between text ps key i → has_key key (keys_at text ps) ≡ false
free-none {text} {ps} {key} {i} f = has-none text key ps (λ j l. free-differs f j l (two j i))

-- where the keywords rise, so do their answers to a comparison with the key
risen : (text key ps : List ℕ) (i j : ℕ) (o : Ordering) → compared (key_at text ps i) key ≡ o → compared (key_at text ps i) (key_at text ps j) ≡ Less → ordering_index o ≤ ordering_index (compared (key_at text ps j) key)
risen text key ps i j Less e l = omega arith
risen text key ps i j Equal e l =
    let q : compared key (key_at text ps j) ≡ Less = sym (nat_list_cmp_total.congr (key_at text ps i) key (key_at text ps j) e) ∙ l in
    rw (reversed key (key_at text ps j) q) (omega arith)
risen text key ps i j Greater e l =
    let q = before-trans key (key_at text ps i) (key_at text ps j) (reversed (key_at text ps i) key e) l in
    rw (reversed key (key_at text ps j) q) (omega arith)

pub rising-index : (text key ps : List ℕ) → Rising text ps → IsNonDecreasingBy (λ p. ordering_index (compared (keyword_at text p) key)) ps
rising-index text key ps rising = IsNonDecreasingBy-from_default (λ p. ordering_index (compared (keyword_at text p) key)) ps 0 (λ i j h l. go i j h l (two i j))
  where
    go : (i j : ℕ) → i ≤ j → j < length ps → Two i j → ordering_index (compared (key_at text ps i) key) ≤ ordering_index (compared (key_at text ps j) key)
    go i j h l (lower x) = risen text key ps i j _ refl (rising i j x l)
    go i j h l (equal x) = rw x (omega arith)
    go i j h l (higher x) = absurd (omega arith)

-- what a binary search by the keywords answers
pub searched : (text ps key : List ℕ) (r : Result ℕ ℕ) → Rising text ps → IsSearchInRange r (length ps) → IsBinarySearchResult (λ p. compared (keyword_at text p) key) ps r → Sought text ps key (result_err r)
searched text ps key (Ok i) rising h s = has-at text key ps i h (same_by (key_at text ps i) key (s 0))
searched text ps key (Err i) rising h s =
    let p = s (rising-index text key ps rising) in
    record { upto = h; low = λ j l. p.0 j 0 (omega arith) l; high = λ j g l. p.1 j 0 g l }

-- the places with the new one are in order again
module _ {text ps qs key : List ℕ} {k i start : ℕ} (f : Inserted ps k i start qs) (w : Between text (take k ps) key i) (h : i ≤ k) (r : k < length ps) (e : keyword_at text start ≡ key) (rising : Rising text (take k ps)) where
  old : (m : ℕ) → m < k → key_at text (take k ps) m ≡ keyword_at text (get_or ps m 0)
  old m l = ap (keyword_at text) (get_or-take k ps m 0 l)

  new : (m : ℕ) → m < suc k → key_at text (take (suc k) qs) m ≡ keyword_at text (get_or qs m 0)
  new m l = ap (keyword_at text) (get_or-take (suc k) qs m 0 l)

  count : length (take k ps) ≡ k
  count = length-take-le k ps (omega arith)

  new-low : (m : ℕ) → m < i → key_at text (take (suc k) qs) m ≡ key_at text (take k ps) m
  new-low m l = new m (omega arith) ∙ ap (keyword_at text) (f.low m l) ∙ sym (old m (omega arith))

  new-here : key_at text (take (suc k) qs) i ≡ key
  new-here = new i (omega arith) ∙ ap (keyword_at text) f.here ∙ e

  new-high : (m : ℕ) → i < m → m < suc k → key_at text (take (suc k) qs) m ≡ key_at text (take k ps) (m - 1)
  new-high m l g = new m g ∙ ap (keyword_at text) (f.high m l (omega arith)) ∙ sym (old (m - 1) (omega arith))

  rising-by : (x y : ℕ) → x < y → y < suc k → Two x i → Two y i → compared (key_at text (take (suc k) qs) x) (key_at text (take (suc k) qs) y) ≡ Less
  rising-by x y l g (lower a) (lower b) = rw (new-low x a, new-low y b) (rising x y l (omega (arith, count)))
  rising-by x y l g (lower a) (equal b) = rw (new-low x a, b, new-here) (w.low x a)
  rising-by x y l g (lower a) (higher b) = rw (new-low x a, new-high y b g) (rising x (y - 1) (omega arith) (omega (arith, count)))
  rising-by x y l g (equal a) (lower b) = absurd (omega arith)
  rising-by x y l g (equal a) (equal b) = absurd (omega arith)
  rising-by x y l g (equal a) (higher b) =
      rw (a, new-here, new-high y b g) (reversed (key_at text (take k ps) (y - 1)) key (w.high (y - 1) (omega arith) (omega (arith, count))))
  rising-by x y l g (higher a) (lower b) = absurd (omega arith)
  rising-by x y l g (higher a) (equal b) = absurd (omega arith)
  rising-by x y l g (higher a) (higher b) = rw (new-high x a (omega arith), new-high y b g) (rising (x - 1) (y - 1) (omega arith) (omega (arith, count)))

  pub inserted_rising : Rising text (take (suc k) qs)
  inserted_rising x y l g =
      let n : length (take (suc k) qs) ≡ suc k = length-take-le (suc k) qs (omega (arith, f.same)) in
      rising-by x y l (omega arith) (two x i) (two y i)
