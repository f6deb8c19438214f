-- Laws of the steps: on a list and then on another, and where no mark stands.
-- Assumes nothing.
use Rattle.std.proofs.Common.{◌≡◌, ℕ, suc, ◌+◌, ◌%◌, ◌<◌, ◌≤◌, Bool, true, false, not, ◌&&◌, ◌||◌, eqb, ltb, List, [], ◌∷◌, ◌++◌, map, length, get_or, drop, sym, refl, ap, ◌∙◌, arith, drop-drop, ltb-false, le-ltb, lt-ltb, ne_eqb}
use Rattle.std.specs.Prelude.{if◌then◌else◌}
use Rattle.expand.specs.Steps.{fill_by, replace, count, sum_too_large, any_too_large}
use Rattle.expand.specs.Blocks.{wrapped, wrap_if}

-- The laws over a test t hold whether a step applies or not.

length-choice : (t : Bool) (xs ys : List ℕ) → length xs ≡ length ys → length (if◌then◌else◌ t xs ys) ≡ length ys
length-choice true xs ys e = e
length-choice false xs ys e = refl

pub length-fill : (m : ℕ) (g : ℕ → ℕ) (xs es : List ℕ) → length (fill_by m g xs es) ≡ length xs
unfolding fill_by
length-fill m g [] es = refl
length-fill m g (x ∷ xs) es =
    length-choice (eqb x m) _ _ (ap suc (length-fill m g xs (drop 1 es) ∙ sym (length-fill m g xs es)))
    ∙ ap suc (length-fill m g xs es)

pub length-fill_if : (t : Bool) (m : ℕ) (g : ℕ → ℕ) (xs es : List ℕ) → length (if◌then◌else◌ t (fill_by m g xs es) xs) ≡ length xs
length-fill_if t m g xs es = length-choice t _ xs (length-fill m g xs es)

pub fill-append : (m : ℕ) (g : ℕ → ℕ) (xs ys es : List ℕ) → fill_by m g (xs ++ ys) es ≡ fill_by m g xs es ++ fill_by m g ys (drop (count m xs) es)
unfolding fill_by count
fill-append m g [] ys es = refl
fill-append m g (x ∷ xs) ys es = go (eqb x m) refl (fill-append m g xs ys (drop 1 es)) (fill-append m g xs ys es)
  where
    go : (t : Bool) → eqb x m ≡ t
        → fill_by m g (xs ++ ys) (drop 1 es) ≡ fill_by m g xs (drop 1 es) ++ fill_by m g ys (drop (count m xs) (drop 1 es))
        → fill_by m g (xs ++ ys) es ≡ fill_by m g xs es ++ fill_by m g ys (drop (count m xs) es)
        → fill_by m g ((x ∷ xs) ++ ys) es ≡ fill_by m g (x ∷ xs) es ++ fill_by m g ys (drop (count m (x ∷ xs)) es)
    go true e h k = let n : 1 + count m xs ≡ suc (count m xs) = omega arith in rw (e, h, drop-drop, n)
    go false e h k = rw (e, k)

-- a step on xs, and then on ys from entry k on, which xs left
pub stage : (t : Bool) (m : ℕ) (g : ℕ → ℕ) (xs ys es : List ℕ) (k : ℕ) → k ≡ if◌then◌else◌ t (count m xs) 0
    → if◌then◌else◌ t (fill_by m g (xs ++ ys) es) (xs ++ ys) ≡ if◌then◌else◌ t (fill_by m g xs es) xs ++ if◌then◌else◌ t (fill_by m g ys (drop k es)) ys
stage true m g xs ys es k e = rw (fill-append, e)
stage false m g xs ys es k e = refl

pub count-append : (m : ℕ) (xs ys : List ℕ) → count m (xs ++ ys) ≡ count m xs + count m ys
unfolding count
count-append m [] ys = omega arith
count-append m (x ∷ xs) ys = go (eqb x m) refl (count-append m xs ys)
  where
    go : (t : Bool) → eqb x m ≡ t → count m (xs ++ ys) ≡ count m xs + count m ys → count m ((x ∷ xs) ++ ys) ≡ count m (x ∷ xs) + count m ys
    go true e h = rw e (omega (arith, h))
    go false e h = rw (e, h)

pub count_if-append : (t : Bool) (m : ℕ) (xs ys : List ℕ) → if◌then◌else◌ t (count m (xs ++ ys)) 0 ≡ if◌then◌else◌ t (count m xs) 0 + if◌then◌else◌ t (count m ys) 0
count_if-append true m xs ys = count-append m xs ys
count_if-append false m xs ys = omega arith

pub count-le : (m : ℕ) (xs : List ℕ) → count m xs ≤ length xs
unfolding count
count-le m [] = omega arith
count-le m (x ∷ xs) = go (eqb x m) refl (count-le m xs)
  where
    go : (t : Bool) → eqb x m ≡ t → count m xs ≤ length xs → count m (x ∷ xs) ≤ length (x ∷ xs)
    go true e h = rw e (omega arith)
    go false e h = rw e (omega arith)

pub count_if-le : (t : Bool) (m : ℕ) (xs : List ℕ) → if◌then◌else◌ t (count m xs) 0 ≤ length xs
count_if-le true m xs = count-le m xs
count_if-le false m xs = omega arith

-- one more number at the end
pub count-more : (m : ℕ) (xs : List ℕ) (x : ℕ) → count m (xs ++ (x ∷ [])) ≡ count m xs + count m (x ∷ [])
count-more m xs x = count-append m xs (x ∷ [])

-- no mark: only g
pub fill_none : (m : ℕ) (g : ℕ → ℕ) (xs es : List ℕ) → count m xs ≡ 0 → fill_by m g xs es ≡ map g xs
unfolding fill_by count
fill_none m g [] es h = refl
fill_none m g (x ∷ xs) es h = go (eqb x m) refl (fill_none m g xs es)
  where
    go : (t : Bool) → eqb x m ≡ t → (count m xs ≡ 0 → fill_by m g xs es ≡ map g xs) → fill_by m g (x ∷ xs) es ≡ map g (x ∷ xs)
    go true e f = absurd (let z : suc (count m xs) ≡ 0 = rw e at h in omega arith)
    go false e f = rw (e, f (rw e at h))

map_same : (xs : List ℕ) → map (λ (x : ℕ). x) xs ≡ xs
map_same [] = refl
map_same (x ∷ xs) = rw (map_same xs)

pub replace-none : (m : ℕ) (xs es : List ℕ) → count m xs ≡ 0 → replace m xs es ≡ xs
replace-none m xs es h = fill_none m _ xs es h ∙ map_same xs

-- what a search found
pub none_of : (m : ℕ) (xs : List ℕ) (r : Bool) → r ≡ ltb 0 (count m xs) → r ≡ false → count m xs ≡ 0
none_of m xs r e f = let h = ltb-false 0 (count m xs) (sym e ∙ f) in omega arith

-- numbers that are all below m
pub count-below : (m : ℕ) (xs : List ℕ) → ((i : ℕ) → i < length xs → get_or xs i 0 < m) → count m xs ≡ 0
unfolding count
count-below m [] h = refl
count-below m (x ∷ xs) h =
    rw
    (ne_eqb x m (λ e. let l : x < m = h 0 (omega arith) in omega arith), count-below m xs (λ i k. h (suc i) (omega arith)))

-- sums that are too large

pub sum_fits : (b x : ℕ) → x + b ≤ 4294967295 → sum_too_large b x ≡ false
sum_fits b x h = go (eqb x 0)
  where
    go : (t : Bool) → (not t && ltb 4294967295 (x + b)) ≡ false
    go true = refl
    go false = le-ltb 4294967295 (x + b) h

pub sum_past : (b x : ℕ) → b ≤ 4294967295 → 4294967295 < x + b → sum_too_large b x ≡ true
sum_past b x k h = rw (ne_eqb x 0 (λ e. omega arith)) (lt-ltb 4294967295 (x + b) h)

or_assoc : (a b c : Bool) → (a || b || c) ≡ (a || (b || c))
or_assoc true b c = refl
or_assoc false b c = refl

large-append : (b : ℕ) (xs ys : List ℕ) → any_too_large b (xs ++ ys) ≡ (any_too_large b xs || any_too_large b ys)
unfolding any_too_large
large-append b [] ys = refl
large-append b (x ∷ xs) ys = rw (large-append b xs ys) (sym (or_assoc (sum_too_large b x) (any_too_large b xs) (any_too_large b ys)))

pub large_if-append : (t : Bool) (b : ℕ) (xs ys : List ℕ)
    → if◌then◌else◌ t (any_too_large b (xs ++ ys)) false ≡ (if◌then◌else◌ t (any_too_large b xs) false || if◌then◌else◌ t (any_too_large b ys) false)
large_if-append true b xs ys = large-append b xs ys
large_if-append false b xs ys = refl

pub no : ◌≡◌ {A = Bool} true false → ⊥
no e = let z : ◌≡◌ {A = ℕ} 0 1 = cc in omega arith

neither : (p q : Bool) → (p || q) ≡ false → (p ≡ false) × (q ≡ false)
neither true q h = absurd (no h)
neither false q h = (refl, h)

-- sums that fit are stored as they are
wrap-fits : (b : ℕ) (xs es : List ℕ) → any_too_large b xs ≡ false → fill_by 0 (wrapped b) xs es ≡ fill_by 0 (λ (x : ℕ). x + b) xs es
unfolding any_too_large fill_by
wrap-fits b [] es h = refl
wrap-fits b (x ∷ xs) es h = go (eqb x 0) refl (wrap-fits b xs)
  where
    go : (t : Bool) → eqb x 0 ≡ t
        → ((es : List ℕ) → any_too_large b xs ≡ false → fill_by 0 (wrapped b) xs es ≡ fill_by 0 (λ (x : ℕ). x + b) xs es)
        → fill_by 0 (wrapped b) (x ∷ xs) es ≡ fill_by 0 (λ (x : ℕ). x + b) (x ∷ xs) es
    go true e f = let k : any_too_large b xs ≡ false = rw e at h in rw (e, f (drop 1 es) k)
    go false e f =
        let k : (ltb 4294967295 (x + b) || any_too_large b xs) ≡ false = rw e at h in
        let l = neither (ltb 4294967295 (x + b)) (any_too_large b xs) k in
        let y = ltb-false 4294967295 (x + b) l.0 in
        let m : (x + b) % 4294967296 ≡ x + b = omega arith in
        rw (e, f es l.1, m)

pub wrap_if-fits : (t : Bool) (b : ℕ) (xs es : List ℕ) → if◌then◌else◌ t (any_too_large b xs) false ≡ false
    → wrap_if t b xs es ≡ if◌then◌else◌ t (fill_by 0 (λ (x : ℕ). x + b) xs es) xs
wrap_if-fits true b xs es h = wrap-fits b xs es h
wrap_if-fits false b xs es h = refl
