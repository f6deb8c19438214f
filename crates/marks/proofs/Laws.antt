-- A pixel waits exactly while it is marked and no entry has come for it: so a loop over the entries that looks only at the array finds
-- the first bad one, and the marks that it leaves are the marked pixels without an entry.
-- Assumes nothing.
use Rattle.marks.specs.Steps.{entry_read}
use Rattle.marks.specs.declared.Entry.{Entry}
use mathlib.Core.Path.{◌≡◌, refl, sym, ap, ◌∙◌}
use mathlib.Core.Bool.{Bool, true, false, not, ◌&&◌}
use mathlib.Core.List.{List, [], ◌∷◌, ◌++◌, append-nil}
use Prim.Native.Nat.{ℕ, zero, suc, ◌+◌, ◌<◌}
use native.Mathlib.Nat.{add-zero, zero-add, le_of_suc-le-suc, not-suc-le-zero}
use native.Mathlib.Omega.{arith}
use lib.ListN.{length, get_or, set, length-set}
use lib.Seq.{append_snoc, get_or-set_same, get_or-set_other, ext_get_or}
use lib.Dec.{eqb, ltb}
use borrow.Author.Tests.{not-true, eq-eqb, ne_eqb, eqb-true, eqb-false, ltb-true}
use Rattle.std.specs.Prelude.{if◌then◌else◌, Err, Ok, None, Option, Some}
use Rattle.lists.proofs.Tests.{and-true-left, and-true-right}
use Rattle.layout.specs.declared.Width.{Width}
use Rattle.refusal.specs.declared.Refusal.TheVariants as R
use Rattle.marks.specs.Marks.{is_marked, marked_at, is_for, intensity_of, has_entry, is_good, first_bad, intensity_at, with_entries}
use Rattle.marks.specs.Steps.{takes, put, placing, placed, count_of}

-- no entry has the intensity by which a pixel waits
abbrev pub Apart : ℕ → List (Option Entry) → Type 0
Apart hold [] = Unit {0}
Apart hold (e ∷ es) = (intensity_of e ≡ hold → ⊥) × Apart hold es

apart-append : (hold : ℕ) (a b : List (Option Entry)) → Apart hold a → Apart hold b → Apart hold (a ++ b)
apart-append hold [] b p q = q
apart-append hold (e ∷ a) b p q = (p.0, apart-append hold a b p.1 q)

-- the entries of a list and of one behind it
intensity-append : (none p : ℕ) (a b : List (Option Entry)) → intensity_at none p (a ++ b) ≡ intensity_at (intensity_at none p b) p a
unfolding intensity_at
intensity-append none p [] b = refl
intensity-append none p (e ∷ a) b = ap (λ (x : ℕ). if◌then◌else◌ (is_for p e) (intensity_of e) x) (intensity-append none p a b)

intensity-none : (none p : ℕ) (es : List (Option Entry)) → has_entry p es ≡ false → intensity_at none p es ≡ none
unfolding intensity_at has_entry
intensity-none none p [] h = refl
intensity-none none p (e ∷ es) h = go (is_for p e) refl (intensity-none none p es)
  where
    go : (b : Bool) → is_for p e ≡ b → (has_entry p es ≡ false → intensity_at none p es ≡ none) → intensity_at none p (e ∷ es) ≡ none
    go true q f = absurd (let z : true ≡ false = rw q at h in let y : ◌≡◌ {A = ℕ} 0 1 = cc in omega arith)
    go false q f = rw q (f (rw q at h))

pub intensity-some : (a b p : ℕ) (es : List (Option Entry)) → has_entry p es ≡ true → intensity_at a p es ≡ intensity_at b p es
unfolding intensity_at has_entry
intensity-some a b p [] h = absurd (let y : ◌≡◌ {A = ℕ} 0 1 = cc in omega arith)
intensity-some a b p (e ∷ es) h = go (is_for p e) refl (intensity-some a b p es)
  where
    go : (t : Bool) → is_for p e ≡ t → (has_entry p es ≡ true → intensity_at a p es ≡ intensity_at b p es) → intensity_at a p (e ∷ es) ≡ intensity_at b p (e ∷ es)
    go true q f = rw q
    go false q f = rw q (f (rw q at h))

intensity-apart : (hold none p : ℕ) (es : List (Option Entry)) → Apart hold es → has_entry p es ≡ true → intensity_at none p es ≡ hold → ⊥
unfolding intensity_at has_entry
intensity-apart hold none p [] s h = λ k. let y : ◌≡◌ {A = ℕ} 0 1 = cc in omega arith
intensity-apart hold none p (e ∷ es) s h = go (is_for p e) refl (intensity-apart hold none p es s.1)
  where
    go : (t : Bool) → is_for p e ≡ t → (has_entry p es ≡ true → intensity_at none p es ≡ hold → ⊥) → intensity_at none p (e ∷ es) ≡ hold → ⊥
    go true q f k = s.0 (rw q at k)
    go false q f k = f (rw q at h) (rw q at k)

only-hit : (none j v p : ℕ) → eqb j p ≡ true → intensity_at none j (Some (entry_read v p) ∷ []) ≡ v
unfolding intensity_at
only-hit none j v p q = rw q

only-miss : (none j v p : ℕ) → eqb j p ≡ false → intensity_at none j (Some (entry_read v p) ∷ []) ≡ none
unfolding intensity_at
only-miss none j v p q = rw q

-- a marked pixel still waits exactly if it has no entry
pub waits : (hold p : ℕ) (es : List (Option Entry)) → Apart hold es → eqb (intensity_at hold p es) hold ≡ not (has_entry p es)
waits hold p es s = go (has_entry p es) refl
  where
    go : (t : Bool) → has_entry p es ≡ t → eqb (intensity_at hold p es) hold ≡ not (has_entry p es)
    go true q = rw (q, ne_eqb _ _ (intensity-apart hold hold p es s q))
    go false q = rw (q, eq-eqb _ _ (intensity-none hold p es q))

pub with-length : (none : ℕ) (w : Width) (es : List (Option Entry)) (i : ℕ) (vs : List ℕ) → length (with_entries none w es i vs) ≡ length vs
unfolding with_entries
with-length none w es i [] = refl
with-length none w es i (v ∷ vs) = ap suc (with-length none w es (suc i) vs)

pub with_at : (none : ℕ) (w : Width) (es : List (Option Entry)) (i : ℕ) (vs : List ℕ) (p : ℕ) → p < length vs
    → get_or (with_entries none w es i vs) p 0 ≡ if◌then◌else◌ (is_marked w (get_or vs p 0)) (intensity_at none (i + p) es) (get_or vs p 0)
unfolding with_entries
with_at none w es i [] p h = absurd (not-suc-le-zero h)
with_at none w es i (v ∷ vs) zero h = rw (add-zero i)
with_at none w es i (v ∷ vs) (suc p) h =
    let e : i + suc p ≡ suc i + p = omega arith in
    rw e (with_at none w es (suc i) vs p (le_of_suc-le-suc h))

count_set : (m : ℕ) (xs : List ℕ) (p v : ℕ) → p < length xs → get_or xs p 0 ≡ m → (v ≡ m → ⊥) → count_of m xs ≡ suc (count_of m (set xs p v))
unfolding count_of
count_set m [] p v h e n = absurd (not-suc-le-zero h)
count_set m (x ∷ xs) zero v h e n = rw (eq-eqb x m e, ne_eqb v m n)
count_set m (x ∷ xs) (suc p) v h e n = go (eqb x m) refl (count_set m xs p v (le_of_suc-le-suc h) e n)
  where
    go : (t : Bool) → eqb x m ≡ t → count_of m xs ≡ suc (count_of m (set xs p v)) → count_of m (x ∷ xs) ≡ suc (count_of m (x ∷ set xs p v))
    go true q ih = rw (q, ih)
    go false q ih = rw (q, ih)

-- the pixels when the entries es have come
abbrev pub held : ℕ → Width → List ℕ → List (Option Entry) → List ℕ
held hold w vs es = with_entries hold w es 0 vs

-- no pixel that is not marked holds the number by which one waits
module _ (hold : ℕ) (w : Width) (vs : List ℕ) (plain : (i : ℕ) → is_marked w (get_or vs i 0) ≡ false → get_or vs i 0 ≡ hold → ⊥) where
  -- a good entry, by its parts
  record Good (es : List (Option Entry)) (v p : ℕ) : Type 0 where
    inside : p < length vs
    marked : is_marked w (get_or vs p 0) ≡ true
    first : has_entry p es ≡ false

  good-read : (es : List (Option Entry)) (v p : ℕ) → is_good w vs es (Some (entry_read v p)) ≡ true → Good es v p
  unfolding is_good
  good-read es v p g =
      let a : marked_at w vs p ≡ true = and-true-left (marked_at w vs p) (not (has_entry p es)) g in
      record {
        inside = ltb-true _ _ (and-true-left (ltb p (length vs)) (is_marked w (get_or vs p 0)) a);
        marked = and-true-right (ltb p (length vs)) (is_marked w (get_or vs p 0)) a;
        first = not-true _ (and-true-right (marked_at w vs p) (not (has_entry p es)) g);
      }

  takes-good : (es : List (Option Entry)) (e : Option Entry) → Apart hold es → takes hold (held hold w vs es) e ≡ is_good w vs es e
  unfolding is_good
  takes-good es None s = refl
  takes-good es (Some en) s = rw (with-length hold w es 0 vs) (go (ltb en.pixel (length vs)) refl)
    where
      by-mark : (t : Bool) → is_marked w (get_or vs en.pixel 0) ≡ t
          → eqb (if◌then◌else◌ (is_marked w (get_or vs en.pixel 0)) (intensity_at hold en.pixel es) (get_or vs en.pixel 0)) hold ≡ (is_marked w (get_or vs en.pixel 0) && not (has_entry en.pixel es))
      by-mark true q = rw q (waits hold en.pixel es s)
      by-mark false q = rw q (ne_eqb (get_or vs en.pixel 0) hold (plain en.pixel q))

      go : (t : Bool) → ltb en.pixel (length vs) ≡ t
          → (ltb en.pixel (length vs) && eqb (get_or (held hold w vs es) en.pixel 0) hold) ≡ (ltb en.pixel (length vs) && is_marked w (get_or vs en.pixel 0) && not (has_entry en.pixel es))
      go false q = rw q
      go true q = rw (q, with_at hold w es 0 vs en.pixel (ltb-true _ _ q), zero-add en.pixel) (by-mark (is_marked w (get_or vs en.pixel 0)) refl)

  put-at : (es : List (Option Entry)) (v p : ℕ) → Good es v p → (j : ℕ) → j < length vs
      → get_or (set (held hold w vs es) p v) j 0 ≡ get_or (held hold w vs (es ++ (Some (entry_read v p) ∷ []))) j 0
  put-at es v p g j h = go (eqb j p) refl
    where
      after : get_or (held hold w vs (es ++ (Some (entry_read v p) ∷ []))) j 0
          ≡ if◌then◌else◌ (is_marked w (get_or vs j 0)) (intensity_at (intensity_at hold j (Some (entry_read v p) ∷ [])) j es) (get_or vs j 0)
      after = rw (with_at hold w (es ++ (Some (entry_read v p) ∷ [])) 0 vs j h, zero-add j, intensity-append hold j es (Some (entry_read v p) ∷ []))

      go : (t : Bool) → eqb j p ≡ t → get_or (set (held hold w vs es) p v) j 0 ≡ get_or (held hold w vs (es ++ (Some (entry_read v p) ∷ []))) j 0
      go true q =
          let e : j ≡ p = eqb-true j p q in
          let m : is_marked w (get_or vs j 0) ≡ true = rw e g.marked in
          let n : has_entry j es ≡ false = rw e g.first in
          let o : intensity_at hold j (Some (entry_read v p) ∷ []) ≡ v = only-hit hold j v p q in
          let l : get_or (set (held hold w vs es) p v) j 0 ≡ v = rw e (get_or-set_same (held hold w vs es) p v 0 (rw with-length g.inside)) in
          l ∙ sym (after ∙ rw (m, o) (intensity-none v j es n))
      go false q =
          let o : intensity_at hold j (Some (entry_read v p) ∷ []) ≡ hold = only-miss hold j v p q in
          get_or-set_other (held hold w vs es) p j v 0 (eqb-false j p q) ∙ with_at hold w es 0 vs j h ∙ rw (zero-add j) (sym (after ∙ rw o))

  put-held : (es : List (Option Entry)) (e : Option Entry) → is_good w vs es e ≡ true → put (held hold w vs es) e ≡ held hold w vs (es ++ (e ∷ []))
  unfolding is_good
  put-held es None g = absurd (let y : ◌≡◌ {A = ℕ} 0 1 = cc in omega arith)
  put-held es (Some en) g =
      ext_get_or 0 (set (held hold w vs es) en.pixel en.intensity) (held hold w vs (es ++ (Some (entry_read en.intensity en.pixel) ∷ []))) (simp (length-set, with-length))
      (λ j k. put-at es en.intensity en.pixel (good-read es en.intensity en.pixel g) j (simp (length-set, with-length) at k))

  -- an entry that comes leaves one mark less
  count_held : (es : List (Option Entry)) (e : Option Entry) → Apart hold es → (intensity_of e ≡ hold → ⊥) → is_good w vs es e ≡ true
      → count_of hold (held hold w vs es) ≡ suc (count_of hold (held hold w vs (es ++ (e ∷ []))))
  count_held es None s z g = absurd (let n : false ≡ true = takes-good es None s ∙ g in let y : ◌≡◌ {A = ℕ} 0 1 = cc in omega arith)
  count_held es (Some en) s z g =
      let t : takes hold (held hold w vs es) (Some (entry_read en.intensity en.pixel)) ≡ true = takes-good es (Some (entry_read en.intensity en.pixel)) s ∙ g in
      let i : en.pixel < length (held hold w vs es) = ltb-true en.pixel (length (held hold w vs es)) (and-true-left (ltb en.pixel (length (held hold w vs es))) (eqb (get_or (held hold w vs es) en.pixel 0) hold) t) in
      let q : get_or (held hold w vs es) en.pixel 0 ≡ hold = eqb-true _ _ (and-true-right (ltb en.pixel (length (held hold w vs es))) (eqb (get_or (held hold w vs es) en.pixel 0) hold) t) in
      rw (← put-held es (Some (entry_read en.intensity en.pixel)) g) (count_set hold (held hold w vs es) en.pixel en.intensity i q z)

  pub record Taken (earlier : List (Option Entry)) (k : ℕ) (es : List (Option Entry)) : Type 0 where
    pub answer : placing hold (held hold w vs earlier) k es ≡ first_bad w vs earlier k es
    pub pixels : first_bad w vs earlier k es ≡ Ok tt → placed hold (held hold w vs earlier) es ≡ held hold w vs (earlier ++ es)
    pub left : first_bad w vs earlier k es ≡ Ok tt → count_of hold (held hold w vs earlier) ≡ length es + count_of hold (held hold w vs (earlier ++ es))

  -- the loop's answer and pixels are those of the definition, behind any earlier entries
  pub taken : (es earlier : List (Option Entry)) (k : ℕ) → Apart hold earlier → Apart hold es → Taken earlier k es
  unfolding placing placed first_bad
  taken [] earlier k s z = record {
    answer = refl;
    pixels = λ g. rw (append-nil earlier);
    left = λ g. rw (append-nil earlier) (omega arith);
  }
  taken (e ∷ es) earlier k s z = go (is_good w vs earlier e) refl (taken es (earlier ++ (e ∷ [])) (suc k) (apart-append hold earlier (e ∷ []) s (z.0, tt)) z.1)
    where
      go : (t : Bool) → is_good w vs earlier e ≡ t → Taken (earlier ++ (e ∷ [])) (suc k) es → Taken earlier k (e ∷ es)
      go true q ih = record {
        answer = rw (takes-good earlier e s, q, put-held earlier e q) ih.answer;
        pixels = λ g. rw (takes-good earlier e s, q, put-held earlier e q, ← append_snoc earlier e es) (ih.pixels (rw q at g));
        left = λ g. rw (← append_snoc earlier e es) (omega (arith, count_held earlier e s z.0 q, ih.left (rw q at g)));
      }
      go false q ih = record {
        answer = rw (takes-good earlier e s, q);
        pixels = λ g. absurd (let b : Err (R.BadEntry k) ≡ Ok tt = rw q at g in let y : ◌≡◌ {A = ℕ} 0 1 = cc in omega arith);
        left = λ g. absurd (let b : Err (R.BadEntry k) ≡ Ok tt = rw q at g in let y : ◌≡◌ {A = ℕ} 0 1 = cc in omega arith);
      }
