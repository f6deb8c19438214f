-- What it is that no entry is bad: each is well formed and at a marked pixel, and no pixel has two.
-- Assumes nothing.
use Rattle.marks.specs.Steps.{entry_read}
use Rattle.marks.specs.declared.Entry.{Entry}
use mathlib.Core.Path.{◌≡◌, refl, sym, ◌∙◌}
use mathlib.Core.Bool.{Bool, true, false, not, ◌&&◌}
use mathlib.Core.List.{List, [], ◌∷◌, ◌++◌}
use Prim.Native.Nat.{ℕ, suc, ◌+◌, ◌≤◌}
use native.Mathlib.Nat.{zero-add}
use native.Mathlib.Omega.{arith}
use lib.Dec.{eqb}
use borrow.Author.Tests.{eqb-true, eq-eqb, not-true}
use Rattle.std.specs.Prelude.{if◌then◌else◌, Err, Ok, None, Option, Some}
use Rattle.lists.proofs.Tests.{and-true-left, and-true-right}
use Rattle.layout.specs.declared.Width.{Width}
use Rattle.refusal.specs.declared.Refusal.{Refusal}
use Rattle.refusal.specs.declared.Refusal.TheVariants as R
use Rattle.marks.specs.Marks.{marked_at, is_for, has_entry, is_good, first_bad}

-- how many entries are for pixel number p
unfoldable pub entries_for : ℕ → List (Option Entry) → ℕ
entries_for p [] = 0
entries_for p (e ∷ es) = if is_for p e then suc (entries_for p es) else entries_for p es

abbrev pub is_read : Option Entry → Bool
is_read None = false
is_read (Some en) = true

-- every entry is well formed
unfoldable pub all_read : List (Option Entry) → Bool
all_read [] = true
all_read (e ∷ es) = is_read e && all_read es

-- every entry is well formed and at a marked pixel, and no pixel has two
pub record Standing (w : Width) (vs : List ℕ) (es : List (Option Entry)) : Type 0 where
  pub formed : all_read es ≡ true
  pub most : (p : ℕ) → entries_for p es ≤ 1
  pub unmarked : (p : ℕ) → marked_at w vs p ≡ false → entries_for p es ≡ 0

pub never : {A : Type 0} → true ≡ false → A
never q = absurd (let y : ◌≡◌ {A = ℕ} 0 1 = cc in omega arith)

for-append : (p : ℕ) (a b : List (Option Entry)) → entries_for p (a ++ b) ≡ entries_for p a + entries_for p b
unfolding entries_for
for-append p [] b = sym (zero-add (entries_for p b))
for-append p (e ∷ a) b = go (is_for p e) refl (for-append p a b)
  where
    go : (t : Bool) → is_for p e ≡ t → entries_for p (a ++ b) ≡ entries_for p a + entries_for p b → entries_for p (e ∷ (a ++ b)) ≡ entries_for p (e ∷ a) + entries_for p b
    go true q ih = rw q (omega (arith, ih))
    go false q ih = rw q ih

pub has_some : (p : ℕ) (es : List (Option Entry)) → has_entry p es ≡ true → 1 ≤ entries_for p es
unfolding entries_for has_entry
has_some p [] h = never (sym h)
has_some p (e ∷ es) h = go (is_for p e) refl (has_some p es)
  where
    go : (t : Bool) → is_for p e ≡ t → (has_entry p es ≡ true → 1 ≤ entries_for p es) → 1 ≤ entries_for p (e ∷ es)
    go true q ih = rw q (omega arith)
    go false q ih = rw q (ih (rw q at h))

pub has-none : (p : ℕ) (es : List (Option Entry)) → has_entry p es ≡ false → entries_for p es ≡ 0
unfolding entries_for has_entry
has-none p [] h = refl
has-none p (e ∷ es) h = go (is_for p e) refl (has-none p es)
  where
    go : (t : Bool) → is_for p e ≡ t → (has_entry p es ≡ false → entries_for p es ≡ 0) → entries_for p (e ∷ es) ≡ 0
    go true q ih = never (rw q at h)
    go false q ih = rw q (ih (rw q at h))

for-one : (p v q : ℕ) → entries_for p (Some (entry_read v q) ∷ []) ≡ if◌then◌else◌ (eqb p q) 1 0
unfolding entries_for
for-one p v q = refl

unfold-nil : all_read [] ≡ true
unfolding all_read
unfold-nil = refl

no_of : (p : ℕ) → entries_for p [] ≡ 0
unfolding entries_for
no_of p = refl

none_of : (p : ℕ) → entries_for p [] ≤ 1
none_of p = omega (arith, no_of p)

module _ (w : Width) (vs : List ℕ) where
  -- entries es behind earlier ones, all good: at marked pixels, at most one for each, none where an earlier one is
  record Once (earlier es : List (Option Entry)) : Type 0 where
    formed : all_read es ≡ true
    most : (p : ℕ) → entries_for p es ≤ 1
    later : (p : ℕ) → 1 ≤ entries_for p earlier → entries_for p es ≡ 0
    unmarked : (p : ℕ) → marked_at w vs p ≡ false → entries_for p es ≡ 0

  -- what an entry for q adds at pixel number p
  Adds : List (Option Entry) → List (Option Entry) → ℕ → Type 0
  Adds earlier es p = (entries_for p es ≤ 1) × (1 ≤ entries_for p earlier → entries_for p es ≡ 0) × (marked_at w vs p ≡ false → entries_for p es ≡ 0)

  adds : (earlier : List (Option Entry)) (v q : ℕ) (es : List (Option Entry)) → marked_at w vs q ≡ true → entries_for q earlier ≡ 0 → Once (earlier ++ (Some (entry_read v q) ∷ [])) es
      → (p : ℕ) → Adds earlier (Some (entry_read v q) ∷ es) p
  unfolding Adds
  adds earlier v q es m z f p = go (eqb p q) refl
    where
      split : entries_for p (Some (entry_read v q) ∷ es) ≡ entries_for p (Some (entry_read v q) ∷ []) + entries_for p es
      split = for-append p (Some (entry_read v q) ∷ []) es

      before : entries_for p (earlier ++ (Some (entry_read v q) ∷ [])) ≡ entries_for p earlier + entries_for p (Some (entry_read v q) ∷ [])
      before = for-append p earlier (Some (entry_read v q) ∷ [])

      go : (t : Bool) → eqb p q ≡ t → Adds earlier (Some (entry_read v q) ∷ es) p
      go true k =
          let o : entries_for p (Some (entry_read v q) ∷ []) ≡ 1 = for-one p v q ∙ rw k in
          let l : entries_for p es ≡ 0 = f.later p (omega (arith, before, o)) in
          let e : p ≡ q = eqb-true p q k in
          let y : entries_for p earlier ≡ 0 = rw e z in
          (omega (arith, split, o, l), (λ h. absurd (omega (arith, y, h))), λ h. never (sym m ∙ (rw e at h)))
      go false k =
          let o : entries_for p (Some (entry_read v q) ∷ []) ≡ 0 = for-one p v q ∙ rw k in
          (omega (arith, split, o, f.most p), (λ h. omega (arith, split, o, f.later p (omega (arith, before, h)))), λ h. omega (arith, split, o, f.unmarked p h))

  once_more : (earlier : List (Option Entry)) (e : Option Entry) (es : List (Option Entry)) → is_good w vs earlier e ≡ true → Once (earlier ++ (e ∷ [])) es → Once earlier (e ∷ es)
  unfolding is_good all_read Adds
  once_more earlier None es g f = never (sym g)
  once_more earlier (Some en) es g f =
      let m : marked_at w vs en.pixel ≡ true = and-true-left (marked_at w vs en.pixel) (not (has_entry en.pixel earlier)) g in
      let z : entries_for en.pixel earlier ≡ 0 = has-none en.pixel earlier (not-true _ (and-true-right (marked_at w vs en.pixel) (not (has_entry en.pixel earlier)) g)) in
      let a = adds earlier en.intensity en.pixel es m z f in
      record { formed = f.formed; most = λ p. (a p).0; later = λ p. (a p).1; unmarked = λ p. (a p).2 }

  once : (es earlier : List (Option Entry)) (k : ℕ) → first_bad w vs earlier k es ≡ Ok tt → Once earlier es
  unfolding first_bad
  once [] earlier k g = record { formed = unfold-nil; most = λ p. none_of p; later = λ p h. no_of p; unmarked = λ p h. no_of p }
  once (e ∷ es) earlier k g = go (is_good w vs earlier e) refl (once es (earlier ++ (e ∷ [])) (suc k))
    where
      go : (t : Bool) → is_good w vs earlier e ≡ t → (first_bad w vs (earlier ++ (e ∷ [])) (suc k) es ≡ Ok tt → Once (earlier ++ (e ∷ [])) es) → Once earlier (e ∷ es)
      go true q ih = once_more earlier e es q (ih (rw q at g))
      go false q ih = absurd (let b : Err (R.BadEntry k) ≡ Ok tt = rw q at g in let y : ◌≡◌ {A = ℕ} 0 1 = cc in omega arith)

  marked-of : (p : ℕ) (es : List (Option Entry)) → (marked_at w vs p ≡ false → entries_for p es ≡ 0) → 1 ≤ entries_for p es → marked_at w vs p ≡ true
  marked-of p es f h = go (marked_at w vs p) refl
    where
      go : (t : Bool) → marked_at w vs p ≡ t → marked_at w vs p ≡ true
      go true q = q
      go false q = absurd (omega (arith, f q))

  first_of : (p : ℕ) (es : List (Option Entry)) → entries_for p es ≡ 0 → has_entry p es ≡ false
  first_of p es h = go (has_entry p es) refl
    where
      go : (t : Bool) → has_entry p es ≡ t → has_entry p es ≡ false
      go true q = absurd (omega (arith, has_some p es q))
      go false q = q

  good_of : (earlier : List (Option Entry)) (e : Option Entry) (es : List (Option Entry)) → is_read e ≡ true → ((p : ℕ) → marked_at w vs p ≡ false → entries_for p (e ∷ es) ≡ 0)
      → ((p : ℕ) → entries_for p earlier + entries_for p (e ∷ es) ≤ 1) → is_good w vs earlier e ≡ true
  unfolding is_good
  good_of earlier None es r u m = r
  good_of earlier (Some en) es r u m =
      let o : entries_for en.pixel (Some (entry_read en.intensity en.pixel) ∷ []) ≡ 1 = for-one en.pixel en.intensity en.pixel ∙ rw (eq-eqb en.pixel en.pixel refl) in
      let s : entries_for en.pixel (Some (entry_read en.intensity en.pixel) ∷ es) ≡ entries_for en.pixel (Some (entry_read en.intensity en.pixel) ∷ []) + entries_for en.pixel es = for-append en.pixel (Some (entry_read en.intensity en.pixel) ∷ []) es in
      let a : marked_at w vs en.pixel ≡ true = marked-of en.pixel (Some (entry_read en.intensity en.pixel) ∷ es) (u en.pixel) (omega (arith, o, s)) in
      let b : has_entry en.pixel earlier ≡ false = first_of en.pixel earlier (omega (arith, o, s, m en.pixel)) in
      rw (a, b)

  none-bad : (es earlier : List (Option Entry)) (k : ℕ) → all_read es ≡ true → ((p : ℕ) → marked_at w vs p ≡ false → entries_for p es ≡ 0)
      → ((p : ℕ) → entries_for p earlier + entries_for p es ≤ 1) → first_bad w vs earlier k es ≡ Ok tt
  unfolding first_bad all_read
  none-bad [] earlier k r u m = refl
  none-bad (e ∷ es) earlier k r u m =
      let g : is_good w vs earlier e ≡ true = good_of earlier e es (and-true-left (is_read e) (all_read es) r) u m in
      let s : (p : ℕ) → entries_for p (e ∷ es) ≡ entries_for p (e ∷ []) + entries_for p es = λ p. for-append p (e ∷ []) es in
      let t : (p : ℕ) → entries_for p (earlier ++ (e ∷ [])) ≡ entries_for p earlier + entries_for p (e ∷ []) = λ p. for-append p earlier (e ∷ []) in
      rw g
      (none-bad es (earlier ++ (e ∷ [])) (suc k) (and-true-right (is_read e) (all_read es) r) (λ p h. omega (arith, s p, u p h)) (λ p. omega (arith, s p, t p, m p)))

  -- no entry is bad exactly if that holds
  pub good-stands : (es : List (Option Entry)) → first_bad w vs [] 0 es ≡ Ok tt → Standing w vs es
  good-stands es g = let o = once es [] 0 g in record { formed = o.formed; most = o.most; unmarked = o.unmarked }

  pub stands_good : (es : List (Option Entry)) → Standing w vs es → first_bad w vs [] 0 es ≡ Ok tt
  stands_good es s = none-bad es [] 0 s.formed s.unmarked (λ p. omega (arith, no_of p, s.most p))

-- a bad entry gives refusal 13 and no other
pub bad-is-entry : (w : Width) (vs : List ℕ) (earlier : List (Option Entry)) (k : ℕ) (es : List (Option Entry)) {r : Refusal} → first_bad w vs earlier k es ≡ Err r → ((j : ℕ) → r ≡ R.BadEntry j → ⊥) → ⊥
unfolding first_bad
bad-is-entry w vs earlier k [] h n = let y : ◌≡◌ {A = ℕ} 0 1 = cc in omega arith
bad-is-entry w vs earlier k (e ∷ es) {r} h n = go (is_good w vs earlier e) refl (λ q. bad-is-entry w vs (earlier ++ (e ∷ [])) (suc k) es q n)
  where
    go : (b : Bool) → is_good w vs earlier e ≡ b → (first_bad w vs (earlier ++ (e ∷ [])) (suc k) es ≡ Err r → ⊥) → ⊥
    go true q f = f (rw q at h)
    go false q f = let z : Err (R.BadEntry k) ≡ Err r = rw q at h in n k (cc)
