-- The three tables of a frame: three uses of one law, in an order that never overruns the buffer.
-- Assumes nothing.
use mathlib.Core.Path.{◌≡◌, refl, sym, ap, ◌∙◌}
use mathlib.Core.Bool.{true, false}
use mathlib.Core.List.{List, [], ◌++◌, append_assoc, append-nil}
use Prim.Native.Nat.{ℕ, ◌+◌, ◌≤◌}
use native.Mathlib.Omega.{arith}
use mathlib.Core.Logic.{⊎_elim}
use lib.Dec.{ltb}
use lib.ListN.{length, length-append}
use Rattle.lists.specs.Bytes.{little_bytes, held_bytes, padded_to}
use Rattle.table.proofs.Storing.{length-little_bytes}
use Rattle.splice.specs.Moves.{padded}
use Rattle.splice.proofs.Fits.{fits-when, fits-then, pad-mono}
use Rattle.splice.proofs.Tables.{tested, table-law, length-padded}
use Rattle.replacement.specs.declared.Cut.{Cut}
use Rattle.replacement.specs.Replaced.{cut_len, len_then, len_now, cut_in, last_first, first_first, cut_all, CutFits, LastFits, FirstFits, AllFit}

-- a buffer with the image and the three tables
unfoldable pub buffer : ℕ → (A U T F : List ℕ) → List ℕ
buffer N A U T F = held_bytes N (A ++ (padded U ++ (padded T ++ padded F)))

-- the entry lies within its table, and both entries are short
pub record Entry (k : Cut) : Type 0 where
  pub within : k.before + k.old ≤ k.n
  pub small : k.old ≤ 16
  pub small' : k.width ≤ 16

fits : (N : ℕ) (k : Cut) (s post : ℕ) → Entry k → s + len_then k + post ≤ N → s + len_now k + post ≤ N → CutFits N k s post
unfolding cut_len
fits N k s post e r r' = fits-when N s k.n k.before k.old post k.width e.within e.small e.small' r r'

-- a table whose entry does not grow, and one whose entry does not shrink
pub cut-less : (k : Cut) → Entry k → k.width ≤ k.old → len_now k ≤ len_then k
unfolding cut_len
cut-less k e h = pad-mono (cut_len k) k.n (let w = e.within in omega arith)

pub cut-more : (k : Cut) → Entry k → k.old ≤ k.width → len_then k ≤ len_now k
unfolding cut_len
cut-more k e h = pad-mono k.n (cut_len k) (let w = e.within in omega arith)

-- the room of each edit
module _ (N s : ℕ) (u t f : Cut) (eu : Entry u) (et : Entry t) (ef : Entry f)
    (room : s + len_then u + len_then t + len_then f ≤ N) (room' : s + len_now u + len_now t + len_now f ≤ N) where
  pub last-first-fits : t.width ≤ t.old → f.width ≤ f.old
      → LastFits N s u t f
  last-first-fits lt lf =
      let mf : len_now f ≤ len_then f = cut-less f ef lf in
      let mt : len_now t ≤ len_then t = cut-less t et lt in (
        fits N f (s + len_then u + len_then t) 0 ef (omega arith) (omega arith),
        fits N t (s + len_then u) (len_now f) et (omega arith) (omega arith),
        fits N u s (len_now t + len_now f) eu (omega arith) (omega arith),
      )

  pub first-first-fits : u.width ≤ u.old → s + len_now u + len_now t + len_then f ≤ N
      → FirstFits N s u t f
  first-first-fits lu mid =
      let mu : len_now u ≤ len_then u = cut-less u eu lu in (
        fits N u s (len_then t + len_then f) eu (omega arith) (omega arith),
        fits N t (s + len_now u) (len_then f) et (omega arith) (omega arith),
        fits N f (s + len_now u + len_now t) 0 ef (omega arith) (omega arith),
      )

-- the numbers of k are those of a table E₁ ++ o ++ E₂, in which x comes in the place of o
pub record Parts (k : Cut) (E₁ o E₂ x : List ℕ) : Type 0 where
  pub front : length E₁ ≡ k.before
  pub own : length o ≡ k.old
  pub whole : length E₁ + length o + length E₂ ≡ k.n
  pub small : k.old ≤ 16
  pub small' : k.width ≤ 16
  pub new : little_bytes k.width k.value ≡ x

module _ {k : Cut} {E₁ o E₂ x : List ℕ} (h : Parts k E₁ o E₂ x) where
  new-length : length x ≡ k.width
  new-length = ap length (sym h.new) ∙ length-little_bytes k.width k.value

  pub parts-entry : Entry k
  parts-entry = record { within = omega (arith, h.front, h.own, h.whole); small = h.small; small' = h.small' }

  -- the table's length after the edit, and before it
  pub length-now : length (E₁ ++ (x ++ E₂)) ≡ cut_len k
  unfolding cut_len
  length-now = simp length-append (omega (arith, h.front, h.own, h.whole, new-length))

  pub length-then : length (E₁ ++ (o ++ E₂)) ≡ k.n
  length-then = simp length-append (omega (arith, h.whole))

  -- the edit of the table, behind A and before P
  pub cut-law : (N : ℕ) (A P : List ℕ) (s post : ℕ) → length A ≡ s → length P ≡ post → CutFits N k s post
      → cut_in k s post (held_bytes N (A ++ (padded (E₁ ++ (o ++ E₂)) ++ P))) ≡ held_bytes N (A ++ (padded (E₁ ++ (x ++ E₂)) ++ P))
  cut-law N A P s post a p c =
      let f = fits-then N s k.n k.before k.old post k.width c in
      rw h.new
      (table-law N A E₁ o E₂ P x s k.n k.before k.old post a h.front h.own p h.whole h.small (rw new-length h.small') f.3 (rw new-length f.4))

padded-as : (X : List ℕ) (n : ℕ) → length X ≡ n → length (padded X) ≡ padded_to 16 n
padded-as X n e = length-padded X ∙ ap (padded_to 16) e

module _ (N : ℕ) (A : List ℕ) (s : ℕ) (a : length A ≡ s) where
  step-u : {k : Cut} {E₁ o E₂ x : List ℕ} (T F : List ℕ) (t f : ℕ) → Parts k E₁ o E₂ x → length T ≡ t → length F ≡ f → CutFits N k s (padded_to 16 t + padded_to 16 f)
      → cut_in k s (padded_to 16 t + padded_to 16 f) (buffer N A (E₁ ++ (o ++ E₂)) T F) ≡ buffer N A (E₁ ++ (x ++ E₂)) T F
  unfolding buffer
  step-u T F t f h et ef c = cut-law h N A (padded T ++ padded F) s _ a (length-append (padded T) (padded F) ∙ (λ i. padded-as T t et i + padded-as F f ef i)) c

  step-t : {k : Cut} {E₁ o E₂ x : List ℕ} (U F : List ℕ) (u f : ℕ) → Parts k E₁ o E₂ x → length U ≡ u → length F ≡ f → CutFits N k (s + padded_to 16 u) (padded_to 16 f)
      → cut_in k (s + padded_to 16 u) (padded_to 16 f) (buffer N A U (E₁ ++ (o ++ E₂)) F) ≡ buffer N A U (E₁ ++ (x ++ E₂)) F
  unfolding buffer
  step-t {k} {E₁} {o} {E₂} {x} U F u f h eu ef c =
      let B : List ℕ = A ++ padded U in
      let turn : (X : List ℕ) → held_bytes N (A ++ (padded U ++ (padded X ++ padded F))) ≡ held_bytes N (B ++ (padded X ++ padded F)) =
      λ X. ap (held_bytes N) (sym (append_assoc A (padded U) (padded X ++ padded F))) in
      ap (cut_in k (s + padded_to 16 u) (padded_to 16 f)) (turn (E₁ ++ (o ++ E₂)))
      ∙ cut-law h N B (padded F) (s + padded_to 16 u) (padded_to 16 f) (length-append A (padded U) ∙ (λ i. a i + padded-as U u eu i)) (padded-as F f ef) c
      ∙ sym (turn (E₁ ++ (x ++ E₂)))

  step-f : {k : Cut} {E₁ o E₂ x : List ℕ} (U T : List ℕ) (u t : ℕ) → Parts k E₁ o E₂ x → length U ≡ u → length T ≡ t → CutFits N k (s + padded_to 16 u + padded_to 16 t) 0
      → cut_in k (s + padded_to 16 u + padded_to 16 t) 0 (buffer N A U T (E₁ ++ (o ++ E₂))) ≡ buffer N A U T (E₁ ++ (x ++ E₂))
  unfolding buffer
  step-f {k} {E₁} {o} {E₂} {x} U T u t h eu et c =
      let B : List ℕ = (A ++ padded U) ++ padded T in
      let turn : (X : List ℕ) → held_bytes N (A ++ (padded U ++ (padded T ++ padded X))) ≡ held_bytes N (B ++ (padded X ++ [])) =
      λ X. ap (held_bytes N) (simp (append_assoc, append-nil)) in
      ap (cut_in k (s + padded_to 16 u + padded_to 16 t) 0) (turn (E₁ ++ (o ++ E₂)))
      ∙ cut-law h N B [] (s + padded_to 16 u + padded_to 16 t) 0
      (length-append (A ++ padded U) (padded T) ∙ (λ i. (length-append A (padded U) ∙ (λ l. a l + padded-as U u eu l)) i + padded-as T t et i)) refl c
      ∙ sym (turn (E₁ ++ (x ++ E₂)))

  module _ {u t f : Cut} {U₁ o U₂ x T₁ q T₂ y F₁ r F₂ z : List ℕ} (hu : Parts u U₁ o U₂ x) (ht : Parts t T₁ q T₂ y) (hf : Parts f F₁ r F₂ z) where
    last-first : LastFits N s u t f
        → last_first s u t f (buffer N A (U₁ ++ (o ++ U₂)) (T₁ ++ (q ++ T₂)) (F₁ ++ (r ++ F₂))) ≡ buffer N A (U₁ ++ (x ++ U₂)) (T₁ ++ (y ++ T₂)) (F₁ ++ (z ++ F₂))
    unfolding last_first
    last-first c =
        let U : List ℕ = U₁ ++ (o ++ U₂) in
        let F' : List ℕ = F₁ ++ (z ++ F₂) in
        ap (λ (l : List ℕ). cut_in u s (len_now t + len_now f) (cut_in t (s + len_then u) (len_now f) l))
        (step-f U (T₁ ++ (q ++ T₂)) u.n t.n hf (length-then hu) (length-then ht) c.0)
        ∙ ap (cut_in u s (len_now t + len_now f)) (step-t U F' u.n (cut_len f) ht (length-then hu) (length-now hf) c.1)
        ∙ step-u (T₁ ++ (y ++ T₂)) F' (cut_len t) (cut_len f) hu (length-now ht) (length-now hf) c.2

    first-first : FirstFits N s u t f
        → first_first s u t f (buffer N A (U₁ ++ (o ++ U₂)) (T₁ ++ (q ++ T₂)) (F₁ ++ (r ++ F₂))) ≡ buffer N A (U₁ ++ (x ++ U₂)) (T₁ ++ (y ++ T₂)) (F₁ ++ (z ++ F₂))
    unfolding first_first
    first-first c =
        let F : List ℕ = F₁ ++ (r ++ F₂) in
        let U' : List ℕ = U₁ ++ (x ++ U₂) in
        ap (λ (l : List ℕ). cut_in f (s + len_now u + len_now t) 0 (cut_in t (s + len_now u) (len_then f) l))
        (step-u (T₁ ++ (q ++ T₂)) F t.n f.n hu (length-then ht) (length-then hf) c.0)
        ∙ ap (cut_in f (s + len_now u + len_now t) 0) (step-t U' F (cut_len u) f.n ht (length-now hu) (length-then hf) c.1)
        ∙ step-f U' (T₁ ++ (y ++ T₂)) (cut_len u) (cut_len t) hf (length-now hu) (length-now ht) c.2

    -- an entry of each table replaced
    pub cut-all : AllFit N s u t f
        → cut_all s u t f (buffer N A (U₁ ++ (o ++ U₂)) (T₁ ++ (q ++ T₂)) (F₁ ++ (r ++ F₂))) ≡ buffer N A (U₁ ++ (x ++ U₂)) (T₁ ++ (y ++ T₂)) (F₁ ++ (z ++ F₂))
    unfolding cut_all
    cut-all c =
        ⊎_elim
        (λ (e : ltb 0 u.width ≡ true). rw e (last-first (c.last e)))
        (λ (e : ltb 0 u.width ≡ false). rw e (first-first (c.first e)))
        (tested (ltb 0 u.width))
