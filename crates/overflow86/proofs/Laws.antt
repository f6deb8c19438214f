-- The array's loops give what the definition says, and the marks that they leave are the marked pixels without an entry.
-- Assumes nothing.
use Rattle.marks.specs.declared.Entry.{Entry}
use mathlib.Core.Path.{◌≡◌, refl, sym, ap, ◌∙◌}
use mathlib.Core.Bool.{Bool, true, false, not, ◌&&◌}
use mathlib.Core.List.{List, [], ◌∷◌, map}
use Prim.Native.Nat.{ℕ, zero, suc, ◌+◌, ◌*◌, ◌^◌, ◌≤◌, ◌<◌}
use native.Mathlib.Nat.{one-le-pow}
use native.Mathlib.Omega.{arith}
use lib.ListN.{length, get_or, drop}
use lib.Seq.{get_or-drop}
use lib.Dec.{eqb, leb, ltb}
use borrow.Author.Tests.{eq-eqb, ne_eqb, lt-ltb, ltb-true, ltb-false, le-leb}
use Rattle.std.specs.Prelude.{if◌then◌else◌, Err, Ok, Result, None, Option, Some}
use Rattle.layout.specs.declared.Width.{Width}
use Rattle.layout.specs.declared.Width.TheVariants as W
use Rattle.layout.specs.Form.{width_bytes}
use Rattle.lists.specs.Bytes.{zeros}
use Rattle.lists.proofs.Below.{little-below}
use Rattle.table.specs.Table.{entries}
use Rattle.table.proofs.Laws.{length-entries, entries-out, entries_at as stored_at}
use Rattle.refusal.specs.declared.Refusal.{Refusal}
use Rattle.refusal.specs.declared.Refusal.TheVariants as R
use Rattle.overflow86.specs.Entries.{text_entries}
use Rattle.marks.specs.Marks.{is_marked, has_entry, is_good, first_bad, intensity_at, with_entries}
use Rattle.marks.specs.Steps.{placing, placed, count_of}
use Rattle.marks.proofs.Laws.{Apart, waits, intensity-some, with-length, held, Taken, taken}
use Rattle.overflow86.specs.Expand86.{wanting, checked_of, frame_pixels}
use Rattle.overflow86.specs.Steps.{waiting, no_entries, placing_in, placed_in, waiting_if, marks_in, awaiting}
use Rattle.overflow86.proofs.Texts.{entry-small, entries-length}

pub entries-apart : (n : ℕ) (t : List ℕ) → Apart waiting (text_entries n t)
unfolding text_entries
entries-apart zero t = tt
entries-apart (suc n) t = ((λ e. omega (arith, entry-small t)), entries-apart n (drop 16 t))

-- the marks left are the marked pixels without an entry
wanting-count : (w : Width) (es : List (Option Entry)) → Apart waiting es → (i : ℕ) (vs : List ℕ) → ((j : ℕ) → get_or vs j 0 < waiting)
    → wanting w es i vs ≡ ltb 0 (count_of waiting (with_entries waiting w es i vs))
unfolding wanting with_entries count_of
wanting-count w es s i [] plain = refl
wanting-count w es s i (v ∷ vs) plain = go (is_marked w v) refl (has_entry i es) refl (wanting-count w es s (suc i) vs (λ j. plain (suc j)))
  where
    go : (m : Bool) → is_marked w v ≡ m → (h : Bool) → has_entry i es ≡ h
        → wanting w es (suc i) vs ≡ ltb 0 (count_of waiting (with_entries waiting w es (suc i) vs))
        → wanting w es i (v ∷ vs) ≡ ltb 0 (count_of waiting (with_entries waiting w es i (v ∷ vs)))
    go true q true r ih = rw (q, r, waits waiting i es s, r) ih
    go true q false r ih = rw (q, r, waits waiting i es s, r) (sym (lt-ltb 0 (suc (count_of waiting (with_entries waiting w es (suc i) vs))) (omega arith)))
    go false q h r ih = rw (q, ne_eqb v waiting (λ e. omega (arith, plain 0))) ih

-- where none is wanting, no pixel holds a mark
none-wanting : (w : Width) (es : List (Option Entry)) (i : ℕ) (vs : List ℕ) → wanting w es i vs ≡ false → with_entries waiting w es i vs ≡ with_entries 0 w es i vs
unfolding wanting with_entries
none-wanting w es i [] f = refl
none-wanting w es i (v ∷ vs) f = go (is_marked w v) refl (has_entry i es) refl (none-wanting w es (suc i) vs)
  where
    go : (m : Bool) → is_marked w v ≡ m → (h : Bool) → has_entry i es ≡ h
        → (wanting w es (suc i) vs ≡ false → with_entries waiting w es (suc i) vs ≡ with_entries 0 w es (suc i) vs)
        → with_entries waiting w es i (v ∷ vs) ≡ with_entries 0 w es i (v ∷ vs)
    go true q true r ih = rw (q, intensity-some waiting 0 i es r, ih (rw (q, r) at f))
    go true q false r ih = absurd (let b : true ≡ false = rw (q, r) at f in let y : ◌≡◌ {A = ℕ} 0 1 = cc in omega arith)
    go false q h r ih = rw (q, ih (rw q at f))

-- before any entry
module _ (w : Width) (m : ℕ) (same : (v : ℕ) → is_marked w v ≡ eqb v m) where
  none_yet : (i : ℕ) (vs : List ℕ) → with_entries waiting w [] i vs ≡ map (waiting_if m) vs
  unfolding with_entries intensity_at
  none_yet i [] = refl
  none_yet i (v ∷ vs) = rw (same v, none_yet (suc i) vs)

  marks-wait : (vs : List ℕ) → ((j : ℕ) → get_or vs j 0 < waiting) → count_of waiting (map (waiting_if m) vs) ≡ count_of m vs
  unfolding count_of
  marks-wait [] plain = refl
  marks-wait (v ∷ vs) plain = go (eqb v m) refl (marks-wait vs (λ j. plain (suc j)))
    where
      go : (t : Bool) → eqb v m ≡ t → count_of waiting (map (waiting_if m) vs) ≡ count_of m vs → count_of waiting (map (waiting_if m) (v ∷ vs)) ≡ count_of m (v ∷ vs)
      go true q ih = rw (q, ih)
      go false q ih = rw (q, ne_eqb v waiting (λ e. omega (arith, plain 0)), ih)

-- what the array's loops give is what the definition says
pub record Sound (w : Width) (vs : List ℕ) (es : List (Option Entry)) : Type 0 where
  pub answer : placing_in w (awaiting w vs) es ≡ first_bad w vs [] 0 es
  pub left : first_bad w vs [] 0 es ≡ (Ok tt) → wanting w es 0 vs ≡ not (eqb (marks_in w vs) (length es))
  pub pixels : first_bad w vs [] 0 es ≡ (Ok tt) → wanting w es 0 vs ≡ false → placed_in w (awaiting w vs) es ≡ with_entries 0 w es 0 vs

left_over : (a n l : ℕ) → a ≡ n + l → ltb 0 l ≡ not (eqb a n)
left_over a n zero e = rw (eq-eqb a n (omega arith))
left_over a n (suc l) e = rw (ne_eqb a n (λ q. omega arith), lt-ltb 0 (suc l) (omega arith))

module _ (w : Width) (m : ℕ) (same : (v : ℕ) → is_marked w v ≡ eqb v m) (vs : List ℕ) (es : List (Option Entry)) (plain : (j : ℕ) → get_or vs j 0 < waiting) (small : Apart waiting es) where
  first : Taken waiting w vs (λ j q e. omega (arith, plain j)) [] 0 es
  first = taken waiting w vs (λ j q e. omega (arith, plain j)) es [] 0 tt small

  start : held waiting w vs [] ≡ map (waiting_if m) vs
  start = none_yet w m same 0 vs

  marked-answer : placing waiting (map (waiting_if m) vs) 0 es ≡ first_bad w vs [] 0 es
  marked-answer = rw start at first.answer

  marked-left : first_bad w vs [] 0 es ≡ (Ok tt) → wanting w es 0 vs ≡ not (eqb (count_of m vs) (length es))
  marked-left g = wanting-count w es small 0 vs plain ∙ left_over _ _ _ (rw (start, marks-wait w m same vs plain) at (first.left g))

  marked-pixels : first_bad w vs [] 0 es ≡ (Ok tt) → wanting w es 0 vs ≡ false → placed waiting (map (waiting_if m) vs) es ≡ with_entries 0 w es 0 vs
  marked-pixels g f = (rw start at (first.pixels g)) ∙ none-wanting w es 0 vs f

four-with : (none : ℕ) (es : List (Option Entry)) (i : ℕ) (vs : List ℕ) → with_entries none W.Four es i vs ≡ vs
unfolding with_entries
four-with none es i [] = refl
four-with none es i (v ∷ vs) = ap (λ (l : List ℕ). v ∷ l) (four-with none es (suc i) vs)

four-wanting : (es : List (Option Entry)) (i : ℕ) (vs : List ℕ) → wanting W.Four es i vs ≡ false
unfolding wanting
four-wanting es i [] = refl
four-wanting es i (v ∷ vs) = four-wanting es (suc i) vs

and-never : (a b : Bool) → (a && false && b) ≡ false
and-never true b = refl
and-never false b = refl

four-bad : (vs : List ℕ) (earlier : List (Option Entry)) (e : Option Entry) → is_good W.Four vs earlier e ≡ false
unfolding is_good
four-bad vs earlier None = refl
four-bad vs earlier (Some en) = and-never (ltb en.pixel (length vs)) (not (has_entry en.pixel earlier))

four-sound : (vs : List ℕ) (es : List (Option Entry)) → Sound W.Four vs es
unfolding first_bad
four-sound vs [] = record { answer = refl; left = λ g. four-wanting [] 0 vs; pixels = λ g f. sym (four-with 0 [] 0 vs) }
four-sound vs (e ∷ es) = record {
  answer = rw (four-bad vs [] e);
  left = λ g. absurd (refused g);
  pixels = λ g f. absurd (refused g);
}
  where
    refused : first_bad W.Four vs [] 0 (e ∷ es) ≡ (Ok tt) → ⊥
    refused g = let b : Err (R.BadEntry 0) ≡ (Ok tt) = rw (four-bad vs [] e) at g in let y : ◌≡◌ {A = ℕ} 0 1 = cc in omega arith

pub sound : (w : Width) (vs : List ℕ) (es : List (Option Entry)) → ((j : ℕ) → get_or vs j 0 < 256 ^ width_bytes w) → Apart waiting es → Sound w vs es
sound W.One vs es below small =
    let plain : (j : ℕ) → get_or vs j 0 < waiting = λ j. omega (arith, below j) in
    record {
      answer = marked-answer W.One 255 (λ v. refl) vs es plain small;
      left = marked-left W.One 255 (λ v. refl) vs es plain small;
      pixels = marked-pixels W.One 255 (λ v. refl) vs es plain small;
    }
sound W.Two vs es below small =
    let plain : (j : ℕ) → get_or vs j 0 < waiting = λ j. omega (arith, below j) in
    record {
      answer = marked-answer W.Two 65535 (λ v. refl) vs es plain small;
      left = marked-left W.Two 65535 (λ v. refl) vs es plain small;
      pixels = marked-pixels W.Two 65535 (λ v. refl) vs es plain small;
    }
sound W.Four vs es below small = four-sound vs es

-- an image's pixels fit their width
pub stored-below : (w n : ℕ) (t : List ℕ) → ((i : ℕ) → get_or t i 0 < 256) → (j : ℕ) → get_or (entries w n t) j 0 < 256 ^ w
stored-below w n t h j = go (ltb j n) refl
  where
    go : (b : Bool) → ltb j n ≡ b → get_or (entries w n t) j 0 < 256 ^ w
    go true q = rw (stored_at w n t j (ltb-true _ _ q)) (little-below w (drop (j * w) t) (λ i. rw get_or-drop (h (j * w + i))))
    go false q = rw (entries-out w n j t (ltb-false _ _ q)) (one-le-pow w 256 (omega arith))

-- what the three ways out of the filling give: checked and px₂ of the loop over the entries, marks and px₁ of the load
module _ (w : Width) (image table px₀ px₁ px₂ : List ℕ) (n marks : ℕ) (checked : Result (Unit {0}) Refusal) (bytes : (i : ℕ) → get_or image i 0 < 256)
    (load : (marks ≡ marks_in w (entries (width_bytes w) (length px₀) image)) × (px₁ ≡ awaiting w (entries (width_bytes w) (length px₀) image)))
    (take : (checked ≡ placing_in w px₁ (text_entries n table)) × (px₂ ≡ placed_in w px₁ (text_entries n table))) where
  vs : List ℕ
  vs = entries (width_bytes w) (length px₀) image

  es : List (Option Entry)
  es = text_entries n table

  whole : Sound w vs es
  unfolding vs es
  whole = sound w vs es (stored-below (width_bytes w) (length px₀) image bytes) (entries-apart n table)

  placed_first : checked ≡ first_bad w vs [] 0 es
  unfolding vs es
  placed_first = take.0 ∙ rw load.1 whole.answer

  frame-zeros : {r : Refusal} → length px₂ ≡ length px₀ → checked_of w vs es ≡ Err r → zeros (length px₂) ≡ frame_pixels w vs es
  unfolding frame_pixels vs
  frame-zeros l q = rw (q, with-length 0 w es 0 vs, length-entries, l)

  pub filled-bad : {r : Refusal} → length px₂ ≡ length px₀ → checked ≡ Err r
      → (checked ≡ checked_of w (entries (width_bytes w) (length px₀) image) (text_entries n table))
      × (zeros (length px₂) ≡ frame_pixels w (entries (width_bytes w) (length px₀) image) (text_entries n table))
  unfolding checked_of vs es
  filled-bad {r} l q =
      let e : checked_of w vs es ≡ Err r = rw (← placed_first, q) in
      (q ∙ sym e, frame-zeros l e)

  left_is : checked ≡ (Ok tt) → wanting w es 0 vs ≡ not (eqb marks n)
  unfolding vs es
  left_is q = whole.left (sym placed_first ∙ q) ∙ rw (load.0, entries-length)

  pub filled-wanting : length px₂ ≡ length px₀ → checked ≡ (Ok tt) → (marks ≡ n → ⊥)
      → (Err R.CountMismatch ≡ checked_of w (entries (width_bytes w) (length px₀) image) (text_entries n table))
      × (zeros (length px₂) ≡ frame_pixels w (entries (width_bytes w) (length px₀) image) (text_entries n table))
  unfolding checked_of vs es
  filled-wanting l q d =
      let e : checked_of w vs es ≡ Err R.CountMismatch = rw (← placed_first, q, left_is q, ne_eqb marks n d) in
      (sym e, frame-zeros l e)

  pub filled-good : checked ≡ (Ok tt) → marks ≡ n
      → (checked ≡ checked_of w (entries (width_bytes w) (length px₀) image) (text_entries n table))
      × (px₂ ≡ frame_pixels w (entries (width_bytes w) (length px₀) image) (text_entries n table))
  unfolding checked_of frame_pixels vs es
  filled-good q d =
      let f : wanting w es 0 vs ≡ false = rw (left_is q, eq-eqb marks n d) in
      let e : checked_of w vs es ≡ (Ok tt) = rw (← placed_first, q, f) in
      (q ∙ sym e, take.1 ∙ rw (load.1, e) (whole.pixels (sym placed_first ∙ q) f))

-- a width without marks takes no entry
pub none-good : (n : ℕ) (t : List ℕ) → n ≡ 0 → (Ok tt) ≡ no_entries (text_entries n t)
unfolding text_entries
none-good zero t e = refl
none-good (suc n) t e = absurd (omega arith)

pub none-bad : (n : ℕ) (t : List ℕ) → (n ≡ 0 → ⊥) → Err (R.BadEntry 0) ≡ no_entries (text_entries n t)
unfolding text_entries
none-bad zero t e = absurd (e refl)
none-bad (suc n) t e = refl

-- a load from bytes enough
pub loaded : (w n : ℕ) (t px out : List ℕ) → n * w ≤ length t → out ≡ if◌then◌else◌ (leb (n * w) (length t)) (entries w n t) px → out ≡ entries w n t
loaded w n t px out h e = e ∙ rw (le-leb _ _ h)
