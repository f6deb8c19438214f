-- What document 01 says of FORMAT 86 as theorems on the definitions that `expand86` meets.
-- Assumes nothing.
use Rattle.marks.specs.Steps.{entry_read}
use Rattle.marks.specs.declared.Entry.{Entry}
use Rattle.refusal.specs.declared.Refusal.{Refusal}
use mathlib.Core.Path.{◌≡◌, refl, sym, ap, ◌∙◌}
use mathlib.Core.Bool.{Bool, true, false, not, ◌&&◌, ◌||◌}
use mathlib.Core.List.{List, [], ◌∷◌, map}
use Prim.Native.Nat.{ℕ, zero, suc, ◌+◌, ◌-◌, ◌*◌, ◌≤◌, ◌<◌, suc-le-suc}
use native.Mathlib.Nat.{add-zero, zero-add, le_of_suc-le-suc, not-suc-le-zero}
use native.Mathlib.Omega.{arith}
use lib.ListN.{length, get_or, take, drop, get_or-append}
use lib.Seq.{take-take}
use lib.Dec.{ltb}
use borrow.Author.Tests.{lt-ltb, le-ltb, ltb-true, ltb-false}
use Rattle.std.specs.Prelude.{if◌then◌else◌, Err, Ok, Result, None, Option, Some}
use Rattle.lists.proofs.Tests.{and-true-left, and-true-right}
use Rattle.lists.specs.Text.{codes}
use Rattle.lists.proofs.Parts.{drop-take}
use Rattle.lists.specs.Chain.{on_ok}
use Rattle.refusal.specs.declared.Refusal.TheVariants as R
use Rattle.layout.specs.declared.Width.{Width}
use Rattle.layout.specs.declared.Image.{Image}
use Rattle.layout.specs.Form.{width_bytes}
use Rattle.layout.specs.Layout.{pixel_count, image_end, text_end}
use Rattle.table.specs.Table.{entries}
use Rattle.table.proofs.Laws.{length-entries, entries-take as stored-take}
use Rattle.overflow86.specs.Entries.{entry_of, text_entries}
use Rattle.marks.specs.Marks.{is_marked, marked_at, has_entry, first_bad, intensity_at, with_entries}
use Rattle.marks.proofs.Laws.{with-length, with_at}
use Rattle.marks.proofs.Facts.{entries_for, all_read, never, has_some, has-none, good-stands, stands_good}
use Rattle.overflow86.specs.Expand86.{wanting, then_wanting, checked_of, frame_pixels, stored_image, table_entries, text_answer, text_pixels}
use Rattle.overflow86.proofs.Texts.{entries-take}

-- every entry is well formed, each marked pixel has exactly one, and no other pixel number has any
pub record Matched (w : Width) (vs : List ℕ) (es : List (Option Entry)) : Type 0 where
  pub formed : all_read es ≡ true
  pub one : (p : ℕ) → marked_at w vs p ≡ true → entries_for p es ≡ 1
  pub none : (p : ℕ) → marked_at w vs p ≡ false → entries_for p es ≡ 0

or_right : (a b : Bool) → (a || b) ≡ false → b ≡ false
or_right true b h = never h
or_right false b h = h

has_of : (p : ℕ) (es : List (Option Entry)) → 1 ≤ entries_for p es → has_entry p es ≡ true
has_of p es h = go (has_entry p es) refl
  where
    go : (t : Bool) → has_entry p es ≡ t → has_entry p es ≡ true
    go true q = q
    go false q = absurd (omega (arith, has-none p es q))

module _ (w : Width) where
  -- a marked pixel without an entry is wanting
  none-wanting : (es : List (Option Entry)) (i : ℕ) (us : List ℕ) → wanting w es i us ≡ false → (p : ℕ) → p < length us → is_marked w (get_or us p 0) ≡ true → has_entry (i + p) es ≡ true
  unfolding wanting
  none-wanting es i [] f p h m = absurd (not-suc-le-zero h)
  none-wanting es i (u ∷ us) f zero h m = rw (add-zero i) (go (has_entry i es) refl)
    where
      go : (t : Bool) → has_entry i es ≡ t → has_entry i es ≡ true
      go true q = q
      go false q = never (rw (m, q) at f)
  none-wanting es i (u ∷ us) f (suc p) h m =
      let e : i + suc p ≡ suc i + p = omega arith in
      rw e (none-wanting es (suc i) us (or_right (is_marked w u && not (has_entry i es)) (wanting w es (suc i) us) f) p (le_of_suc-le-suc h) m)

  all-had : (es : List (Option Entry)) (i : ℕ) (us : List ℕ) → ((p : ℕ) → p < length us → is_marked w (get_or us p 0) ≡ true → has_entry (i + p) es ≡ true) → wanting w es i us ≡ false
  unfolding wanting
  all-had es i [] f = refl
  all-had es i (u ∷ us) f = go (is_marked w u) refl (all-had es (suc i) us (λ p h m. let e : suc i + p ≡ i + suc p = omega arith in rw e (f (suc p) (suc-le-suc h) m)))
    where
      go : (t : Bool) → is_marked w u ≡ t → wanting w es (suc i) us ≡ false → wanting w es i (u ∷ us) ≡ false
      go true q ih =
          let k : has_entry i es ≡ true = rw (add-zero i) at (f 0 (omega arith) q) in
          rw (q, k, ih)
      go false q ih = rw (q, ih)

then-good : (c : Result (Unit {0}) Refusal) (t : Bool) → then_wanting c t ≡ Ok tt → (c ≡ Ok tt) × (t ≡ false)
then-good (Ok tt) true h = absurd (let y : ◌≡◌ {A = ℕ} 0 1 = cc in omega arith)
then-good (Ok tt) false h = (refl, refl)
then-good (Err r) t h = absurd (let y : ◌≡◌ {A = ℕ} 0 1 = cc in omega arith)

module _ (w : Width) (vs : List ℕ) (es : List (Option Entry)) where
  -- the entries of an accepted frame: exactly one for each marked pixel and none for another
  pub accepted-matched : checked_of w vs es ≡ Ok tt → Matched w vs es
  unfolding checked_of
  accepted-matched h =
      let g = then-good (first_bad w vs [] 0 es) (wanting w es 0 vs) h in
      let o = good-stands w vs es g.0 in
      record {
        formed = o.formed;
        one = λ p m.
            let i : p < length vs = ltb-true p (length vs) (and-true-left (ltb p (length vs)) (is_marked w (get_or vs p 0)) m) in
            let b : has_entry (0 + p) es ≡ true = none-wanting w es 0 vs g.1 p i (and-true-right (ltb p (length vs)) (is_marked w (get_or vs p 0)) m) in
            omega (arith, o.most p, has_some p es (rw (zero-add p) at b));
        none = o.unmarked;
      }

  -- and each table of which that holds is accepted
  pub matched-accepted : Matched w vs es → checked_of w vs es ≡ Ok tt
  unfolding checked_of
  matched-accepted m =
      let f : first_bad w vs [] 0 es ≡ Ok tt = stands_good w vs es (record { formed = m.formed; most = λ p. at_most p (marked_at w vs p) refl; unmarked = m.none }) in
      let g : wanting w es 0 vs ≡ false = all-had w es 0 vs (λ p h k. rw (zero-add p) (has_of p es (omega (arith, m.one p (rw (lt-ltb p (length vs) h, k)))))) in
      rw (f, g)
    where
      at_most : (p : ℕ) (t : Bool) → marked_at w vs p ≡ t → entries_for p es ≤ 1
      at_most p true q = omega (arith, m.one p q)
      at_most p false q = omega (arith, m.none p q)

-- a frame is accepted: none of 10, 11, 13 and 14 is due, and the answer is where it ends
pub record Accepted (bytes : List ℕ) (i : Image) (n places e : ℕ) : Type 0 where
  pub room : pixel_count i ≤ places
  pub whole : text_end i n ≤ length bytes
  pub matched : Matched i.width (stored_image bytes i) (table_entries bytes i n)
  pub end : e ≡ text_end i n

module _ (bytes : List ℕ) (i : Image) (n places : ℕ) where
  answer-good : (c : Result (Unit {0}) Refusal) (e d : ℕ) → on_ok c Err (λ _. Ok e) ≡ Ok d → (c ≡ Ok tt) × (d ≡ e)
  answer-good (Ok tt) e d h = (refl, cc)
  answer-good (Err r) e d h = absurd (let y : ◌≡◌ {A = ℕ} 0 1 = cc in omega arith)

  pub accepted-only : (e : ℕ) → text_answer bytes i n places ≡ Ok e → Accepted bytes i n places e
  unfolding text_answer
  accepted-only e h = go (ltb places (pixel_count i)) refl (ltb (length bytes) (text_end i n)) refl
    where
      go : (s : Bool) → ltb places (pixel_count i) ≡ s → (t : Bool) → ltb (length bytes) (text_end i n) ≡ t → Accepted bytes i n places e
      go true p t q = absurd (let b : Err R.PixelArrayShort ≡ Ok e = rw p at h in let y : ◌≡◌ {A = ℕ} 0 1 = cc in omega arith)
      go false p true q = absurd (let b : Err R.DataTruncated ≡ Ok e = rw (p, q) at h in let y : ◌≡◌ {A = ℕ} 0 1 = cc in omega arith)
      go false p false q =
          let g = answer-good (checked_of i.width (stored_image bytes i) (table_entries bytes i n)) (text_end i n) e (rw (p, q) at h) in
          record {
            room = ltb-false _ _ p;
            whole = ltb-false _ _ q;
            matched = accepted-matched i.width (stored_image bytes i) (table_entries bytes i n) g.0;
            end = g.1;
          }

  pub accepted-if : (e : ℕ) → Accepted bytes i n places e → text_answer bytes i n places ≡ Ok e
  unfolding text_answer
  accepted-if e a =
      let g = matched-accepted i.width (stored_image bytes i) (table_entries bytes i n) a.matched in
      rw (le-ltb places (pixel_count i) a.room, le-ltb (length bytes) (text_end i n) a.whole, g, a.end)

-- bytes past the last entry do not count: neither the padding nor what follows the frame
module _ (b b' : List ℕ) (i : Image) (n : ℕ) (same : take (image_end i + n * 16) b ≡ take (image_end i + n * 16) b') where
  part_same : (a l : ℕ) → a + l ≤ image_end i + n * 16 → take l (drop a b) ≡ take l (drop a b')
  part_same a l h = part_of b ∙ rw (same) (sym (part_of b'))
    where
      part_of : (t : List ℕ) → take l (drop a t) ≡ take l (drop a (take (image_end i + n * 16) t))
      part_of t = rw (drop-take a (image_end i + n * 16) t, take-take l (image_end i + n * 16 - a) (drop a t) (omega arith))

  stored_same : stored_image b i ≡ stored_image b' i
  stored_same =
      let w = width_bytes i.width in
      let m = pixel_count i in
      sym (stored-take w m (m * w) (drop i.start b) (omega arith)) ∙ ap (λ (l : List ℕ). entries w m l) (part_same i.start (m * w) (omega arith)) ∙ stored-take w m (m * w) (drop i.start b') (omega arith)

  entries-same : table_entries b i n ≡ table_entries b' i n
  entries-same =
      sym (entries-take n (n * 16) (drop (image_end i) b) (omega arith)) ∙ ap (λ (l : List ℕ). text_entries n l) (part_same (image_end i) (n * 16) (omega arith)) ∙ entries-take n (n * 16) (drop (image_end i) b') (omega arith)

  pub past-the-entries : (px : List ℕ) (e : ℕ) → text_answer b i n (length px) ≡ Ok e → e ≤ length b'
      → (text_answer b' i n (length px) ≡ Ok e) × (text_pixels b' i n px ≡ text_pixels b i n px)
  unfolding text_pixels
  past-the-entries px e h k =
      let a = accepted-only b i n (length px) e h in
      let l : text_end i n ≤ length b' = rw a.end at k in (
        accepted-if b' i n (length px) e (record { room = a.room; whole = l; matched = rw (← stored_same, ← entries-same) a.matched; end = a.end }),
        rw (le-ltb (length px) (pixel_count i) a.room, le-ltb (length b) (text_end i n) a.whole, le-ltb (length b') (text_end i n) l, stored_same, entries-same),
      )

-- a pixel of an accepted frame: the intensity of its entry if it is marked, and otherwise as it was stored
pub accepted-pixel : (bytes : List ℕ) (i : Image) (n e : ℕ) (px : List ℕ) → text_answer bytes i n (length px) ≡ Ok e → (p : ℕ) → p < pixel_count i
    → get_or (text_pixels bytes i n px) p 0
    ≡ if◌then◌else◌ (is_marked i.width (get_or (stored_image bytes i) p 0)) (intensity_at 0 p (table_entries bytes i n)) (get_or (stored_image bytes i) p 0)
unfolding text_pixels frame_pixels
accepted-pixel bytes i n e px h p k =
    let w = i.width in
    let vs = stored_image bytes i in
    let es = table_entries bytes i n in
    let a = accepted-only bytes i n (length px) e h in
    let g = matched-accepted w vs es a.matched in
    let l : p < length vs = rw length-entries k in
    let m : p < length (with_entries 0 w es 0 vs) = rw with-length l in
    rw (le-ltb (length px) (pixel_count i) a.room, le-ltb (length bytes) (text_end i n) a.whole, g)
    (get_or-append (with_entries 0 w es 0 vs) (drop (pixel_count i) px) 0 p m ∙ with_at 0 w es 0 vs p l ∙ rw (zero-add p))

-- entries in their characters
pub record Row : Type 0 where
  pub text : List ℕ
  pub entry : Option Entry

abbrev pub row : List ℕ → Option Entry → Row
row t e = record { text = t; entry = e }

abbrev pub rows : List Row
rows =
    row (codes "      300     17") (Some (entry_read 300 17)) ∷
    row (codes "0000003000000017") (Some (entry_read 300 17)) ∷
    row (codes "9999999999999999") (Some (entry_read 999999999 9999999)) ∷
    row (codes "              17") None ∷
    row (codes "      300       ") None ∷
    row (codes "      3 0     17") None ∷
    row (codes "     300      17") None ∷
    row (codes "     -300     17") None ∷
    row (codes "      300    17 ") None ∷ []

pub every-row : map (λ (r : Row). entry_of r.text) rows ≡ map (λ (r : Row). r.entry) rows
unfolding entry_of
every-row = refl
