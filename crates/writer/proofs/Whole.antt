-- The whole frame: its counts, its length and its bytes.
-- Assumes nothing.
use Rattle.refusal.specs.declared.Refusal.{Refusal}
use Rattle.std.proofs.Common.{◌≡◌, ℕ, ◌+◌, ◌-◌, ◌*◌, ◌<◌, ◌≤◌, Bool, true, false, leb, List, [], ◌∷◌, ◌++◌, map, length, take, drop, sym, refl, ap, ◌∙◌, append_assoc, append-nil, mul-le-mul_right, arith, length-append, length-drop, drop_of_length-le, length-take, length-take-le, drop_at, le-leb, leb-false, leb-true}
use lib.ListN.{length-map, length-replicate}
use borrow.Author.Tests.{lt-leb}
use borrow.Rule.Slice.PartMut.{put_mid}
use Rattle.std.specs.Prelude.{if◌then◌else◌, Err, None, Ok, Result, Some, ℕ}
use Rattle.lists.specs.Bytes.{zeros, held_bytes}
use Rattle.layout.specs.declared.Width.{Width}
use Rattle.layout.specs.declared.Width.TheVariants as W
use Rattle.layout.specs.declared.Underflow.{Underflow}
use Rattle.layout.specs.declared.Underflow.TheVariants as U
use Rattle.layout.specs.declared.Form.{Form}
use Rattle.layout.specs.Form.{width_bytes, underflow_bytes}
use Rattle.layout.specs.Layout.{table_bytes}
use Rattle.table.specs.Writing.{table_of, padded_table}
use Rattle.table.proofs.Storing.{length-table}
use Rattle.expand.proofs.Extents.{table-ge}
use Rattle.expand.specs.Steps.{Stored}
use Rattle.writer.specs.Storing.{lowered, lowered_all, under_entries, two_entries, four_entries, at_most65535, stored_value, stored_for}
use Rattle.pixel_counts.specs.Counts.{is_underflow, counts_of, counts_for, under_count, two_count, four_count}
use Rattle.lists.specs.Only.{only}
use Rattle.header_text.specs.Text.{counts_data, relined}
use Rattle.writer.specs.Frame.{noverfl_data, rewritten, body_bytes, frame_bytes, frame_length, stored_counts}
use Rattle.writer.specs.Blocks.{less, used_base, places_by, places_for, given_baseline, tables_baseline, Sized}
use Rattle.header_text.specs.declared.Counts.{Counts}
use Rattle.writer.specs.declared.Places.{Places}
use Rattle.layout.specs.declared.Underflows.{Underflows}
use Rattle.layout.specs.declared.Underflows.TheVariants as H
use Rattle.layout.specs.declared.Tables.{Tables}
use Rattle.layout.specs.declared.Tables.TheVariants as T
use Rattle.layout.specs.declared.Header.{Header}
use Rattle.layout.specs.Layout.{pixel_count}
use Rattle.header.specs.Body.{baseline_of}
use Rattle.header.specs.Header.{header_of}
use Rattle.header.proofs.Accepted.{BaselineGood, TablesGood, accepted-bounds}
use Rattle.writer.specs.Writer as M
use Rattle.writer.specs.Writer.{line_base, base_for, base_answer, underflow_too_large}
use Rattle.header_text.proofs.Lines.{length-relined}
use Rattle.writer.proofs.Placing.{lowered_is}

-- the counts of what is stored
pub relined-stored : (form : Form) (s : Stored) (header : List ℕ) → relined form (stored_counts s) header ≡ rewritten form s header
unfolding relined rewritten noverfl_data counts_data
relined-stored form s header = refl

-- the two lines rewritten in a copy of a header that reaches to their end
pub relined-copy : (form : Form) (c : Counts) (header copied out : List ℕ) → 3200 ≤ length header → copied ≡ header → out ≡ if◌then◌else◌ (leb 3200 (length copied)) (relined form c copied) copied → out ≡ relined form c header
relined-copy form c header copied out h e q = q ∙ rw (e, le-leb 3200 (length header) h)

-- counts

from_less : (base limit : ℕ) (vs : List ℕ) → 0 < limit → length (only (leb limit) (map (less base) vs)) ≡ length (only (leb (base + limit)) vs)
unfolding only
from_less base limit [] h = refl
from_less base limit (v ∷ vs) h = go (leb v base) refl (from_less base limit vs h)
  where
    rest : List ℕ
    rest = only (leb (base + limit)) vs

    done : (t u : Bool) (xs : List ℕ) → t ≡ u → length xs ≡ length rest → (x y : ℕ) → length (if◌then◌else◌ t (x ∷ xs) xs) ≡ length (if◌then◌else◌ u (y ∷ rest) rest)
    done true u xs e q x y = rw (← e, q)
    done false u xs e q x y = rw (← e) q

    go : (t : Bool) → leb v base ≡ t → length (only (leb limit) (map (less base) vs)) ≡ length rest
        → length (if◌then◌else◌ (leb limit (if◌then◌else◌ t 0 (v - base))) (if◌then◌else◌ t 0 (v - base) ∷ only (leb limit) (map (less base) vs)) (only (leb limit) (map (less base) vs)))
        ≡ length (if◌then◌else◌ (leb (base + limit) v) (v ∷ rest) rest)
    go true e q =
        let k = leb-true v base e in
        done (leb limit 0) (leb (base + limit) v) (only (leb limit) (map (less base) vs)) (lt-leb limit 0 (omega arith) ∙ sym (lt-leb (base + limit) v (omega arith))) q 0 v
    go false e q =
        let k = leb-false v base e in
        done (leb limit (v - base)) (leb (base + limit) v) (only (leb limit) (map (less base) vs)) (same (leb limit (v - base)) refl) q (v - base) v
      where
        same : (t : Bool) → leb limit (v - base) ≡ t → t ≡ leb (base + limit) v
        same true p = let m = leb-true limit (v - base) p in let k = leb-false v base e in sym (le-leb (base + limit) v (omega arith))
        same false p = let m = leb-false limit (v - base) p in let k = leb-false v base e in sym (lt-leb (base + limit) v (omega arith))

under-length : (u : Underflow) (base : ℕ) (vs : List ℕ) → under_count u (length (only (is_underflow base) vs)) ≡ length (under_entries u base vs)
under-length U.None base vs = refl
under-length (U.Subtracted e) base vs = refl

two-length : (w : Width) (base : ℕ) (vs : List ℕ) → two_count w (length (only (leb (base + 255)) vs)) ≡ length (two_entries w (map (less base) vs))
two-length W.One base vs = sym (length-map (only (leb 255) (map (less base) vs)) at_most65535 ∙ from_less base 255 vs (omega arith))
two-length W.Two base vs = refl
two-length W.Four base vs = refl

four-length : (w : Width) (base : ℕ) (vs : List ℕ) → four_count w (length (only (leb (base + 65535)) vs)) ≡ length (four_entries w (map (less base) vs))
four-length W.One base vs = sym (from_less base 65535 vs (omega arith))
four-length W.Two base vs = sym (from_less base 65535 vs (omega arith))
four-length W.Four base vs = refl

same-counts : (c d : Counts) → c.under ≡ d.under → c.two ≡ d.two → c.four ≡ d.four → c ≡ d
same-counts c d p q r = λ i. record { under = p i; two = q i; four = r i }

-- the counts are those of the entries
pub counts-are : (form : Form) (base : ℕ) (vs : List ℕ) (c : Counts) → base ≡ used_base form.underflow base → c ≡ counts_for form (counts_of base vs) → c ≡ stored_counts (stored_for form base vs)
unfolding counts_of counts_for stored_for
counts-are form base vs c k e =
    let l : lowered_all form base vs ≡ map (less base) vs = lowered_is form.underflow base vs k in
    same-counts c (stored_counts (stored_for form base vs))
    (ap (λ (n : Counts). n.under) e ∙ under-length form.underflow base vs)
    (ap (λ (n : Counts). n.two) e ∙ rw l (two-length form.width base vs))
    (ap (λ (n : Counts). n.four) e ∙ rw l (four-length form.width base vs))

-- lengths

-- the header's length stays
pub length-rewritten : (form : Form) (s : Stored) (header : List ℕ) → 3200 ≤ length header → length (rewritten form s header) ≡ length header
length-rewritten form s header h = rw (← relined-stored form s header) (length-relined form (stored_counts s) header h)

length-padded : (w : ℕ) (xs : List ℕ) → length (padded_table w xs) ≡ table_bytes w (length xs)
unfolding padded_table
length-padded w xs = let g = table-ge w (length xs) in rw (length-append, length-table, length-replicate) (omega arith)

-- the length foretold is the length written
pub frame-length : (header : List ℕ) (form : Form) (s : Stored) → 3200 ≤ length header → length (frame_bytes header form s) ≡ frame_length (length header) form s
unfolding frame_bytes frame_length body_bytes
frame-length header form s h =
    rw
    (length-append (rewritten form s header), length-rewritten form s header h, length-append (table_of (width_bytes form.width) s.image), length-table, length-append (padded_table (underflow_bytes form.underflow) s.under), length-padded (underflow_bytes form.underflow), length-append (padded_table 2 s.two), length-padded 2, length-padded 4)
    (omega arith)

-- the stored image has as many values as there are pixels
pub length-image : (form : Form) (base : ℕ) (vs : List ℕ) → length (stored_for form base vs).image ≡ length vs
unfolding stored_for
length-image form base vs = length-map (lowered_all form base vs) (stored_value form.width) ∙ length-map vs (lowered form.underflow base)

-- the header in front of the body
pub frame-held : (header : List ℕ) (form : Form) (s : Stored) (c : Counts) (n : ℕ) (out : List ℕ) → 3200 ≤ length header → c ≡ stored_counts s
    → out ≡ relined form c header ++ (body_bytes form s ++ zeros (n - frame_length (length header) form s))
    → out ≡ held_bytes n (frame_bytes header form s)
unfolding held_bytes frame_bytes
frame-held header form s c n out h e q =
    q ∙ rw (e, relined-stored form s header, ← frame-length header form s h) (sym (append_assoc (rewritten form s header) (body_bytes form s) (zeros (n - length (frame_bytes header form s)))))

-- Where the parts of a frame lie in a buffer that holds it.
pub record Inside (n start : ℕ) (form : Form) (s : Stored) (at : Places) : Type 0 where
  pub image : at.image ≡ start
  pub under : at.under ≡ start + length s.image * width_bytes form.width
  pub reach : at.under ≤ n

pub inside : (n start : ℕ) (form : Form) (s : Stored) (at : Places) → at ≡ places_for start form s → frame_length start form s ≤ n → Inside n start form s at
unfolding places_by frame_length
inside n start form s at e h =
    let u : at.under ≡ start + length s.image * width_bytes form.width = ap (λ (p : Places). p.under) e in
    record { image = ap (λ (p : Places). p.image) e; under = u; reach = omega arith }

-- a buffer that is cleared from e on
abbrev pub cleared_from : ℕ → List ℕ → List ℕ → List ℕ
cleared_from e out ys = put_mid e (length out - e) out ys

pub cleared-length : (out ys : List ℕ) (e : ℕ) → e ≤ length out → ys ≡ zeros (length (take (length out - e) (drop e out))) → length (cleared_from e out ys) ≡ length out
cleared-length out ys e h q = rw (q, length-append (take e out), length-append (zeros (length (take (length out - e) (drop e out)))), length-replicate) (simp (length-take, length-drop) (omega arith))

cleared : (out ys : List ℕ) (e : ℕ) → e ≤ length out → ys ≡ zeros (length (take (length out - e) (drop e out))) → drop e (cleared_from e out ys) ≡ zeros (length out - e)
cleared out ys e h q =
    let l : length (take (length out - e) (drop e out)) ≡ length out - e = simp (length-take, length-drop) (omega arith) in
    let z : drop (length out - e) (drop e out) ≡ [] = drop_of_length-le (drop e out) {i = length out - e} (rw length-drop (omega arith)) in
    rw (drop_at (take e out) (ys ++ drop (length out - e) (drop e out)) e (length-take-le e out h), z, append-nil, q, l)

pub blocks-ready : (start : ℕ) (form : Form) (s : Stored) (at : Places) (out ys : List ℕ) → Inside (length out) start form s at → ys ≡ zeros (length (take (length out - at.under) (drop at.under out)))
    → drop (at.image + length s.image * width_bytes form.width) (cleared_from at.under out ys) ≡ zeros (length (cleared_from at.under out ys) - (at.image + length s.image * width_bytes form.width))
blocks-ready start form s at out ys k q =
    let e : at.image + length s.image * width_bytes form.width ≡ at.under = omega (arith, k.image, k.under) in
    rw (e, cleared-length out ys at.under k.reach q) (cleared out ys at.under k.reach q)

pub held-is : (header : List ℕ) (form : Form) (s : Stored) (c : Counts) (n start : ℕ) (out₁ out₂ front : List ℕ) → 3200 ≤ length header → c ≡ stored_counts s → start ≡ length header → start ≤ length out₁ → length out₁ ≡ n
    → front ≡ relined form c header
    → out₂ ≡ take start out₁ ++ (body_bytes form s ++ zeros (length out₁ - frame_length start form s)) → front ++ drop start out₂ ≡ held_bytes n (frame_bytes header form s)
held-is header form s c n start out₁ out₂ front h ec es l m ef e₂ =
    let d : drop start out₂ ≡ body_bytes form s ++ zeros (n - frame_length (length header) form s)
    = rw (e₂, drop_at (take start out₁) (body_bytes form s ++ zeros (length out₁ - frame_length start form s)) start (length-take-le start out₁ l), m, es) in
    frame-held header form s c n (front ++ drop start out₂) h ec (rw (d, ef))

pub self-placed : (start : ℕ) (form : Form) (s : Stored) (at : Places) → at ≡ places_for start form s → at.image ≡ start → at ≡ places_for at.image form s
self-placed start form s at e i = e ∙ ap (λ (n : ℕ). places_for n form s) (sym i)

pub prefix-length : (n start : ℕ) (l : List ℕ) → start ≡ n → start ≤ length l → n ≡ length (take start l)
prefix-length n start l e h = sym e ∙ sym (length-take-le start l h)

-- What the judging functions know of the frame that is to be written, and of its end e.
pub record Judged (header : List ℕ) (form : Form) (s : Stored) (c : Counts) (at : Places) (e : ℕ) : Type 0 where
  pub counts : c ≡ stored_counts s
  pub places : at ≡ places_for (length header) form s
  pub whole : e ≡ frame_length (length header) form s
  pub end : e ≡ length (frame_bytes header form s)

pub judged : (header : List ℕ) (form : Form) (base : ℕ) (vs : List ℕ) (c : Counts) (at : Places) (r : ℕ) → 3200 ≤ length header → base ≡ used_base form.underflow base → c ≡ counts_for form (counts_of base vs)
    → at ≡ places_by (length header) (length vs) form c → r ≡ table_bytes 4 c.four → Judged header form (stored_for form base vs) c at (at.four + r)
unfolding places_by frame_length
judged header form base vs c at r h k ec ep er =
    let s = stored_for form base vs in
    let cs : c ≡ stored_counts s = counts-are form base vs c k ec in
    let n : length s.image ≡ length vs = length-image form base vs in
    let ps : at ≡ places_for (length header) form s = ep ∙ rw (cs, n) in
    let w : at.four + r ≡ frame_length (length header) form s = rw (er, ps, cs) in
    record { counts = cs; places = ps; whole = w; end = w ∙ sym (frame-length header form s h) }

pub large_is : (form : Form) (base : ℕ) (vs : List ℕ) (r t : Bool) → r ≡ underflow_too_large form.underflow (under_entries form.underflow base vs) → r ≡ t
    → underflow_too_large form.underflow (stored_for form base vs).under ≡ t
unfolding stored_for
large_is form base vs r t e q = sym e ∙ q

pub base-given : (x : M.Base) (b : ℕ) → base_answer x ≡ Some b → x ≡ M.base b
base-given (M.base n) b e = let q : n ≡ b = cc in rw q
base-given M.no_base b e = absurd (let z : ◌≡◌ {A = ℕ} 0 1 = cc in omega arith)

pub base-missing : (x : M.Base) → base_answer x ≡ None → x ≡ M.no_base
base-missing (M.base n) e = absurd (let z : ◌≡◌ {A = ℕ} 0 1 = cc in omega arith)
base-missing M.no_base e = refl

same_base : {a b : ℕ} → M.base a ≡ M.base b → a ≡ b
same_base e = cc

line_low : (s : Result ℕ Refusal) (b : ℕ) → line_base s ≡ M.base b → b ≤ 65535
line_low (Ok n) b e = go (leb n 65535) refl e
  where
    go : (t : Bool) → leb n 65535 ≡ t → if◌then◌else◌ t (M.base n) M.no_base ≡ M.base b → b ≤ 65535
    go true p q = let l = leb-true n 65535 p in omega (arith, same_base q)
    go false p q = absurd (let z : ◌≡◌ {A = ℕ} 0 1 = cc in omega arith)
line_low (Err r) b e = absurd (let z : ◌≡◌ {A = ℕ} 0 1 = cc in omega arith)

pub base-good : (header : List ℕ) (h : Underflows) (u : Underflow) (b : ℕ) → base_for header h u ≡ M.base b → given_baseline h ≤ 65535 → (b ≤ 65535) × (b ≡ used_base u b)
base-good header h U.None b e l = (omega (arith, same_base e), sym (same_base e))
base-good header H.Unused (U.Subtracted k) b e l = (line_low (baseline_of header) b e, refl)
base-good header (H.NoWidth n) (U.Subtracted k) b e l = (omega (arith, same_base e), refl)
base-good header (H.Counted w n m) (U.Subtracted k) b e l = (omega (arith, same_base e), refl)

pub tables-low : (t : Tables) → TablesGood t → tables_baseline t ≤ 65535
unfolding TablesGood
tables-low (T.Format86 n) g = omega arith
tables-low (T.Format100 t) g = under_low t.underflows g
  where
    under_low : (u : Underflows) → BaselineGood u → given_baseline u ≤ 65535
    under_low H.Unused g = omega arith
    under_low (H.NoWidth b) g = g
    under_low (H.Counted e n b) g = g

-- an accepted header and its pixels are of bounded size
pub sized_of : (given pixels : List ℕ) (h : Header) (n start : ℕ) → header_of given ≡ Ok h → n ≡ pixel_count h.image → start ≡ h.image.start → n ≤ length pixels
    → Sized (take start given) (take n pixels) (tables_baseline h.tables)
sized_of given pixels h n start e en es l =
    let k = accepted-bounds given h e in
    let lg : length (take start given) ≡ start = length-take-le start given (omega (arith, k.inside)) in
    let lp : length (take n pixels) ≡ n = length-take-le n pixels l in
    let p : h.image.rows * h.image.columns ≤ 4096 * h.image.columns = mul-le-mul_right h.image.columns k.rows-high in
    record {
      long = rw lg (omega (arith, k.start-low));
      short = rw lg (omega (arith, k.start-high));
      few = rw lp (omega (arith, k.columns-high));
      low = tables-low h.tables k.baseline;
    }
