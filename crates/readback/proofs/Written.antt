-- What the writer answers for an accepted header of FORMAT 100, and what is known where it gives a frame.
-- Assumes nothing.
use mathlib.Core.Path.{◌≡◌, refl, sym, ap, subst, ◌∙◌}
use mathlib.Core.Bool.{Bool, true, false, ◌||◌}
use mathlib.Core.List.{List, [], ◌∷◌}
use Prim.Native.Nat.{ℕ, zero, suc, ◌^◌, ◌≤◌, ◌<◌}
use native.Mathlib.Nat.{not-suc-le-zero}
use native.Mathlib.Omega.{arith}
use borrow.Author.Tests.{leb-true, leb-false, le-ltb, ltb-false}
use lib.Dec.{leb, ltb}
use lib.ListN.{length, get_or, take}
use Rattle.std.specs.Prelude.{if◌then◌else◌, Err, Ok, Result, Some, ℕ}
use Rattle.refusal.specs.declared.Refusal.{Refusal}
use Rattle.refusal.specs.declared.Refusal.TheVariants as R
use Rattle.layout.specs.declared.EntryWidth.TheVariants as E
use Rattle.layout.specs.declared.Underflow.{Underflow}
use Rattle.layout.specs.declared.Underflow.TheVariants as U
use Rattle.layout.specs.declared.Underflows.{Underflows}
use Rattle.layout.specs.declared.Underflows.TheVariants as H
use Rattle.layout.specs.declared.BinaryTables.{BinaryTables}
use Rattle.layout.specs.declared.Tables.TheVariants as T
use Rattle.layout.specs.declared.Form.{Form}
use Rattle.layout.specs.declared.Header.{Header}
use Rattle.layout.specs.Layout.{pixel_count}
use Rattle.header.specs.Body.{baseline_of}
use Rattle.header.specs.Header.{header_of}
use Rattle.writer.specs.Storing.{under_entries, stored_for}
use Rattle.pixel_counts.specs.Counts.{is_underflow, any_above255}
use Rattle.lists.specs.Only.{only}
use Rattle.layout.specs.Form.{underflow_bytes}
use Rattle.writer.specs.Frame.{frame_bytes}
use Rattle.writer.specs.Writer.{Made, frame, refused, Base, base, no_base, line_base, base_for, underflow_too_large, made_with, writer_frame}
use Rattle.readback.specs.Written.{header_bytes, base_of, base_number, CanHold}
use Rattle.readback.proofs.Storing.{Below}
use Rattle.readback.proofs.Sound.{Based}
use Rattle.readback.proofs.HeaderBack.{Known}

-- the writer's answer, from a header that is accepted
pub writer-is : (given : List ℕ) (h : Header) (t : BinaryTables) (form : Form) (px : List ℕ) → header_of given ≡ Ok h → h.tables ≡ T.Format100 t
    → writer_frame given (Some form) px
    ≡ if◌then◌else◌ (ltb (length px) (pixel_count h.image)) (refused R.PixelArrayShort)
    (made_with (header_bytes given h) form (take (pixel_count h.image) px) (base_of given h t form))
unfolding writer_frame
writer-is given h t form px e q = rw (e, q)

-- a baseline, and no 17
unmade : {r : Refusal} {f : List ℕ} → refused r ≡ frame f → ⊥
unmade e = let z : ◌≡◌ {A = ℕ} 0 1 = cc in omega arith

pub made-inv : {P : Type 0} (header : List ℕ) (form : Form) (vs f : List ℕ) (given : Base) → made_with header form vs given ≡ frame f
    → ((b : ℕ) → given ≡ base b → underflow_too_large form.underflow (stored_for form b vs).under ≡ false → frame_bytes header form (stored_for form b vs) ≡ f → P) → P
made-inv {P} header form vs f (base b) e k = go (underflow_too_large form.underflow (stored_for form b vs).under) refl e
  where
    go : (t : Bool) → underflow_too_large form.underflow (stored_for form b vs).under ≡ t
        → if◌then◌else◌ t (refused R.UnderflowTooLarge) (frame (frame_bytes header form (stored_for form b vs))) ≡ frame f → P
    go true q p = absurd (unmade p)
    go false q p = k b refl q (cc)
made-inv header form vs f no_base e k = absurd (unmade e)

-- the baseline is line 79's
line_known : (header : List ℕ) (a : Result ℕ Refusal) (b : ℕ) → baseline_of header ≡ a → line_base a ≡ base b → (baseline_of header ≡ Ok b) × (b ≤ 65535)
line_known header (Ok n) b e q = go (leb n 65535) refl q
  where
    go : (t : Bool) → leb n 65535 ≡ t → if◌then◌else◌ t (base n) no_base ≡ base b → (baseline_of header ≡ Ok b) × (b ≤ 65535)
    go true l p = let z : n ≡ b = cc in (e ∙ ap Ok z, omega (arith, leb-true n 65535 l))
    go false l p = let z : ◌≡◌ {A = ℕ} 0 1 = cc in absurd (omega arith)
line_known header (Err r) b e q = let z : ◌≡◌ {A = ℕ} 0 1 = cc in absurd (omega arith)

pub base-known : (header : List ℕ) (u : Underflows) (k : Underflow) (b : ℕ) → Based header u → base_for header u k ≡ base b → Known header k b
base-known header u U.None b d e = tt
base-known header H.Unused (U.Subtracted w) b d e = line_known header (baseline_of header) b refl e
base-known header (H.NoWidth c) (U.Subtracted w) b d e = let z : c ≡ b = cc in (d.0 ∙ ap Ok z, omega (arith, d.1))
base-known header (H.Counted w n c) (U.Subtracted x) b d e = let z : c ≡ b = cc in (d.0 ∙ ap Ok z, omega (arith, d.1))

-- the underflow entries fit their width
neither : (p q : Bool) → (p || q) ≡ false → (p ≡ false) × (q ≡ false)
neither true q h = let z : ◌≡◌ {A = ℕ} 0 1 = cc in absurd (omega arith)
neither false q h = (refl, h)

bytes_fit : (vs : List ℕ) → any_above255 vs ≡ false → Below 256 vs
unfolding any_above255
bytes_fit [] h = tt
bytes_fit (v ∷ vs) h = let n = neither (ltb 255 v) (any_above255 vs) h in (omega (arith, ltb-false 255 v n.0), bytes_fit vs n.1)

low-fit : (b : ℕ) (vs : List ℕ) → b ≤ 65535 → Below 65536 (only (is_underflow b) vs)
unfolding only
low-fit b [] h = tt
low-fit b (v ∷ vs) h = go (leb v b) refl (low-fit b vs h)
  where
    go : (t : Bool) → leb v b ≡ t → Below 65536 (only (is_underflow b) vs) → Below 65536 (if◌then◌else◌ t (v ∷ only (is_underflow b) vs) (only (is_underflow b) vs))
    go true e r = (omega (arith, leb-true v b e), r)
    go false e r = r

entries_fit : (header : List ℕ) (u : Underflow) (b : ℕ) (vs : List ℕ) → Known header u b → underflow_too_large u (under_entries u b vs) ≡ false
    → Below (256 ^ underflow_bytes u) (under_entries u b vs)
entries_fit header U.None b vs k h = tt
entries_fit header (U.Subtracted E.One) b vs k h = bytes_fit (only (is_underflow b) vs) h
entries_fit header (U.Subtracted E.Two) b vs k h = low-fit b vs k.1

pub under-fits : (header : List ℕ) (form : Form) (b : ℕ) (vs : List ℕ) → Known header form.underflow b → underflow_too_large form.underflow (stored_for form b vs).under ≡ false
    → Below (256 ^ underflow_bytes form.underflow) (stored_for form b vs).under
unfolding stored_for
under-fits header form b vs k h = entries_fit header form.underflow b vs k h

-- 17 is due exactly where an underflow is above 255 and its entry has one byte
above-none : (b : ℕ) (vs : List ℕ) → any_above255 (only (is_underflow b) vs) ≡ false → (i : ℕ) → i < length vs → get_or vs i 0 ≤ b → get_or vs i 0 ≤ 255
unfolding any_above255 only
above-none b [] h i l q = absurd (not-suc-le-zero l)
above-none b (v ∷ vs) h i l q = go (leb v b) refl i h l q (above-none b vs)
  where
    go : (t : Bool) → leb v b ≡ t → (i : ℕ) → any_above255 (if◌then◌else◌ t (v ∷ only (is_underflow b) vs) (only (is_underflow b) vs)) ≡ false
        → i < suc (length vs) → get_or (v ∷ vs) i 0 ≤ b
        → (any_above255 (only (is_underflow b) vs) ≡ false → (i : ℕ) → i < length vs → get_or vs i 0 ≤ b → get_or vs i 0 ≤ 255) → get_or (v ∷ vs) i 0 ≤ 255
    go true e zero h l q ih = ltb-false 255 v (neither (ltb 255 v) _ h).0
    go true e (suc i) h l q ih = ih (neither (ltb 255 v) _ h).1 i (omega arith) q
    go false e zero h l q ih = absurd (let k = leb-false v b e in omega arith)
    go false e (suc i) h l q ih = ih h i (omega arith) q

none_above : (b : ℕ) (vs : List ℕ) → ((i : ℕ) → i < length vs → get_or vs i 0 ≤ b → get_or vs i 0 ≤ 255) → any_above255 (only (is_underflow b) vs) ≡ false
unfolding any_above255 only
none_above b [] h = refl
none_above b (v ∷ vs) h = go (leb v b) refl (none_above b vs (λ i l q. h (suc i) (omega arith) q))
  where
    go : (t : Bool) → leb v b ≡ t → any_above255 (only (is_underflow b) vs) ≡ false → any_above255 (if◌then◌else◌ t (v ∷ only (is_underflow b) vs) (only (is_underflow b) vs)) ≡ false
    go true e r = rw (le-ltb 255 v (h 0 (omega arith) (leb-true v b e)), r)
    go false e r = r

pub can-hold : (u : Underflow) (b : ℕ) (vs : List ℕ) → underflow_too_large u (under_entries u b vs) ≡ false → CanHold u (base b) vs
can-hold U.None b vs h = tt
can-hold (U.Subtracted E.One) b vs h = above-none b vs h
can-hold (U.Subtracted E.Two) b vs h = tt

pub holds : (u : Underflow) (b : ℕ) (vs : List ℕ) → CanHold u (base b) vs → underflow_too_large u (under_entries u b vs) ≡ false
holds U.None b vs h = refl
holds (U.Subtracted E.One) b vs h = none_above b vs h
holds (U.Subtracted E.Two) b vs h = refl

-- a form that can hold the pixels has a baseline, or needs none
some-base : (g : Base) (u : Underflow) (vs : List ℕ) → CanHold u g vs → (u ≡ U.None → g ≡ base 0) → g ≡ base (base_number g)
some-base (base b) u vs h k = refl
some-base no_base U.None vs h k = let z : ◌≡◌ {A = ℕ} 0 1 = (let y = k refl in cc) in absurd (omega arith)
some-base no_base (U.Subtracted E.One) vs h k = absurd h
some-base no_base (U.Subtracted E.Two) vs h k = absurd h

none-base : (header : List ℕ) (us : Underflows) (u : Underflow) → u ≡ U.None → base_for header us u ≡ base 0
none-base header us u e = ap (base_for header us) e

pub made_held : (header : List ℕ) (us : Underflows) (form : Form) (vs : List ℕ) (g : Base) → base_for header us form.underflow ≡ g → CanHold form.underflow g vs
    → made_with header form vs g ≡ frame (frame_bytes header form (stored_for form (base_number g) vs))
unfolding stored_for
made_held header us form vs g e c =
    let s : g ≡ base (base_number g) = some-base g form.underflow vs c (λ n. sym e ∙ none-base header us form.underflow n) in
    ap (made_with header form vs) s
    ∙ chosen (underflow_too_large form.underflow (stored_for form (base_number g) vs).under) _ _
    (holds form.underflow (base_number g) vs (subst (λ (x : Base). CanHold form.underflow x vs) s c))
  where
    chosen : (t : Bool) (x y : Made) → t ≡ false → if◌then◌else◌ t x y ≡ y
    chosen t x y q = rw q

pub held-made : (header : List ℕ) (form : Form) (vs f : List ℕ) (g : Base) → made_with header form vs g ≡ frame f → CanHold form.underflow g vs
unfolding stored_for
held-made header form vs f g e =
    made-inv header form vs f g e (λ b is small _. subst (λ (x : Base). CanHold form.underflow x vs) (sym is) (can-hold form.underflow b vs small))

-- 17, where there is a baseline and the form cannot hold the pixels
pub made-refused : (header : List ℕ) (form : Form) (vs : List ℕ) (b : ℕ) → (CanHold form.underflow (base b) vs → ⊥) → made_with header form vs (base b) ≡ refused R.UnderflowTooLarge
unfolding stored_for
made-refused header form vs b n = go (underflow_too_large form.underflow (under_entries form.underflow b vs)) refl
  where
    go : (t : Bool) → underflow_too_large form.underflow (under_entries form.underflow b vs) ≡ t
        → if◌then◌else◌ t (refused R.UnderflowTooLarge) (frame (frame_bytes header form (stored_for form b vs))) ≡ refused R.UnderflowTooLarge
    go true e = refl
    go false e = absurd (n (can-hold form.underflow b vs e))
