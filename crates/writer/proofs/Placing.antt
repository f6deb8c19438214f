-- The parts of a frame, filled block by block in their regions of the output.
-- Assumes nothing.
use Rattle.std.proofs.Common.{◌≡◌, ℕ, zero, suc, ◌+◌, ◌-◌, ◌*◌, ◌≤◌, Bool, true, false, leb, List, [], ◌∷◌, ◌++◌, map, length, take, drop, sym, refl, ap, ◌∙◌, append_assoc, append-nil, add-mul, zero-mul, arith, length-append, length-drop, take-append-drop, drop_of_length-le, length-take, length-take-le, take_all, drop-drop, leb-true}
use mathlib.Core.List.{map-append}
use lib.ListN.{length-map, length-replicate, replicate-append-replicate}
use Rattle.std.specs.Prelude.{if◌then◌else◌}
use Rattle.lists.specs.Bytes.{zeros, over}
use Rattle.layout.specs.declared.Width.{Width}
use Rattle.layout.specs.declared.Width.TheVariants as W
use Rattle.layout.specs.declared.Underflow.{Underflow}
use Rattle.layout.specs.declared.Underflow.TheVariants as U
use Rattle.layout.specs.declared.Form.{Form}
use Rattle.layout.specs.declared.EntryWidth.{EntryWidth}
use Rattle.layout.specs.Form.{width_bytes, entry_bytes, underflow_bytes}
use Rattle.layout.specs.Layout.{table_bytes}
use Rattle.table.specs.Writing.{table_of, padded_table}
use Rattle.table.proofs.Storing.{length-table, table-append}
use Rattle.expand.specs.Steps.{Stored}
use Rattle.writer.specs.Storing.{lowered, lowered_all, under_entries, two_entries, four_entries, at_most65535, stored_value, stored_for}
use Rattle.pixel_counts.specs.Counts.{is_underflow}
use Rattle.lists.specs.Only.{only}
use Rattle.writer.specs.Frame.{body_bytes, frame_length}
use Rattle.writer.specs.Blocks.{less, used_base, is_plain, put_block, put_values, places_after, places_past, places_by, places_for, Room, ValuesRoom}
use Rattle.writer.specs.declared.Places.{Places}
use Rattle.lists.proofs.Only.{only-append, take_split}
use Rattle.writer.proofs.Over.{none-put, four-put}
use Rattle.lists.proofs.Over.{length_over, over_skip, over_first, over-front, front, length_front}

-- the bytes ys behind xs in a region r, with one to four regions at hand
region : (a b xs ys r : List ℕ) (at : ℕ) → at ≡ length a + length xs → length xs + length ys ≤ length r
    → over at ys (a ++ (front xs r ++ b)) ≡ a ++ (front (xs ++ ys) r ++ b)
region a b xs ys r at e h =
    let l = length_front xs r (omega arith) in
    over_skip a (front xs r ++ b) ys (length xs) at e
    ∙ ap (λ (l : List ℕ). a ++ l) (over_first (front xs r) b ys (length xs) (omega arith) ∙ ap (λ (l : List ℕ). l ++ b) (over-front xs ys r))

region2 : (a₁ a₂ b xs ys r : List ℕ) (at : ℕ) → at ≡ length a₁ + (length a₂ + length xs) → length xs + length ys ≤ length r
    → over at ys (a₁ ++ (a₂ ++ (front xs r ++ b))) ≡ a₁ ++ (a₂ ++ (front (xs ++ ys) r ++ b))
region2 a₁ a₂ b xs ys r at e h =
    over_skip a₁ (a₂ ++ (front xs r ++ b)) ys (length a₂ + length xs) at e ∙ ap (λ (l : List ℕ). a₁ ++ l) (region a₂ b xs ys r (length a₂ + length xs) refl h)

region3 : (a₁ a₂ a₃ b xs ys r : List ℕ) (at : ℕ) → at ≡ length a₁ + (length a₂ + (length a₃ + length xs)) → length xs + length ys ≤ length r
    → over at ys (a₁ ++ (a₂ ++ (a₃ ++ (front xs r ++ b)))) ≡ a₁ ++ (a₂ ++ (a₃ ++ (front (xs ++ ys) r ++ b)))
region3 a₁ a₂ a₃ b xs ys r at e h =
    over_skip a₁ (a₂ ++ (a₃ ++ (front xs r ++ b))) ys (length a₂ + (length a₃ + length xs)) at e
    ∙ ap (λ (l : List ℕ). a₁ ++ l) (region2 a₂ a₃ b xs ys r (length a₂ + (length a₃ + length xs)) refl h)

region4 : (a₁ a₂ a₃ a₄ b xs ys r : List ℕ) (at : ℕ) → at ≡ length a₁ + (length a₂ + (length a₃ + (length a₄ + length xs))) → length xs + length ys ≤ length r
    → over at ys (a₁ ++ (a₂ ++ (a₃ ++ (a₄ ++ (front xs r ++ b))))) ≡ a₁ ++ (a₂ ++ (a₃ ++ (a₄ ++ (front (xs ++ ys) r ++ b))))
region4 a₁ a₂ a₃ a₄ b xs ys r at e h =
    over_skip a₁ (a₂ ++ (a₃ ++ (a₄ ++ (front xs r ++ b)))) ys (length a₂ + (length a₃ + (length a₄ + length xs))) at e
    ∙ ap (λ (l : List ℕ). a₁ ++ l) (region3 a₂ a₃ a₄ b xs ys r (length a₂ + (length a₃ + (length a₄ + length xs))) refl h)

-- two frames in values, one behind the other
abbrev pub joined : Stored → Stored → Stored
joined s b = record { image = s.image ++ b.image; under = s.under ++ b.under; two = s.two ++ b.two; four = s.four ++ b.four }

under-append : (u : Underflow) (base : ℕ) (xs ys : List ℕ) → under_entries u base (xs ++ ys) ≡ under_entries u base xs ++ under_entries u base ys
under-append U.None base xs ys = refl
under-append (U.Subtracted e) base xs ys = only-append (is_underflow base) xs ys

two-append : (w : Width) (xs ys : List ℕ) → two_entries w (xs ++ ys) ≡ two_entries w xs ++ two_entries w ys
two-append W.One xs ys = ap (map at_most65535) (only-append (leb 255) xs ys) ∙ map-append at_most65535 (only (leb 255) xs) (only (leb 255) ys)
two-append W.Two xs ys = refl
two-append W.Four xs ys = refl

four-append : (w : Width) (xs ys : List ℕ) → four_entries w (xs ++ ys) ≡ four_entries w xs ++ four_entries w ys
four-append W.One xs ys = only-append (leb 65535) xs ys
four-append W.Two xs ys = only-append (leb 65535) xs ys
four-append W.Four xs ys = refl

pub stored-append : (form : Form) (base : ℕ) (xs ys : List ℕ) → stored_for form base (xs ++ ys) ≡ joined (stored_for form base xs) (stored_for form base ys)
unfolding stored_for
stored-append form base xs ys =
    let l : lowered_all form base (xs ++ ys) ≡ lowered_all form base xs ++ lowered_all form base ys = map-append (lowered form.underflow base) xs ys in
    rw (l, map-append (stored_value form.width) (lowered_all form base xs) (lowered_all form base ys), under-append form.underflow base xs ys, two-append form.width (lowered_all form base xs) (lowered_all form base ys), four-append form.width (lowered_all form base xs) (lowered_all form base ys))

-- The regions of the output: what stands before them, the image's, the three tables', and what stands behind them.
pub record Regions : Type 0 where
  pub before : List ℕ
  pub image : List ℕ
  pub under : List ℕ
  pub two : List ℕ
  pub four : List ℕ
  pub behind : List ℕ

-- a frame's parts fit their regions
pub record Fitting (form : Form) (s : Stored) (g : Regions) : Type 0 where
  pub image : length s.image * width_bytes form.width ≤ length g.image
  pub under : length s.under * underflow_bytes form.underflow ≤ length g.under
  pub two : length s.two * 2 ≤ length g.two
  pub four : length s.four * 4 ≤ length g.four

-- the regions with the parts at their fronts
abbrev pub laid : Form → Stored → Regions → List ℕ
laid form s g =
    g.before
    ++ (front (table_of (width_bytes form.width) s.image) g.image
    ++ (front (table_of (underflow_bytes form.underflow) s.under) g.under
    ++ (front (table_of 2 s.two) g.two ++ (front (table_of 4 s.four) g.four ++ g.behind))))

-- The parts of s are written, and the next go to the places.
pub record Placed (form : Form) (g : Regions) (s : Stored) (at : Places) (out : List ℕ) : Type 0 where
  pub image-at : at.image ≡ length g.before + length s.image * width_bytes form.width
  pub under_at : at.under ≡ length g.before + (length g.image + length s.under * underflow_bytes form.underflow)
  pub two_at : at.two ≡ length g.before + (length g.image + (length g.under + length s.two * 2))
  pub four-at : at.four ≡ length g.before + (length g.image + (length g.under + (length g.two + length s.four * 4)))
  pub is : out ≡ laid form s g

-- the bytes of s and b together fit
record Sums (form : Form) (s b : Stored) (g : Regions) : Type 0 where
  image : length s.image * width_bytes form.width + length b.image * width_bytes form.width ≤ length g.image
  under : length s.under * underflow_bytes form.underflow + length b.under * underflow_bytes form.underflow ≤ length g.under
  two : length s.two * 2 + length b.two * 2 ≤ length g.two
  four : length s.four * 4 + length b.four * 4 ≤ length g.four

sums : (form : Form) (s b : Stored) (g : Regions) → Fitting form (joined s b) g → Sums form s b g
sums form s b g f =
    let t = rw length-append at f.two in
    let q = rw length-append at f.four in
    record {
      image = rw (length-append, add-mul (length s.image) (length b.image) (width_bytes form.width)) at f.image;
      under = rw (length-append, add-mul (length s.under) (length b.under) (underflow_bytes form.underflow)) at f.under;
      two = omega arith;
      four = omega arith;
    }

-- a part of what fits, fits
pub fitting-first : (form : Form) (s b : Stored) (g : Regions) → Fitting form (joined s b) g → Fitting form s g
fitting-first form s b g f =
    let k = sums form s b g f in
    record { image = omega (arith, k.image); under = omega (arith, k.under); two = omega (arith, k.two); four = omega (arith, k.four) }

pub laid-length : (form : Form) (s : Stored) (g : Regions) → Fitting form s g
    → length (laid form s g) ≡ length g.before + (length g.image + (length g.under + (length g.two + (length g.four + length g.behind))))
laid-length form s g f =
    let i = length_front (table_of (width_bytes form.width) s.image) g.image (rw length-table f.image) in
    let u = length_front (table_of (underflow_bytes form.underflow) s.under) g.under (rw length-table f.under) in
    let t = length_front (table_of 2 s.two) g.two (rw length-table f.two) in
    let q = length_front (table_of 4 s.four) g.four (rw length-table f.four) in
    rw (length-append g.before, length-append (front (table_of (width_bytes form.width) s.image) g.image), i, length-append (front (table_of (underflow_bytes form.underflow) s.under) g.under), u, length-append (front (table_of 2 s.two) g.two), t, length-append (front (table_of 4 s.four) g.four), q)

pub placed-room : {form : Form} {g : Regions} {s : Stored} {at : Places} {out : List ℕ} (b : Stored) → Placed form g s at out → Fitting form (joined s b) g → Room form b at (length out)
placed-room {form} {g} {s} {at} {out} b p f =
    let k = sums form s b g f in
    let l = ap length p.is ∙ laid-length form s g (fitting-first form s b g f) in
    record {
      image = omega (arith, k.image, p.image-at);
      under = omega (arith, k.under, p.under_at);
      two = omega (arith, k.two, p.two_at);
      four = omega (arith, k.four, p.four-at);
    }

pub placed-more : {form : Form} {g : Regions} {s : Stored} {at : Places} {out : List ℕ} (b : Stored) (at' : Places) (out' : List ℕ) → Placed form g s at out → Fitting form (joined s b) g
    → at' ≡ places_after form b at → out' ≡ put_block form b at out → Placed form g (joined s b) at' out'
unfolding put_block places_after
placed-more {form} {g} {s} {at} {out} b at' out' p f e q =
    let k = sums form s b g f in
    let w = width_bytes form.width in
    let u = underflow_bytes form.underflow in
    let xi = table_of w s.image in
    let xu = table_of u s.under in
    let xt = table_of 2 s.two in
    let xf = table_of 4 s.four in
    let yi = table_of w b.image in
    let yu = table_of u b.under in
    let yt = table_of 2 b.two in
    let yf = table_of 4 b.four in
    let fi = front xi g.image in
    let li : length fi ≡ length g.image = length_front xi g.image (rw length-table (omega (arith, k.image))) in
    let lu : length (front (xu ++ yu) g.under) ≡ length g.under = length_front (xu ++ yu) g.under (rw (length-append, length-table, length-table) k.under) in
    let lt : length (front (xt ++ yt) g.two) ≡ length g.two = length_front (xt ++ yt) g.two (rw (length-append, length-table, length-table) k.two) in
    let under : over at.under yu out ≡ g.before ++ (fi ++ (front (xu ++ yu) g.under ++ (front xt g.two ++ (front xf g.four ++ g.behind))))
    = ap (over at.under yu) p.is
    ∙ region2 g.before fi (front xt g.two ++ (front xf g.four ++ g.behind)) xu yu g.under at.under (rw (li, length-table) p.under_at) (rw (length-table, length-table) k.under) in
    let two : over at.two yt (over at.under yu out) ≡ g.before ++ (fi ++ (front (xu ++ yu) g.under ++ (front (xt ++ yt) g.two ++ (front xf g.four ++ g.behind))))
    = ap (over at.two yt) under
    ∙ region3 g.before fi (front (xu ++ yu) g.under) (front xf g.four ++ g.behind) xt yt g.two at.two (rw (li, lu, length-table) p.two_at) (rw (length-table, length-table) k.two) in
    let four : over at.four yf (over at.two yt (over at.under yu out))
    ≡ g.before ++ (fi ++ (front (xu ++ yu) g.under ++ (front (xt ++ yt) g.two ++ (front (xf ++ yf) g.four ++ g.behind))))
    = ap (over at.four yf) two
    ∙ region4 g.before fi (front (xu ++ yu) g.under) (front (xt ++ yt) g.two) g.behind xf yf g.four at.four (rw (li, lu, lt, length-table) p.four-at) (rw (length-table, length-table) k.four) in
    let image : out' ≡ g.before ++ (front (xi ++ yi) g.image ++ (front (xu ++ yu) g.under ++ (front (xt ++ yt) g.two ++ (front (xf ++ yf) g.four ++ g.behind))))
    = q ∙ ap (over at.image yi) four
    ∙ region g.before (front (xu ++ yu) g.under ++ (front (xt ++ yt) g.two ++ (front (xf ++ yf) g.four ++ g.behind))) xi yi g.image at.image (rw length-table p.image-at) (rw (length-table, length-table) k.image) in
    rw e
    (record {
      image-at = rw (length-append, add-mul (length s.image) (length b.image) w, p.image-at) (omega arith);
      under_at = rw (length-append, add-mul (length s.under) (length b.under) u, p.under_at) (omega arith);
      two_at = rw (length-append, p.two_at) (omega arith);
      four-at = rw (length-append, p.four-at) (omega arith);
      is = image ∙ rw (table-append w, table-append u, table-append 2, table-append 4);
    })

-- the regions of a frame in a buffer that is zero behind the image
unfoldable pub regions_of : ℕ → Form → Stored → List ℕ → Regions
unfolding table_bytes frame_length
regions_of start form s out = record {
  before = take start out;
  image = take (length s.image * width_bytes form.width) (drop start out);
  under = zeros (table_bytes (underflow_bytes form.underflow) (length s.under));
  two = zeros (table_bytes 2 (length s.two));
  four = zeros (table_bytes 4 (length s.four));
  behind = zeros (length out - frame_length start form s);
}

table-ge : (w n : ℕ) → n * w ≤ table_bytes w n
unfolding table_bytes
table-ge w n = omega arith

pub fitting-whole : (start : ℕ) (form : Form) (s : Stored) (out : List ℕ) → frame_length start form s ≤ length out → Fitting form s (regions_of start form s out)
unfolding regions_of frame_length
fitting-whole start form s out h =
    let n = length s.image * width_bytes form.width in
    let l : length (take n (drop start out)) ≡ n = simp (length-take, length-drop) (omega arith) in
    record {
      image = rw l (omega arith);
      under = rw length-replicate (table-ge (underflow_bytes form.underflow) (length s.under));
      two = rw length-replicate (table-ge 2 (length s.two));
      four = rw length-replicate (table-ge 4 (length s.four));
    }

unfoldable pub none : Stored
none = record { image = []; under = []; two = []; four = [] }

pub stored-nil : (form : Form) (base : ℕ) → stored_for form base [] ≡ none
unfolding stored_for only none
stored-nil form base = rw (u form.underflow, t form.width, f form.width)
  where
    u : (k : Underflow) → under_entries k base [] ≡ []
    u U.None = refl
    u (U.Subtracted e) = refl

    t : (w : Width) → two_entries w [] ≡ []
    t W.One = refl
    t W.Two = refl
    t W.Four = refl

    f : (w : Width) → four_entries w [] ≡ []
    f W.One = refl
    f W.Two = refl
    f W.Four = refl

zeros-split : (m a b c d : ℕ) → m ≡ a + (b + (c + d)) → zeros m ≡ zeros a ++ (zeros b ++ (zeros c ++ zeros d))
zeros-split m a b c d e = rw (e, replicate-append-replicate c d, replicate-append-replicate b (c + d), replicate-append-replicate a (b + (c + d)))

pub placed-start : (form : Form) (base : ℕ) (s : Stored) (at : Places) (out : List ℕ) → at ≡ places_for at.image form s → frame_length at.image form s ≤ length out
    → drop (at.image + length s.image * width_bytes form.width) out ≡ zeros (length out - (at.image + length s.image * width_bytes form.width))
    → Placed form (regions_of at.image form s out) (stored_for form base []) at out
unfolding regions_of places_by frame_length none table_of
placed-start form base s at out e h z =
    let start = at.image in
    let n = length s.image * width_bytes form.width in
    let nu = table_bytes (underflow_bytes form.underflow) (length s.under) in
    let nt = table_bytes 2 (length s.two) in
    let nf = table_bytes 4 (length s.four) in
    let lb : length (take start out) ≡ start = length-take-le start out (omega arith) in
    let li : length (take n (drop start out)) ≡ n = simp (length-take, length-drop) (omega arith) in
    let zs : zeros (length out - (start + n)) ≡ zeros nu ++ (zeros nt ++ (zeros nf ++ zeros (length out - (start + n + nu + nt + nf))))
    = zeros-split (length out - (start + n)) nu nt nf (length out - (start + n + nu + nt + nf)) (omega arith) in
    let tail : drop start out ≡ take n (drop start out) ++ zeros (length out - (start + n))
    = sym (take-append-drop n (drop start out)) ∙ ap (λ (l : List ℕ). take n (drop start out) ++ l) (drop-drop n start out ∙ z) in
    rw (stored-nil form base)
    (record {
      image-at = rw lb (omega (arith, zero-mul (width_bytes form.width)));
      under_at = rw (lb, li) (omega (arith, ap (λ (p : Places). p.under) e, zero-mul (underflow_bytes form.underflow)));
      two_at = rw (lb, li, length-replicate) (omega (arith, ap (λ (p : Places). p.two) e));
      four-at = rw (lb, li, length-replicate, length-replicate) (omega (arith, ap (λ (p : Places). p.four) e));
      is = sym (take-append-drop start out) ∙ ap (λ (l : List ℕ). take start out ++ l) (tail ∙ ap (λ (l : List ℕ). take n (drop start out) ++ l) zs);
    })

drop-zeros : (k n : ℕ) → drop k (zeros n) ≡ zeros (n - k)
drop-zeros zero n = let e : n - 0 ≡ n = omega arith in rw e
drop-zeros (suc k) zero = let e : 0 - suc k ≡ 0 = omega arith in rw e
drop-zeros (suc k) (suc n) = let e : suc n - suc k ≡ n - k = omega arith in rw e (drop-zeros k n)

padded : (w : ℕ) (xs : List ℕ) → front (table_of w xs) (zeros (table_bytes w (length xs))) ≡ padded_table w xs
unfolding padded_table
padded w xs = rw (length-table, drop-zeros)

pub placed-done : {form : Form} {s : Stored} {t : Places} {out : List ℕ} (start : ℕ) (out₀ : List ℕ) → Placed form (regions_of start form s out₀) s t out → frame_length start form s ≤ length out₀
    → out ≡ take start out₀ ++ (body_bytes form s ++ zeros (length out₀ - frame_length start form s))
unfolding regions_of body_bytes frame_length
placed-done {form} {s} {t} {out} start out₀ p h =
    let w = width_bytes form.width in
    let i = take (length s.image * w) (drop start out₀) in
    let z : drop (length (table_of w s.image)) i ≡ []
    = drop_of_length-le i {i = length (table_of w s.image)} (rw length-table (simp (length-take, length-drop) (omega arith))) in
    p.is ∙ rw (z, append-nil, padded (underflow_bytes form.underflow) s.under, padded 2 s.two, padded 4 s.four) (simp append_assoc)

-- The loop over the blocks.
pub record Storing (form : Form) (base : ℕ) (pixels out₀ out : List ℕ) (at t : Places) (p : ℕ) : Type 0 where
  pub upto : p ≤ length pixels
  pub same : length out ≡ length out₀
  pub is : Placed form (regions_of at.image form (stored_for form base pixels) out₀) (stored_for form base (take p pixels)) t out

module _ (form : Form) (base : ℕ) (pixels : List ℕ) (g : Regions) (p e : ℕ) (h : p ≤ e) where
  parts : stored_for form base (take e pixels) ≡ joined (stored_for form base (take p pixels)) (stored_for form base (take (e - p) (drop p pixels)))
  parts = ap (stored_for form base) (take_split p e pixels h) ∙ stored-append form base (take p pixels) (take (e - p) (drop p pixels))

  fits : Fitting form (stored_for form base pixels) g → Fitting form (joined (stored_for form base (take p pixels)) (stored_for form base (take (e - p) (drop p pixels)))) g
  fits f =
      let whole : stored_for form base pixels ≡ joined (stored_for form base (take e pixels)) (stored_for form base (drop e pixels))
      = ap (stored_for form base) (sym (take-append-drop e pixels)) ∙ stored-append form base (take e pixels) (drop e pixels) in
      rw (← parts) (fitting-first form (stored_for form base (take e pixels)) (stored_for form base (drop e pixels)) g (rw whole at f))

pub storing-room : {form : Form} {base : ℕ} {pixels out₀ out : List ℕ} {at t : Places} {p : ℕ} (e : ℕ) → Storing form base pixels out₀ out at t p → p ≤ e
    → frame_length at.image form (stored_for form base pixels) ≤ length out₀ → Room form (stored_for form base (take (e - p) (drop p pixels))) t (length out)
storing-room {form} {base} {pixels} {out₀} {out} {at} {t} {p} e f h k =
    placed-room (stored_for form base (take (e - p) (drop p pixels))) f.is
    (fits form base pixels (regions_of at.image form (stored_for form base pixels) out₀) p e h (fitting-whole at.image form (stored_for form base pixels) out₀ k))

pub storing-more : {form : Form} {base : ℕ} {pixels out₀ out : List ℕ} {at t : Places} {p : ℕ} (e : ℕ) (t' : Places) (out' : List ℕ) → Storing form base pixels out₀ out at t p → p ≤ e → e ≤ length pixels
    → frame_length at.image form (stored_for form base pixels) ≤ length out₀ → length out' ≡ length out
    → t' ≡ places_after form (stored_for form base (take (e - p) (drop p pixels))) t → out' ≡ put_block form (stored_for form base (take (e - p) (drop p pixels))) t out
    → Storing form base pixels out₀ out' at t' e
storing-more {form} {base} {pixels} {out₀} {out} {at} {t} {p} e t' out' f h l k m q r =
    let g = regions_of at.image form (stored_for form base pixels) out₀ in
    record {
      upto = l;
      same = m ∙ f.same;
      is =
          rw (parts form base pixels g p e h)
          (placed-more (stored_for form base (take (e - p) (drop p pixels))) t' out' f.is (fits form base pixels g p e h (fitting-whole at.image form (stored_for form base pixels) out₀ k)) q r);
    }

pub storing-done : {form : Form} {base : ℕ} {pixels out₀ out : List ℕ} {at t : Places} {p : ℕ} → Storing form base pixels out₀ out at t p → length pixels ≤ p
    → frame_length at.image form (stored_for form base pixels) ≤ length out₀
    → out ≡ take at.image out₀ ++ (body_bytes form (stored_for form base pixels) ++ zeros (length out₀ - frame_length at.image form (stored_for form base pixels)))
storing-done {form} {base} {pixels} {out₀} {out} {at} {t} {p} f h k = placed-done at.image out₀ (rw (take_all p pixels h) at f.is) k

less_zero : (v : ℕ) → less 0 v ≡ v
less_zero v = go (leb v 0) refl
  where
    go : (t : Bool) → leb v 0 ≡ t → if◌then◌else◌ t 0 (v - 0) ≡ v
    go true e = let h = leb-true v 0 e in omega arith
    go false e = omega arith

less-zeros : (vs : List ℕ) → map (less 0) vs ≡ vs
less-zeros [] = refl
less-zeros (v ∷ vs) = rw (less_zero v, less-zeros vs)

same_none : (base : ℕ) (vs : List ℕ) → map (lowered U.None base) vs ≡ vs
same_none base [] = refl
same_none base (v ∷ vs) = ap (λ (l : List ℕ). v ∷ l) (same_none base vs)

-- the pixels less the baseline
pub lowered_is : (u : Underflow) (base : ℕ) (vs : List ℕ) → base ≡ used_base u base → map (lowered u base) vs ≡ map (less base) vs
lowered_is U.None base vs e = same_none base vs ∙ sym (less-zeros vs) ∙ ap (λ (b : ℕ). map (less b) vs) (sym e)
lowered_is (U.Subtracted k) base vs e = refl

-- kind none keeps the pixels and has no entry
pub low-none : (form : Form) (base : ℕ) (vs : List ℕ) → form.underflow ≡ U.None → vs ≡ lowered_all form base vs
low-none form base vs e = rw e (sym (same_none base vs))

pub none-under : (form : Form) (base at : ℕ) (vs out : List ℕ) → form.underflow ≡ U.None
    → (at ≡ at + length (under_entries form.underflow base vs) * underflow_bytes form.underflow) × (out ≡ over at (table_of (underflow_bytes form.underflow) (under_entries form.underflow base vs)) out)
none-under form base at vs out e = rw e (none-put at 0 [] out refl)

pub room-under : (form : Form) (base n : ℕ) (vs : List ℕ) (at : Places) (e : EntryWidth) → form.underflow ≡ U.Subtracted e → Room form (stored_for form base vs) at n
    → at.under + length (only (is_underflow base) vs) * entry_bytes e ≤ n
unfolding stored_for
room-under form base n vs at e q r = rw q at r.under

-- the values of a block in one width
pub past_is : (w : Width) (low : List ℕ) (at : Places) (i t f : ℕ) → i ≡ at.image + length low * width_bytes w → t ≡ at.two + length (two_entries w low) * 2 → f ≡ at.four + length (four_entries w low) * 4
    → ◌≡◌ {A = Places} (record { image = i; under = at.under; two = t; four = f }) (places_past w low at)
unfolding places_past
past_is w low at i t f ei et ef = rw (ei, et, ef)

pub values-are : (w : Width) (low : List ℕ) (at : Places) (out out₁ out₂ out₃ : List ℕ) → out₁ ≡ over at.two (table_of 2 (two_entries w low)) out → out₂ ≡ over at.four (table_of 4 (four_entries w low)) out₁
    → out₃ ≡ over at.image (table_of (width_bytes w) (map (stored_value w) low)) out₂ → out₃ ≡ put_values w low at out
unfolding put_values
values-are w low at out out₁ out₂ out₃ e₁ e₂ e₃ = e₃ ∙ rw (e₂, e₁)

-- width 4 has no entries
pub four-values : (low : List ℕ) (at : Places) (out out' : List ℕ) → out' ≡ over at.image (table_of 4 low) out → out' ≡ put_values W.Four low at out
four-values low at out out' e =
    values-are W.Four low at out out out out' (none-put at.two 2 [] out refl).1 (none-put at.four 4 [] out refl).1 (four-put at.image low out out' e)

-- the same places but for the underflow entries'
pub record Beside (at at' : Places) : Type 0 where
  pub image : at'.image ≡ at.image
  pub two : at'.two ≡ at.two
  pub four : at'.four ≡ at.four

-- A block, from its values as the kind has them.
module _ (form : Form) (base : ℕ) (vs low : List ℕ) (at at' : Places) (low-is : low ≡ lowered_all form base vs) (beside : Beside at at') where
  pub room-values : (m n : ℕ) → m ≡ n → Room form (stored_for form base vs) at n → ValuesRoom form.width low at' m
  unfolding stored_for
  room-values m n e r = record {
    image = rw (e, low-is, beside.image) (rw length-map at r.image);
    two = rw (e, low-is, beside.two) r.two;
    four = rw (e, low-is, beside.four) r.four;
  }

  pub block-put : (out out₁ out₂ : List ℕ) → out₁ ≡ over at.under (table_of (underflow_bytes form.underflow) (under_entries form.underflow base vs)) out
      → out₂ ≡ put_values form.width low at' out₁ → out₂ ≡ put_block form (stored_for form base vs) at out
  unfolding put_block put_values stored_for
  block-put out out₁ out₂ e₁ e₂ = e₂ ∙ rw (e₁, beside.image, beside.two, beside.four, low-is)

  pub block-places : (r : Places) → at'.under ≡ at.under + length (under_entries form.underflow base vs) * underflow_bytes form.underflow
      → r ≡ places_past form.width low at' → r ≡ places_after form (stored_for form base vs) at
  unfolding places_past places_after stored_for
  block-places r eu e = e ∙ rw (beside.image, beside.two, beside.four, eu, low-is, length-map (lowered_all form base vs) (stored_value form.width))

pub plain-is : (w : Width) (u : Underflow) (r : Bool) → r ≡ is_plain w u → r ≡ true → (w ≡ W.Four) × (u ≡ U.None)
plain-is W.One u r e t = absurd (let z : ◌≡◌ {A = ℕ} 0 1 = cc in omega arith)
plain-is W.Two u r e t = absurd (let z : ◌≡◌ {A = ℕ} 0 1 = cc in omega arith)
plain-is W.Four U.None r e t = (refl, refl)
plain-is W.Four (U.Subtracted k) r e t = absurd (let z : ◌≡◌ {A = ℕ} 0 1 = cc in omega arith)

-- All pixels as one block, where the kind is none.
module _ (form : Form) (base : ℕ) (pixels out : List ℕ) (at : Places) (kind : form.underflow ≡ U.None) (places : at ≡ places_for at.image form (stored_for form base pixels))
    (fit : frame_length at.image form (stored_for form base pixels) ≤ length out)
    (clear : drop (at.image + length (stored_for form base pixels).image * width_bytes form.width) out ≡ zeros (length out - (at.image + length (stored_for form base pixels).image * width_bytes form.width))) where
  ready : Storing form base pixels out out at at 0
  ready = record { upto = omega arith; same = refl; is = placed-start form base (stored_for form base pixels) at out places fit clear }

  here : take (length pixels - 0) (drop 0 pixels) ≡ pixels
  here = take_all (length pixels - 0) pixels (omega arith)

  beside : Beside at at
  beside = record { image = refl; two = refl; four = refl }

  pub whole_room : ValuesRoom form.width pixels at (length out)
  whole_room =
      room-values form base pixels pixels at at (low-none form base pixels kind) beside (length out) (length out) refl
      (rw here at (storing-room (length pixels) ready (omega arith) fit))

  whole-put : (out' : List ℕ) → length out' ≡ length out → out' ≡ put_values form.width pixels at out
      → out' ≡ take at.image out ++ (body_bytes form (stored_for form base pixels) ++ zeros (length out - frame_length at.image form (stored_for form base pixels)))
  whole-put out' l e =
      let p : out' ≡ put_block form (stored_for form base pixels) at out
      = block-put form base pixels pixels at at (low-none form base pixels kind) beside out out out' (none-under form base at.under pixels out kind).1 e in
      storing-done
      (storing-more (length pixels) (places_after form (stored_for form base pixels) at) out' ready (omega arith) (omega arith) fit l (rw here) (rw here p))
      (omega arith)
      fit

  -- in width 4 the image is all
  pub whole_four : (out' : List ℕ) → form.width ≡ W.Four → at.image + length pixels * 4 ≤ length out → out' ≡ over at.image (table_of 4 pixels) out
      → out' ≡ take at.image out ++ (body_bytes form (stored_for form base pixels) ++ zeros (length out - frame_length at.image form (stored_for form base pixels)))
  whole_four out' w h e = whole-put out' (ap length e ∙ length_over at.image (table_of 4 pixels) out (rw length-table h)) (rw w (four-values pixels at out out' e))
