-- From the steps of a block to the steps of the whole image.
-- Assumes nothing.
use Rattle.std.proofs.Common.{◌≡◌, ℕ, ◌+◌, ◌-◌, ◌*◌, ◌<◌, ◌≤◌, Bool, true, false, ◌&&◌, ◌||◌, eqb, ltb, leb, List, [], ◌++◌, map, length, get_or, take, drop, sym, refl, ap, ◌∙◌, append_assoc, mul-le-mul_right, add-mul, arith, length-append, length-drop, take-append-drop, length-take, length-take-le, take_all, get_or-take, drop-drop, take_at, take-add, drop_at, le-leb}
use mathlib.Core.Bool.{or-false}
use borrow.Rule.Slice.PartMut.{put_mid}
use Rattle.std.specs.Prelude.{if◌then◌else◌}
use Rattle.table.specs.Table.{entries}
use Rattle.table.proofs.Laws.{entries-bytes, entries-part}
use Rattle.expand.specs.Steps.{Stored, fill_by, replace, count, any_too_large, applies_a, applies_b, after_a, after_b, after_c, exhausted}
use Rattle.expand.specs.Blocks.{stored, rest_of, wrapped, untaken, Replaced, Lifted, Stepped, Whole}
use Rattle.expand.specs.declared.Cursors.{Cursors}
use Rattle.expand.specs.declared.Under.{Under}
use Rattle.expand.specs.declared.Taken.{Taken}
use Rattle.expand.proofs.Steps.{fill_none, replace-none, none_of, count-below, stage, count_if-append, count_if-le, large_if-append, length-fill_if, wrap_if-fits}

-- what loading gives where the bytes suffice
pub loaded : (w n : ℕ) (image px₀ px : List ℕ) → n * w ≤ length image → px ≡ if◌then◌else◌ (leb (n * w) (length image)) (entries w n image) px₀ → px ≡ entries w n image
loaded w n image px₀ px h e = rw (le-leb _ _ h) at e

-- steps a and b of a block

pub replaced-hit : (vs px₁ px₂ px₃ e2 e4 : List ℕ) (c : Cursors) (a b : ℕ) → px₁ ≡ vs
    → (a ≡ c.two + count 255 px₁) × (px₂ ≡ replace 255 px₁ (drop c.two e2))
    → (b ≡ c.four + count 65535 px₂) × (px₃ ≡ replace 65535 px₂ (drop c.four e4))
    → Replaced 1 (stored vs [] e2 e4) px₃ c (record { two = a; four = b })
replaced-hit vs px₁ px₂ px₃ e2 e4 c a b e ea eb = record { two_is = ea.0 ∙ rw e; four_is = eb.0 ∙ rw (ea.1, e); is = eb.1 ∙ rw (ea.1, e) }

-- no byte 255, and so no 65535 either
pub replaced-miss : (image px e2 e4 : List ℕ) (n : ℕ) (c : Cursors) (r : Bool) → n ≤ length image → px ≡ entries 1 n image
    → ((i : ℕ) → get_or image i 0 < 65535) → r ≡ ltb 0 (count 255 (take n image)) → r ≡ false → Replaced 1 (stored (entries 1 n image) [] e2 e4) px c c
replaced-miss image px e2 e4 n c r len e low er f =
    let v : entries 1 n image ≡ take n image = entries-bytes n image len in
    let z : count 255 (entries 1 n image) ≡ 0 = rw v (none_of 255 _ r er f) in
    let y : count 65535 (entries 1 n image) ≡ 0
    = rw v (count-below 65535 (take n image) (λ i h. rw (get_or-take n image i 0 (omega (arith, length-take-le n image len))) (low i))) in
    let s = replace-none 255 (entries 1 n image) (drop c.two e2) z in
    record { two_is = omega arith; four_is = rw s (omega arith); is = e ∙ rw s (sym (replace-none 65535 _ (drop c.four e4) y)) }

pub replaced-two : (vs px₁ px₂ e2 e4 : List ℕ) (c : Cursors) (b : ℕ) → px₁ ≡ vs
    → (b ≡ c.four + count 65535 px₁) × (px₂ ≡ replace 65535 px₁ (drop c.four e4)) → Replaced 2 (stored vs [] e2 e4) px₂ c (record { two = c.two; four = b })
replaced-two vs px₁ px₂ e2 e4 c b e eb = record { two_is = omega arith; four_is = eb.0 ∙ rw e; is = eb.1 ∙ rw e }

pub replaced-four : (vs px e2 e4 : List ℕ) (c : Cursors) → px ≡ vs → Replaced 4 (stored vs [] e2 e4) px c c
replaced-four vs px e2 e4 c e = record { two_is = omega arith; four_is = omega arith; is = e }

-- step c of a block

pub lifted-not : (base : ℕ) (xs eu : List ℕ) (u : Under) → Lifted false base xs eu xs u u
lifted-not base xs eu u = record { next-is = omega arith; over-is = sym (or-false u.over); is = refl }

pub lifted-none : (base : ℕ) (xs eu px : List ℕ) (u : Under) (over large marked : Bool) → large ≡ any_too_large base xs → over ≡ (u.over || large)
    → marked ≡ ltb 0 (count 0 xs) → marked ≡ false → px ≡ map (wrapped base) xs → Lifted true base xs eu px u (record { next = u.next; over = over })
lifted-none base xs eu px u over large marked el eo em f e =
    let k = none_of 0 xs marked em f in
    record { next-is = omega arith; over-is = eo ∙ rw el; is = e ∙ sym (fill_none 0 (wrapped base) xs (drop u.next eu) k) }

-- entries es are those of eu from the next one on, and so many of them were taken
pub lifted-hit : (base : ℕ) (xs eu es px : List ℕ) (u : Under) (over large : Bool) (taken : ℕ) → large ≡ any_too_large base xs → over ≡ (u.over || large)
    → es ≡ drop u.next eu → (taken ≡ 0 + count 0 xs) × (px ≡ fill_by 0 (wrapped base) xs es)
    → Lifted true base xs eu px u (record { next = u.next + taken; over = over })
lifted-hit base xs eu es px u over large taken el eo ee e = record {
  next-is = omega (arith, e.0);
  over-is = eo ∙ rw el;
  is = e.1 ∙ ap (fill_by 0 (wrapped base) xs) ee;
}

pub stepped-of : {w : ℕ} {step : Bool} {base : ℕ} {vs e2 e4 eu px₁ px : List ℕ} {t : Taken} {k : Cursors} {u : Under}
    → Replaced w (stored vs [] e2 e4) px₁ (record { two = t.two; four = t.four }) k
    → Lifted step base px₁ eu px (record { next = t.under; over = t.over }) u
    → Stepped w step base (stored vs eu e2 e4) px t (record { two = k.two; four = k.four; under = u.next; over = u.over })
stepped-of b l = record {
  two_is = b.two_is;
  four_is = b.four_is;
  under-is = l.next-is ∙ rw b.is;
  over-is = l.over-is ∙ rw b.is;
  is = l.is ∙ rw b.is;
}

-- the steps on the values xs, and then on ys from where xs left the tables
pub whole-more : {w : ℕ} {step : Bool} {base : ℕ} {xs ys eu e2 e4 px out : List ℕ} {t r : Taken}
    → Whole w step base (stored xs eu e2 e4) px t → Stepped w step base (stored ys eu e2 e4) out t r → Whole w step base (stored (xs ++ ys) eu e2 e4) (px ++ out) r
whole-more {w} {step} {base} {xs} {ys} {eu} {e2} {e4} {px} {out} {t} {r} f s =
    let rest = rest_of (stored ys eu e2 e4) t.two t.four t.under in
    let A : after_a w (stored (xs ++ ys) eu e2 e4) ≡ after_a w (stored xs eu e2 e4) ++ after_a w rest
    = stage (applies_a w) 255 _ xs ys e2 t.two f.two_is in
    let B : after_b w (stored (xs ++ ys) eu e2 e4) ≡ after_b w (stored xs eu e2 e4) ++ after_b w rest
    = rw A (stage (applies_b w) 65535 _ _ _ e4 t.four f.four_is) in
    record {
      two_is = s.two_is ∙ rw (count_if-append, f.two_is);
      four_is = s.four_is ∙ rw (A, count_if-append, f.four_is);
      under-is = s.under-is ∙ rw (B, count_if-append, f.under-is);
      over-is = s.over-is ∙ rw (B, large_if-append, f.over-is);
      is = rw (B, f.is, s.is) (sym (stage step 0 (wrapped base) _ _ eu t.under f.under-is));
    }

fill-nil : (t : Bool) (m : ℕ) (g : ℕ → ℕ) (es : List ℕ) → if◌then◌else◌ t (fill_by m g [] es) [] ≡ []
unfolding fill_by
fill-nil true m g es = refl
fill-nil false m g es = refl

count-nil : (t : Bool) (m : ℕ) → if◌then◌else◌ t (count m []) 0 ≡ 0
unfolding count
count-nil true m = refl
count-nil false m = refl

large-nil : (t : Bool) (b : ℕ) → if◌then◌else◌ t (any_too_large b []) false ≡ false
unfolding any_too_large
large-nil true b = refl
large-nil false b = refl

whole-start : (w : ℕ) (step : Bool) (base : ℕ) (eu e2 e4 : List ℕ) → Whole w step base (stored [] eu e2 e4) [] (record { two = 0; four = 0; under = 0; over = false })
whole-start w step base eu e2 e4 =
    let A : after_a w (stored [] eu e2 e4) ≡ [] = fill-nil (applies_a w) 255 _ e2 in
    let B : after_b w (stored [] eu e2 e4) ≡ [] = rw A (fill-nil (applies_b w) 65535 _ e4) in
    record {
      two_is = sym (count-nil (applies_a w) 255);
      four_is = rw A (sym (count-nil (applies_b w) 65535));
      under-is = rw B (sym (count-nil step 0));
      over-is = rw B (sym (large-nil step base));
      is = rw B (sym (fill-nil step 0 (wrapped base) eu));
    }

-- width 4 where step c does not apply: no step does
pub whole_plain : (base : ℕ) (s : Stored) (px : List ℕ) → px ≡ s.image → Whole 4 false base s px untaken
whole_plain base s px e = record { two_is = refl; four_is = refl; under-is = refl; over-is = refl; is = e }

-- no step takes more entries than there are values
pub record Low (n : ℕ) (px : List ℕ) (t : Taken) : Type 0 where
  pub two : t.two ≤ n
  pub four : t.four ≤ n
  pub under : t.under ≤ n
  pub long : length px ≡ n

pub whole-low : {w : ℕ} {step : Bool} {base : ℕ} {s : Stored} {px : List ℕ} {t : Taken} → Whole w step base s px t → Low (length s.image) px t
whole-low {w} {step} {base} {s} {px} {t} f =
    let la : length (after_a w s) ≡ length s.image = length-fill_if (applies_a w) 255 _ s.image s.two in
    let lb : length (after_b w s) ≡ length s.image = length-fill_if (applies_b w) 65535 _ (after_a w s) s.four ∙ la in
    record {
      two = rw f.two_is (count_if-le (applies_a w) 255 s.image);
      four = rw (f.four_is, ← la) (count_if-le (applies_b w) 65535 (after_a w s));
      under = rw (f.under-is, ← lb) (count_if-le step 0 (after_b w s));
      long = ap length f.is ∙ length-fill_if step 0 (wrapped base) (after_b w s) s.under ∙ lb;
    }

take_split : (p e : ℕ) (l : List ℕ) → p ≤ e → take e l ≡ take p l ++ take (e - p) (drop p l)
take_split p e l h = let n : p + (e - p) ≡ e = omega arith in ap (λ (q : ℕ). take q l) (sym n) ∙ take-add p (e - p) l

-- a block written after what is done
put-block : (h px ys : List ℕ) (p e : ℕ) → px ≡ h ++ drop p px → length h ≡ p → p ≤ e → put_mid p (e - p) px ys ≡ (h ++ ys) ++ drop e px
put-block h px ys p e is len k = go px is
  where
    n : p + (e - p) ≡ e
    n = omega arith

    go : (q : List ℕ) → q ≡ h ++ drop p px → put_mid p (e - p) q ys ≡ (h ++ ys) ++ drop e px
    go q i = rw (i, take_at h (drop p px) p len, drop_at h (drop p px) p len, drop-drop, n, append_assoc)

-- the values before p
abbrev pub first_of : ℕ → Stored → Stored
first_of p s = stored (take p s.image) s.under s.two s.four

-- The loop over the blocks: the first p pixels are done.
pub record Done (w : ℕ) (step : Bool) (base : ℕ) (s : Stored) (px₀ px : List ℕ) (t : Taken) (p : ℕ) : Type 0 where
  pub upto : p ≤ length s.image
  pub room : length px₀ ≡ length s.image
  pub same : length px ≡ length px₀
  pub two-low : t.two ≤ p
  pub four_low : t.four ≤ p
  pub under_low : t.under ≤ p
  pub is : Whole w step base (first_of p s) (take p px) t
  pub rest : drop p px ≡ drop p px₀

pub done-start : (w : ℕ) (step : Bool) (base : ℕ) (s : Stored) (px : List ℕ) → length px ≡ length s.image → Done w step base s px px (record { two = 0; four = 0; under = 0; over = false }) 0
done-start w step base s px h = record {
  upto = omega arith;
  room = h;
  same = refl;
  two-low = omega arith;
  four_low = omega arith;
  under_low = omega arith;
  is = whole-start w step base s.under s.two s.four;
  rest = refl;
}

pub done_more : {w : ℕ} {step : Bool} {base : ℕ} {s : Stored} {px₀ px ys : List ℕ} {t r : Taken} {p : ℕ} (e : ℕ) → Done w step base s px₀ px t p → p ≤ e → e ≤ length s.image
    → Stepped w step base (stored (take (e - p) (drop p s.image)) s.under s.two s.four) ys t r → Done w step base s px₀ (put_mid p (e - p) px ys) r e
done_more {w} {step} {base} {s} {px₀} {px} {ys} {t} {r} {p} e f h k b =
    let n : p + (e - p) ≡ e = omega arith in
    let whole : Whole w step base (first_of e s) (take p px ++ ys) r = rw (take_split p e s.image h) (whole-more f.is b) in
    let low = whole-low whole in
    let lv : length (take e s.image) ≡ e = length-take-le e s.image k in
    let put : put_mid p (e - p) px ys ≡ (take p px ++ ys) ++ drop e px
    = put-block (take p px) px ys p e (sym (take-append-drop p px)) (length-take-le p px (omega (arith, f.same, f.room, f.upto))) h in
    let long : length (take p px ++ ys) ≡ e = low.long ∙ lv in
    let left : drop e px ≡ drop e px₀
    = ap (λ (q : ℕ). drop q px) (sym n) ∙ sym (drop-drop (e - p) p px) ∙ ap (λ (l : List ℕ). drop (e - p) l) f.rest ∙ drop-drop (e - p) p px₀ ∙ ap (λ (q : ℕ). drop q px₀) n in
    record {
      upto = k;
      room = f.room;
      same = rw put (simp length-append (omega (arith, simp length-append at long, length-drop e px, f.same, f.room)));
      two-low = omega (arith, low.two);
      four_low = omega (arith, low.four);
      under_low = omega (arith, low.under);
      is = rw (put, take_at (take p px ++ ys) (drop e px) e long) whole;
      rest = rw (put, drop_at (take p px ++ ys) (drop e px) e long) left;
    }

pub done-whole : {w : ℕ} {step : Bool} {base : ℕ} {s : Stored} {px₀ px : List ℕ} {t : Taken} {p : ℕ} → Done w step base s px₀ px t p → length s.image ≤ p → Whole w step base s px t
done-whole {w} {step} {base} {s} {px₀} {px} {t} {p} f h = rw (take_all p s.image h, take_all p px (omega (arith, f.same, f.room))) at f.is

-- parts of the image's bytes and of the pixels

pub reach : (p n w : ℕ) → p ≤ n → p * w ≤ n * w
reach p n w h = mul-le-mul_right w h

pub part-fits : (p e n w l : ℕ) → p ≤ e → e ≤ n → n * w ≤ l → (e - p) * w ≤ l - p * w
part-fits p e n w l h k m =
    let s : (e - p + p) * w ≡ (e - p) * w + p * w = add-mul (e - p) p w in
    let q : e - p + p ≡ e = omega arith in
    let t : e * w ≡ (e - p) * w + p * w = rw q at s in
    omega (arith, reach e n w k)

pub part_length : (p e : ℕ) (px : List ℕ) → p ≤ e → e ≤ length px → length (take (e - p) (drop p px)) ≡ e - p
part_length p e px h k = simp (length-take, length-drop) (omega arith)

pub tail-is : (at : ℕ) (l : List ℕ) → take (length l - at) (drop at l) ≡ drop at l
tail-is at l = take_all (length l - at) (drop at l) (rw length-drop (omega arith))

-- a turn of the loop over the blocks
pub done_next : {w : ℕ} {step : Bool} {base : ℕ} (image : List ℕ) {eu e2 e4 px₀ px ys : List ℕ} {t r : Taken} {p : ℕ} (e : ℕ)
    → Done w step base (stored (entries w (length px₀) image) eu e2 e4) px₀ px t p → p ≤ e → e ≤ length px₀
    → Stepped w step base (stored (entries w (length (take (e - p) (drop p px))) (take (length image - p * w) (drop (p * w) image))) eu e2 e4) ys t r
    → Done w step base (stored (entries w (length px₀) image) eu e2 e4) px₀ (put_mid p (e - p) px ys) r e
done_next {w} {step} {base} image {eu} {e2} {e4} {px₀} {px} {ys} {t} {r} {p} e f h k b =
    let q : entries w (length (take (e - p) (drop p px))) (take (length image - p * w) (drop (p * w) image)) ≡ take (e - p) (drop p (entries w (length px₀) image))
    = rw (part_length p e px h (omega (arith, f.same)), tail-is (p * w) image, entries-part w (length px₀) p (e - p) image (omega arith)) in
    done_more e f h (omega (arith, f.room)) (rw q at b)

pub done-reach : {w : ℕ} {step : Bool} {base : ℕ} {s : Stored} {px₀ px : List ℕ} {t : Taken} {p : ℕ} → Done w step base s px₀ px t p → (p ≤ length px₀) × (length px ≡ length px₀)
done-reach f = (omega (arith, f.upto, f.room), f.same)

-- the answer after the last block

pub exhausted-is : {w : ℕ} {step : Bool} {base : ℕ} {s : Stored} {px : List ℕ} {t : Taken} → Whole w step base s px t → (two four under : ℕ) {r : Bool}
    → length s.two ≡ two → length s.four ≡ four → length s.under ≡ under → r ≡ (eqb t.two two && eqb t.four four && eqb t.under under) → exhausted w step s ≡ r
unfolding exhausted
exhausted-is f two four under l2 l4 lu e = rw (l2, l4, lu, e, f.two_is, f.four_is, f.under-is)

-- a block's sums that fit are the whole's
pub pixels-fit : {w : ℕ} {step : Bool} {base : ℕ} {s : Stored} {px : List ℕ} {t : Taken} → Whole w step base s px t → t.over ≡ false → px ≡ after_c w step base s
pixels-fit {w} {step} {base} {s} f h = f.is ∙ wrap_if-fits step base (after_b w s) s.under (sym f.over-is ∙ h)
