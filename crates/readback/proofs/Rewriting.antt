-- Rewriting a header changes the data of its two lines and nothing else, and rewriting it again is rewriting it once.
-- Assumes nothing.
use mathlib.Core.Path.{◌≡◌, refl, sym, ap, ◌∙◌, subst}
use mathlib.Core.List.{List, ◌++◌, append_assoc}
use Prim.Native.Nat.{ℕ, ◌+◌, ◌-◌, ◌≤◌}
use native.Mathlib.Omega.{arith}
use lib.ListN.{length, take, drop, length-append, length-drop, take-append-drop}
use lib.Seq.{drop-drop, drop_at, take_at, take-append-le, drop-append-le, drop-append-add, length-take-le}
use Rattle.layout.specs.declared.Form.{Form}
use Rattle.expand.specs.Steps.{Stored}
use Rattle.header_lines.specs.declared.LineId.TheVariants as I
use Rattle.header_lines.specs.Lines.{line_of}
use Rattle.header_text.specs.Text.{npixelb_data, with_data}
use Rattle.writer.specs.Frame.{noverfl_data, rewritten}
use Rattle.readback.proofs.Counts.{length-noverfl, length-npixelb}

-- a header with the data of the two lines as parts of their own
abbrev whole : List ℕ → List ℕ → List ℕ → List ℕ → List ℕ → List ℕ
whole a x b y c = a ++ (x ++ (b ++ (y ++ c)))

record Sized (a x b y : List ℕ) : Type 0 where
  front : length a ≡ 1608
  first : length x ≡ 72
  middle : length b ≡ 1448
  second : length y ≡ 72

-- two headers with the same bytes but for the data of the two lines
pub record Agree (s t : List ℕ) : Type 0 where
  pub size : length s ≡ length t
  pub front : (k n : ℕ) → k + n ≤ 1608 → take n (drop k s) ≡ take n (drop k t)
  pub middle : (k n : ℕ) → 1680 ≤ k → k + n ≤ 3128 → take n (drop k s) ≡ take n (drop k t)
  pub back : (k n : ℕ) → 3200 ≤ k → take n (drop k s) ≡ take n (drop k t)

pub part_of : (a r : List ℕ) (k n : ℕ) → k + n ≤ length a → take n (drop k (a ++ r)) ≡ take n (drop k a)
part_of a r k n h = rw (drop-append-le k a r (omega arith), take-append-le n (drop k a) r (rw length-drop (omega arith)))

drop-part : (a r : List ℕ) (m k : ℕ) → length a ≡ m → m ≤ k → drop k (a ++ r) ≡ drop (k - m) r
drop-part a r m k e h = let f : k ≡ length a + (k - m) = omega arith in ap (λ (n : ℕ). drop n (a ++ r)) f ∙ drop-append-add a r (k - m)

front-part : (a x b y c : List ℕ) (k n : ℕ) → Sized a x b y → k + n ≤ 1608 → take n (drop k (whole a x b y c)) ≡ take n (drop k a)
front-part a x b y c k n z h = part_of a _ k n (omega (arith, z.front))

middle-part : (a x b y c : List ℕ) (k n : ℕ) → Sized a x b y → 1680 ≤ k → k + n ≤ 3128 → take n (drop k (whole a x b y c)) ≡ take n (drop (k - 1608 - 72) b)
middle-part a x b y c k n z l h =
    rw (drop-part a (x ++ (b ++ (y ++ c))) 1608 k z.front (omega arith), drop-part x (b ++ (y ++ c)) 72 (k - 1608) z.first (omega arith))
    (part_of b (y ++ c) (k - 1608 - 72) n (omega (arith, z.middle)))

back-part : (a x b y c : List ℕ) (k : ℕ) → Sized a x b y → 3200 ≤ k → drop k (whole a x b y c) ≡ drop (k - 1608 - 72 - 1448 - 72) c
back-part a x b y c k z l =
    drop-part a (x ++ (b ++ (y ++ c))) 1608 k z.front (omega arith)
    ∙ drop-part x (b ++ (y ++ c)) 72 (k - 1608) z.first (omega arith)
    ∙ drop-part b (y ++ c) 1448 (k - 1608 - 72) z.middle (omega arith)
    ∙ drop-part y c 72 (k - 1608 - 72 - 1448) z.second (omega arith)

whole_agree : (a x b y c v w : List ℕ) → Sized a x b y → Sized a v b w → Agree (whole a x b y c) (whole a v b w c)
whole_agree a x b y c v w z u = record {
  size = simp length-append (omega (arith, z.first, z.second, u.first, u.second));
  front = λ k n h. front-part a x b y c k n z h ∙ sym (front-part a v b w c k n u h);
  middle = λ k n l h. middle-part a x b y c k n z l h ∙ sym (middle-part a v b w c k n u l h);
  back = λ k n l. ap (take n) (back-part a x b y c k z l ∙ sym (back-part a v b w c k u l));
}

-- the parts of a header
module _ (h : List ℕ) where
  abbrev pa : List ℕ
  pa = take 1608 h

  abbrev px : List ℕ
  px = take 72 (drop 1608 h)

  abbrev pb : List ℕ
  pb = take 1448 (drop 1680 h)

  abbrev py : List ℕ
  py = take 72 (drop 3128 h)

  abbrev pc : List ℕ
  pc = drop 3200 h

  split : h ≡ whole pa px pb py pc
  split =
      sym (take-append-drop 1608 h)
      ∙ ap (λ (l : List ℕ). pa ++ l) (sym (take-append-drop 72 (drop 1608 h)))
      ∙ ap (λ (l : List ℕ). pa ++ (px ++ l)) (drop-drop 72 1608 h ∙ sym (take-append-drop 1448 (drop 1680 h)))
      ∙ ap (λ (l : List ℕ). pa ++ (px ++ (pb ++ l))) (drop-drop 1448 1680 h ∙ sym (take-append-drop 72 (drop 3128 h)))
      ∙ ap (λ (l : List ℕ). pa ++ (px ++ (pb ++ (py ++ l)))) (drop-drop 72 3128 h)

  sized : 3200 ≤ length h → Sized pa px pb py
  sized l = record {
    front = length-take-le 1608 h (omega arith);
    first = length-take-le 72 (drop 1608 h) (rw length-drop (omega arith));
    middle = length-take-le 1448 (drop 1680 h) (rw length-drop (omega arith));
    second = length-take-le 72 (drop 3128 h) (rw length-drop (omega arith));
  }

-- other data in the place of x
put-law : (a x r t : List ℕ) (at end : ℕ) → length a ≡ at → length a + length x ≡ end → take at (a ++ (x ++ r)) ++ (t ++ drop end (a ++ (x ++ r))) ≡ a ++ (t ++ r)
put-law a x r t at end p q =
    let d : drop end (a ++ (x ++ r)) ≡ r = sym (ap (drop end) (append_assoc a x r)) ∙ drop_at (a ++ x) r end (length-append a x ∙ q) in
    rw (take_at a (x ++ r) at p, d)

put-noverfl : (a x r t : List ℕ) → length a ≡ 1608 → length x ≡ 72 → with_data I.Noverfl t (a ++ (x ++ r)) ≡ a ++ (t ++ r)
unfolding with_data line_of
put-noverfl a x r t p q = put-law a x r t 1608 1680 p (omega arith)

put-npixelb : (a x r t : List ℕ) → length a ≡ 3128 → length x ≡ 72 → with_data I.Npixelb t (a ++ (x ++ r)) ≡ a ++ (t ++ r)
unfolding with_data line_of
put-npixelb a x r t p q = put-law a x r t 3128 3200 p (omega arith)

module _ (form : Form) (s : Stored) where
  rewritten-is : (h : List ℕ) → rewritten form s h ≡ with_data I.Npixelb (npixelb_data form) (with_data I.Noverfl (noverfl_data form s) h)
  unfolding rewritten
  rewritten-is h = refl

  rewritten-whole : (a x b y c : List ℕ) → Sized a x b y → rewritten form s (whole a x b y c) ≡ whole a (noverfl_data form s) b (npixelb_data form) c
  rewritten-whole a x b y c z =
      let n : List ℕ = noverfl_data form s in
      let p : List ℕ = npixelb_data form in
      let e : whole a n b y c ≡ (a ++ (n ++ b)) ++ (y ++ c) = simp append_assoc in
      let l : length (a ++ (n ++ b)) ≡ 3128 = rw (length-append, length-append) (omega (arith, length-noverfl form s, z.front, z.middle)) in
      rewritten-is (whole a x b y c)
      ∙ ap (with_data I.Npixelb p) (put-noverfl a x (b ++ (y ++ c)) n z.front z.first ∙ e)
      ∙ put-npixelb (a ++ (n ++ b)) y c p l z.second
      ∙ simp append_assoc

  new-sized : (a x b y : List ℕ) → Sized a x b y → Sized a (noverfl_data form s) b (npixelb_data form)
  new-sized a x b y z = record { front = z.front; first = length-noverfl form s; middle = z.middle; second = length-npixelb form }

  module _ (h : List ℕ) (long : 3200 ≤ length h) where
    rewritten-split : rewritten form s h ≡ whole (pa h) (noverfl_data form s) (pb h) (npixelb_data form) (pc h)
    rewritten-split = ap (rewritten form s) (split h) ∙ rewritten-whole (pa h) (px h) (pb h) (py h) (pc h) (sized h long)

    pub rewritten-agree : Agree (rewritten form s h) h
    rewritten-agree =
        subst (λ (l : List ℕ). Agree l h) (sym rewritten-split)
        (subst (λ (l : List ℕ). Agree (whole (pa h) (noverfl_data form s) (pb h) (npixelb_data form) (pc h)) l) (sym (split h))
        (whole_agree (pa h) (noverfl_data form s) (pb h) (npixelb_data form) (pc h) (px h) (py h) (new-sized (pa h) (px h) (pb h) (py h) (sized h long)) (sized h long)))

    pub noverfl-there : take 72 (drop 1608 (rewritten form s h)) ≡ noverfl_data form s
    noverfl-there =
        rw (rewritten-split, drop_at (pa h) _ 1608 (sized h long).front) (take_at (noverfl_data form s) _ 72 (length-noverfl form s))

    pub npixelb-there : take 72 (drop 3128 (rewritten form s h)) ≡ npixelb_data form
    npixelb-there =
        let n : List ℕ = noverfl_data form s in
        let p : List ℕ = npixelb_data form in
        let e : whole (pa h) n (pb h) p (pc h) ≡ (pa h ++ (n ++ pb h)) ++ (p ++ pc h) = simp append_assoc in
        let l : length (pa h ++ (n ++ pb h)) ≡ 3128 =
        rw (length-append, length-append) (omega (arith, length-noverfl form s, (sized h long).front, (sized h long).middle)) in
        ap (λ (t : List ℕ). take 72 (drop 3128 t)) (rewritten-split ∙ e)
        ∙ ap (take 72) (drop_at (pa h ++ (n ++ pb h)) (p ++ pc h) 3128 l)
        ∙ take_at p (pc h) 72 (length-npixelb form)

-- rewriting twice
pub rewritten-twice : (form : Form) (s t : Stored) (h : List ℕ) → 3200 ≤ length h → rewritten form t (rewritten form s h) ≡ rewritten form t h
rewritten-twice form s t h long =
    ap (rewritten form t) (rewritten-split form s h long)
    ∙ rewritten-whole form t (pa h) (noverfl_data form s) (pb h) (npixelb_data form) (pc h) (new-sized form s (pa h) (px h) (pb h) (py h) (sized h long))
    ∙ sym (rewritten-split form t h long)
