-- The theorems of the smallest form (specs/Theorems.antt).
-- Assumes nothing.
use Rattle.form_choice.specs.Choosing.{form_chosen}
use Rattle.form_choice.specs.declared.Chosen.{Chosen}
use mathlib.Core.Path.{◌≡◌, refl, sym, ap, ◌∙◌}
use mathlib.Core.Bool.{Bool, true, false}
use mathlib.Core.List.{List, [], ◌∷◌, ◌++◌}
use Prim.Native.Nat.{ℕ, ◌≤◌, ◌<◌}
use native.Mathlib.Omega.{arith}
use lib.ListN.{length, take}
use lib.Dec.{leb, ltb}
use borrow.Author.Tests.{le-ltb, ltb-true}
use Rattle.std.specs.Prelude.{if◌then◌else◌, Err, Ok, Result, Some}
use Rattle.refusal.specs.declared.Refusal.{Refusal}
use Rattle.refusal.specs.declared.Refusal.TheVariants as R
use Rattle.layout.specs.declared.Width.{Width}
use Rattle.layout.specs.declared.Width.TheVariants as W
use Rattle.layout.specs.declared.EntryWidth.TheVariants as E
use Rattle.layout.specs.declared.Underflow.{Underflow}
use Rattle.layout.specs.declared.Underflow.TheVariants as U
use Rattle.layout.specs.declared.Tables.{Tables}
use Rattle.layout.specs.declared.Tables.TheVariants as T
use Rattle.layout.specs.declared.Form.{Form}
use Rattle.layout.specs.declared.Header.{Header}
use Rattle.layout.specs.Form.{form_of}
use Rattle.layout.specs.Layout.{pixel_count}
use Rattle.refusal.specs.Codes.{refusal_number}
use Rattle.header.specs.Header.{header_of}
use Rattle.writer.specs.Writer as M
use Rattle.writer.specs.Writer.{Made, writer_frame, write_answer, answer_of, made_by, made_as}
use Rattle.form_choice.specs.Choosing.{forms, rank, shorter, choice_by}
use Rattle.smallest.specs.Smallest.{considered, made_in, smallest_form, form_in, foretold}
use Rattle.smallest.specs.Theorems as S
use Rattle.smallest.specs.Theorems.{SmallestForm, Reason, by-header, too_few, format-86, Due, low, unavailable, Foretold, RefusedExactly}
use Rattle.header.proofs.Refused.{header-low}
use Rattle.smallest.proofs.Choices.{Every, none, one, every_map, every_append, Smallest, NoShorter, NoFrame, Answered, chosen, refused, all-no-shorter, answered}

-- every form is one of the nine
pub of-every : {P : Form → Type 0} → Every P forms → (f : Form) → P f
unfolding forms
of-every {P} (one a (one b (one c (one d (one e (one g (one h (one i (one j none))))))))) f = go f.width f.underflow
  where
    go : (w : Width) (u : Underflow) → P (form_of w u)
    go W.One U.None = a
    go W.One (U.Subtracted E.One) = b
    go W.One (U.Subtracted E.Two) = c
    go W.Two U.None = d
    go W.Two (U.Subtracted E.One) = e
    go W.Two (U.Subtracted E.Two) = g
    go W.Four U.None = h
    go W.Four (U.Subtracted E.One) = i
    go W.Four (U.Subtracted E.Two) = j

-- a list in the order of preference, from a rank on
data Ordered : ℕ → List Form → Type 0 where
  end : {r : ℕ} → Ordered r []
  next : (r : ℕ) (f : Form) {fs : List Form} → r ≤ rank f → Ordered (rank f) fs → Ordered r (f ∷ fs)

forms-ordered : Ordered 0 forms
unfolding forms
forms-ordered =
    next 0 (form_of W.One U.None) (omega arith) (next (rank (form_of W.One U.None)) (form_of W.One (U.Subtracted E.One)) (omega arith) (next (rank (form_of W.One (U.Subtracted E.One))) (form_of W.One (U.Subtracted E.Two)) (omega arith) (next (rank (form_of W.One (U.Subtracted E.Two))) (form_of W.Two U.None) (omega arith) (next (rank (form_of W.Two U.None)) (form_of W.Two (U.Subtracted E.One)) (omega arith) (next (rank (form_of W.Two (U.Subtracted E.One))) (form_of W.Two (U.Subtracted E.Two)) (omega arith) (next (rank (form_of W.Two (U.Subtracted E.Two))) (form_of W.Four U.None) (omega arith) (next (rank (form_of W.Four U.None)) (form_of W.Four (U.Subtracted E.One)) (omega arith) (next (rank (form_of W.Four (U.Subtracted E.One))) (form_of W.Four (U.Subtracted E.Two)) (omega arith) end))))))))

ordered-all : {r : ℕ} {fs : List Form} (q : ℕ) → q ≤ r → Ordered r fs → Every (λ g. q ≤ rank g) fs
ordered-all q h end = none
ordered-all q h (next r f l o) = one {f = f} (omega arith) (ordered-all q (omega arith) o)

ordered-behind : {r : ℕ} (xs : List Form) (f : Form) (ys : List Form) → Ordered r (xs ++ (f ∷ ys)) → Every (λ g. rank f ≤ rank g) ys
ordered-behind [] f ys (next r g l o) = ordered-all (rank f) (omega arith) o
ordered-behind (x ∷ xs) f ys (next r g l o) = ordered-behind {r = rank g} xs f ys o

-- an equal one comes later
abbrev pub Preferred : (Form → Made) → Form → ℕ → Form → Type 0
Preferred make f n g = (b : List ℕ) → make g ≡ M.frame b → length b ≡ n → rank f ≤ rank g

pub preferred : {make : Form → Made} {f : Form} {n : ℕ} → Smallest make forms f n → Every (Preferred make f n) forms
preferred {make} {f} {n} s =
    let o : Ordered 0 (s.earlier ++ (f ∷ s.later)) = rw s.parts at forms-ordered in
    rw s.parts
    (every_append s.earlier
    (every_map (λ g p b e q. let l = p b e in absurd (omega arith)) s.longer)
    (λ b e q. omega arith)
    (every_map (λ g p b e q. p) (ordered-behind s.earlier f s.later o)))

pub smallest-answer : (given pixels : List ℕ) → Answered (made_in given pixels) forms (smallest_form given pixels)
unfolding smallest_form
smallest-answer given pixels = answered (made_in given pixels) forms

chosen_is : {make : Form → Made} {fs : List Form} {c : (Result Chosen Refusal)} {g : Form} {m : ℕ} → Answered make fs c → c ≡ Ok (form_chosen g m) → Smallest make fs g m
chosen_is {make} {fs} {c} {g} {m} (chosen {f} {n} s) e = let k : form_chosen f n ≡ form_chosen g m = cc in let p : f ≡ g = ap (λ (x : Chosen). x.form) k in let q : n ≡ m = ap (λ (x : Chosen). x.length) k in rw (← p, ← q) s
chosen_is (refused k) e = absurd (let z : ◌≡◌ {A = ℕ} 0 1 = cc in omega arith)

refused-is : {make : Form → Made} {fs : List Form} {c : (Result Chosen Refusal)} {r : Refusal} → Answered make fs c → c ≡ Err r → Every (NoFrame make) fs
refused-is (chosen s) e = absurd (let z : ◌≡◌ {A = ℕ} 0 1 = cc in omega arith)
refused-is (refused k) e = k

pub smallest-law : S.Smallest
smallest-law given pixels f n e =
    let s = chosen_is (smallest-answer given pixels) e in
    record {
      made-frame = s.frame;
      made = s.made;
      length-is = s.length-is;
      no-shorter = λ g. of-every (all-no-shorter s) g;
      first = λ g. of-every (preferred s) g;
    }

-- a refusal is that of the first form
first-refused : (c d : Result Chosen Refusal) (r : Refusal) → shorter c d ≡ Err r → c ≡ Err r
first-refused (Err s) (Err t) r e = e
first-refused (Err s) (Ok ch) r e = absurd (let z : ◌≡◌ {A = ℕ} 0 1 = cc in omega arith)
first-refused (Ok ch) (Err t) r e = absurd (let z : ◌≡◌ {A = ℕ} 0 1 = cc in omega arith)
first-refused (Ok ch) (Ok ch1) r e = go (leb ch.length ch1.length) e
  where
    go : (t : Bool) → if◌then◌else◌ t (Ok (form_chosen ch.form ch.length)) (Ok (form_chosen ch1.form ch1.length)) ≡ Err r → Ok (form_chosen ch.form ch.length) ≡ Err r
    go true q = q
    go false q = absurd (let z : ◌≡◌ {A = ℕ} 0 1 = cc in omega arith)

refused-made : (f : Form) (m : Made) (r : Refusal) → considered f m ≡ Err r → m ≡ M.refused r
refused-made f (M.frame b) r e = absurd (let z : ◌≡◌ {A = ℕ} 0 1 = cc in omega arith)
refused-made f (M.refused s) r e = let q : s ≡ r = cc in rw q

same-refused : {r s : Refusal} → M.refused r ≡ M.refused s → r ≡ s
same-refused e = cc

abbrev plainest : Form
plainest = form_of W.One U.None

reason-of : (given pixels : List ℕ) (r : Refusal) → writer_frame given (Some plainest) pixels ≡ M.refused r → Reason given pixels r
unfolding writer_frame
reason-of given pixels r e = by_answer (header_of given) refl e
  where
    by-tables : (h : Header) (t : Tables) → header_of given ≡ Ok h → h.tables ≡ t
        → made_as (take h.image.start given) t (Some plainest) (take (pixel_count h.image) pixels) ≡ M.refused r → Reason given pixels r
    by-tables h (T.Format86 n) a q d = rw (← same-refused d) (format-86 h n a q)
    by-tables h (T.Format100 t) a q d = absurd (let z : ◌≡◌ {A = ℕ} 0 1 = cc in omega arith)

    by_count : (h : Header) (t : Bool) → header_of given ≡ Ok h → ltb (length pixels) (pixel_count h.image) ≡ t
        → if◌then◌else◌ t (M.refused R.PixelArrayShort) (made_as (take h.image.start given) h.tables (Some plainest) (take (pixel_count h.image) pixels)) ≡ M.refused r → Reason given pixels r
    by_count h true a q d = rw (← same-refused d) (too_few h a (ltb-true _ _ q))
    by_count h false a q d = by-tables h h.tables a refl d

    by_answer : (x : Result Header Refusal) → header_of given ≡ x → made_by given (Some plainest) pixels x ≡ M.refused r → Reason given pixels r
    by_answer (Ok h) a d = by_count h (ltb (length pixels) (pixel_count h.image)) a refl d
    by_answer (Err s) a d = by-header (a ∙ ap Err (same-refused d))

refused-first : (given pixels : List ℕ) (r : Refusal) → smallest_form given pixels ≡ Err r → writer_frame given (Some plainest) pixels ≡ M.refused r
unfolding smallest_form choice_by forms
refused-first given pixels r e = refused-made plainest _ r (first-refused _ _ r e)

due : (given pixels : List ℕ) (r : Refusal) → Reason given pixels r → Due (refusal_number r)
due given pixels r (by-header e) = let l = header-low given r e in low {n = refusal_number r} (omega arith)
due given pixels r (too_few h e l) = low {n = 10} (omega arith)
due given pixels r (format-86 h n e q) = unavailable

pub refused-exactly : RefusedExactly
refused-exactly given pixels r e =
    let why = reason-of given pixels r (refused-first given pixels r e) in
    record {
      none = λ g. of-every (refused-is (smallest-answer given pixels) e) g;
      reason = why;
      number = due given pixels r why;
    }

abbrev chosen-with : Form → ℕ → Result Chosen Refusal
chosen-with f n = Ok (form_chosen f n)

-- The form chosen, or the first where there is none, is the writer's business from there on: what it makes in that form is the choice.
pub form-law : (given pixels : List ℕ) → considered (form_in (smallest_form given pixels)) (writer_frame given (Some (form_in (smallest_form given pixels))) pixels) ≡ smallest_form given pixels
form-law given pixels = go (smallest_form given pixels) refl
  where
    go : (c : Result Chosen Refusal) → smallest_form given pixels ≡ c → considered (form_in c) (writer_frame given (Some (form_in c)) pixels) ≡ c
    go (Ok ch) e = let s = chosen_is (smallest-answer given pixels) e in ap (considered ch.form) s.made ∙ ap (chosen-with ch.form) (sym s.length-is)
    go (Err r) e = ap (considered plainest) (refused-first given pixels r e)

answer-of : (f : Form) (room : ℕ) (m : Made) → answer_of room m ≡ foretold room (considered f m)
answer-of f room (M.frame b) = refl
answer-of f room (M.refused r) = refl

-- the length foretold is the length written, for every header, pixels and room
pub foretold-law : Foretold
unfolding write_answer
foretold-law given pixels room = answer-of (form_in (smallest_form given pixels)) room (writer_frame given (Some (form_in (smallest_form given pixels))) pixels) ∙ ap (foretold room) (form-law given pixels)
