-- Laws of the choice, over any list of forms and whatever is made in each of them.
-- Assumes nothing.
use Rattle.form_choice.specs.Choosing.{form_chosen}
use Rattle.form_choice.specs.declared.Chosen.{Chosen}
use mathlib.Core.Path.{◌≡◌, refl, sym, ap, ◌∙◌}
use mathlib.Core.Bool.{Bool, true, false}
use mathlib.Core.List.{List, [], ◌∷◌, ◌++◌}
use Prim.Native.Nat.{ℕ, ◌≤◌, ◌<◌}
use native.Mathlib.Omega.{arith}
use lib.ListN.{length}
use lib.Dec.{leb}
use borrow.Author.Tests.{leb-true, leb-false}
use Rattle.std.specs.Prelude.{if◌then◌else◌, Err, Ok, Result}
use Rattle.refusal.specs.declared.Refusal.{Refusal}
use Rattle.layout.specs.declared.Form.{Form}
use Rattle.writer.specs.Writer as M
use Rattle.writer.specs.Writer.{Made}
use Rattle.form_choice.specs.Choosing.{shorter, choice_by}
use Rattle.smallest.specs.Smallest.{considered, choice_of}

-- every form of a list
pub data Every (P : Form → Type 0) : List Form → Type 0 where
  none : Every P []
  one : {f : Form} {fs : List Form} → P f → Every P fs → Every P (f ∷ fs)

-- whatever frame is made in a form is longer than n, or at least as long
abbrev pub Longer : (Form → Made) → ℕ → Form → Type 0
Longer make n g = (b : List ℕ) → make g ≡ M.frame b → n < length b

abbrev pub NoShorter : (Form → Made) → ℕ → Form → Type 0
NoShorter make n g = (b : List ℕ) → make g ≡ M.frame b → n ≤ length b

-- What the choice of f with the length n says: it is accepted with that length; each form before it in the list is refused or longer, and each behind it refused or no shorter.
pub record Smallest (make : Form → Made) (fs : List Form) (f : Form) (n : ℕ) : Type 0 where
  pub frame : List ℕ
  pub made : make f ≡ M.frame frame
  pub length-is : n ≡ length frame
  pub earlier : List Form
  pub later : List Form
  pub parts : fs ≡ earlier ++ (f ∷ later)
  pub longer : Every (Longer make n) earlier
  pub no-shorter : Every (NoShorter make n) later

-- no form of the list is accepted
abbrev pub NoFrame : (Form → Made) → Form → Type 0
NoFrame make g = (b : List ℕ) → make g ≡ M.frame b → ⊥

-- what is known of an answer
pub data Answered (make : Form → Made) (fs : List Form) : Result Chosen Refusal → Type 0 where
  chosen : {f : Form} {n : ℕ} → Smallest make fs f n → Answered make fs (Ok (form_chosen f n))
  refused : {r : Refusal} → Every (NoFrame make) fs → Answered make fs (Err r)

pub every_map : {P Q : Form → Type 0} {fs : List Form} → ((g : Form) → P g → Q g) → Every P fs → Every Q fs
every_map k none = none
every_map k (one {f} p e) = one (k f p) (every_map k e)

pub every_append : {P : Form → Type 0} (xs : List Form) {g : Form} {ys : List Form} → Every P xs → P g → Every P ys → Every P (xs ++ (g ∷ ys))
every_append [] e p d = one p d
every_append (x ∷ xs) (one q e) p d = one q (every_append xs e p d)

pub same-frame : {a b : List ℕ} → M.frame a ≡ M.frame b → a ≡ b
same-frame e = cc

pub never-frame : {A : Type 0} {a : List ℕ} {r : Refusal} → M.refused r ≡ M.frame a → A
never-frame e = absurd (let z : ◌≡◌ {A = ℕ} 0 1 = cc in omega arith)

-- every form of the list is at least as long as the chosen one
pub all-no-shorter : {make : Form → Made} {fs : List Form} {f : Form} {n : ℕ} → Smallest make fs f n → Every (NoShorter make n) fs
all-no-shorter {make} {fs} {f} {n} s =
    rw s.parts
    (every_append s.earlier (every_map (λ g p b e. let q = p b e in omega arith) s.longer) (λ b e. let q = ap length (same-frame (sym s.made ∙ e)) in omega (arith, s.length-is)) s.no-shorter)

-- a form before those of a list: it is chosen where it is no longer than any of them, and passed over where it is longer or refused
ahead : {make : Form → Made} {g : Form} {fs : List Form} (a : List ℕ) → make g ≡ M.frame a → Every (NoShorter make (length a)) fs → Smallest make (g ∷ fs) g (length a)
ahead {make} {g} {fs} a e k =
    record { frame = a; made = e; length-is = refl; earlier = []; later = fs; parts = refl; longer = none; no-shorter = k }

passed : {make : Form → Made} {g : Form} {fs : List Form} {f : Form} {n : ℕ} → Longer make n g → Smallest make fs f n → Smallest make (g ∷ fs) f n
passed {make} {g} {fs} l s = record {
  frame = s.frame;
  made = s.made;
  length-is = s.length-is;
  earlier = g ∷ s.earlier;
  later = s.later;
  parts = ap (λ (l : List Form). g ∷ l) s.parts;
  longer = one l s.longer;
  no-shorter = s.no-shorter;
}

step : {make : Form → Made} {g : Form} {fs : List Form} {c : (Result Chosen Refusal)} (m : Made) → make g ≡ m → Answered make fs c → Answered make (g ∷ fs) (shorter (considered g m) c)
step {make} {g} {fs} (M.refused r) e (chosen {f} {n} s) = chosen (passed (λ b q. never-frame (sym e ∙ q)) s)
step {make} {g} {fs} (M.refused r) e (refused k) = refused (one (λ b q. never-frame (sym e ∙ q)) k)
step {make} {g} {fs} (M.frame a) e (refused k) = chosen (ahead a e (every_map (λ h p b q. absurd (p b q)) k))
step {make} {g} {fs} (M.frame a) e (chosen {f} {n} s) = go (leb (length a) n) refl
  where
    go : (t : Bool) → leb (length a) n ≡ t → Answered make (g ∷ fs) (if◌then◌else◌ t (Ok (form_chosen g (length a))) (Ok (form_chosen f n)))
    go true t = let l = leb-true (length a) n t in chosen (ahead a e (every_map (λ h p b q. let k = p b q in omega arith) (all-no-shorter s)))
    go false t = let l = leb-false (length a) n t in chosen (passed (λ b q. let k = ap length (same-frame (sym e ∙ q)) in omega arith) s)

pub answered : (make : Form → Made) (fs : List Form) → Answered make fs (choice_of make fs)
unfolding choice_by
answered make [] = refused none
answered make (f ∷ fs) = step (make f) refl (answered make fs)

-- the choice follows from what is considered of each form
pub choice-same : (c d : Form → Result Chosen Refusal) → ((f : Form) → c f ≡ d f) → (fs : List Form) → choice_by c fs ≡ choice_by d fs
unfolding choice_by
choice-same c d h [] = refl
choice-same c d h (f ∷ fs) = rw (h f, choice-same c d h fs)
