-- The survey of a ledger from its last line to its first.
-- Assumes nothing.
use Rattle.ledger.specs.Standing.{line_found}
use Rattle.ledger.specs.declared.Found.{Found}
use mathlib.Core.Path.{◌≡◌, refl, sym, ap, ◌∙◌}
use mathlib.Core.Bool.{Bool, true, false, ◌&&◌, ◌||◌, or-true, or_assoc}
use mathlib.Core.List.{List, [], ◌∷◌}
use Prim.Native.Nat.{ℕ, zero, suc, ◌+◌, ◌-◌, ◌*◌, ◌≤◌, ◌<◌}
use native.Mathlib.Nat.{suc-add, zero-add}
use native.Mathlib.Numerals.{add-one}
use native.Mathlib.Omega.{arith}
use lib.ListN.{length, take, drop}
use lib.Seq.{drop-drop}
use lib.Dec.{eqb, ltb}
use borrow.Author.Tests.{lt-ltb, le-ltb, ltb-false}
use Rattle.std.specs.Prelude.{if◌then◌else◌, None, Option, Some, Result, Err}
use Rattle.std.specs.Option.{option_or, ok_or}
use Rattle.lists.specs.Bytes.{big}
use Rattle.ledger.specs.declared.Line.{Line}
use Rattle.ledger.specs.declared.Sought.{Sought}
use Rattle.ledger.specs.declared.Sought.TheVariants as S
use Rattle.ledger.specs.declared.Scan.{Scan}
use Rattle.ledger.specs.declared.Summary.{Summary}
use Rattle.ledger.specs.Lines.{fields_of, line_of, bytes_at, lines_of, is_malformed, some_malformed}
use Rattle.ledger.specs.Standing.{withdraws, any_line, stands, standing, overdrawn, or_else, last_standing}
use Rattle.ledger.specs.Ledger.{capacity, ledger_malformed, is_sought, summary_for, survey_for, survey_of}
use Rattle.ledger.specs.Survey.{scan_back, found_by, found_at}
use Rattle.ledger.proofs.Packing.{line_read}
use Rattle.ledger.proofs.StandingLaws.{depth, cancelled-is, overdrawn-all, depth_small, standing-small}

-- the index of a line that was found
abbrev pub index_of : Option Found → Option ℕ
index_of (Some fd) = Some fd.index
index_of None = None

index-else : (f : Option Found) (i : ℕ) (l : Line) → option_or (index_of f) (Some i) ≡ index_of (or_else f (Some (line_found i l)))
index-else (Some fd) i l = refl
index-else None i l = refl

-- what a survey knows of the lines from this index on
abbrev pub scan_of : Sought → ℕ → List Line → Scan
scan_of q i ls = record { skip = depth ls; count = length (standing ls); last = index_of (last_standing any_line i ls); sought = index_of (last_standing (is_sought q) i ls) }

pub scan-none : (q : Sought) (i : ℕ) → scan_of q i [] ≡ record { skip = 0; count = 0; last = None; sought = None }
unfolding depth standing last_standing
scan-none q i = refl

pub scan-more : (q : Sought) (i : ℕ) (l : Line) (ls : List Line) → scan_back (scan_of q (suc i) ls) i l q ≡ scan_of q i (l ∷ ls)
unfolding scan_back depth standing last_standing
scan-more q i l ls = go (withdraws l) refl (depth ls) refl (is_sought q l) refl
  where
    found : (test : Line → Bool) → option_or (index_of (last_standing test (suc i) ls)) (Some i) ≡ index_of (or_else (last_standing test (suc i) ls) (Some (line_found i l)))
    found test = index-else (last_standing test (suc i) ls) i l

    go : (t : Bool) → withdraws l ≡ t → (d : ℕ) → depth ls ≡ d → (k : Bool) → is_sought q l ≡ k → scan_back (scan_of q (suc i) ls) i l q ≡ scan_of q i (l ∷ ls)
    go true e d f k g = rw (e, add-one)
    go false e zero f true g = rw (e, cancelled-is ls, f, g, add-one, found any_line, found (is_sought q))
    go false e zero f false g = rw (e, cancelled-is ls, f, g, add-one, found any_line)
    go false e (suc d) f k g =
        let p : suc d - 1 ≡ d = omega arith in
        rw (e, cancelled-is ls, f, lt-ltb 0 (suc d) (omega arith), p)

-- lines and bytes

pub length-lines : (n : ℕ) (t : List ℕ) → length (lines_of n t) ≡ n
unfolding lines_of
length-lines zero t = refl
length-lines (suc n) t = ap suc (length-lines n (drop 16 t))

-- the lines from one on are that line and those from the next on
next_place : (t : List ℕ) (i : ℕ) → drop 16 (drop (i * 16) t) ≡ drop (suc i * 16) t
next_place t i = let e : i * 16 + 16 ≡ suc i * 16 = omega arith in drop-drop 16 (i * 16) t ∙ ap (λ (n : ℕ). drop n t) e

module _ (t : List ℕ) (n i : ℕ) (h : i < n) where
  left : n - i ≡ suc (n - suc i)
  left = omega arith

  pub lines-from : lines_of (n - i) (drop (i * 16) t) ≡ fields_of (big (bytes_at t i)) ∷ lines_of (n - suc i) (drop (suc i * 16) t)
  unfolding lines_of
  lines-from = rw (left, next_place)

  pub malformed-from : some_malformed (n - i) (drop (i * 16) t) ≡ is_malformed (line_of (bytes_at t i)) || some_malformed (n - suc i) (drop (suc i * 16) t)
  unfolding some_malformed
  malformed-from = rw (left, next_place)

pub some-split : (a b : ℕ) (t : List ℕ) → some_malformed (a + b) t ≡ some_malformed a t || some_malformed b (drop (a * 16) t)
unfolding some_malformed
some-split zero b t = rw zero-add
some-split (suc a) b t =
    let e : suc a * 16 ≡ 16 + a * 16 = omega arith in
    rw (suc-add, some-split a b (drop 16 t), e, ← drop-drop (a * 16) 16 t) (sym (or_assoc (is_malformed (line_of (take 16 t))) (some_malformed a (drop 16 t)) _))

-- a line malformed from one on is one of the lines
pub malformed-later : (t : List ℕ) (n i : ℕ) → i ≤ n → some_malformed (n - i) (drop (i * 16) t) ≡ true → some_malformed n t ≡ true
malformed-later t n i h m =
    let e : n ≡ i + (n - i) = omega arith in
    ap (λ (k : ℕ). some_malformed k t) e ∙ some-split i (n - i) t ∙ rw m (or-true (some_malformed i t))

pub line-fields : (t : List ℕ) (l : Line) → line_of t ≡ Some l → l ≡ fields_of (big t)
unfolding line_of
line-fields t l e = go (eqb (length t) 16) refl
  where
    go : (b : Bool) → eqb (length t) 16 ≡ b → l ≡ fields_of (big t)
    go true q = (line_read (big t) l (rw q at e)).is
    go false q = let z : ◌≡◌ {A = ℕ} 0 1 = let w : None ≡ Some l = rw q at e in cc in absurd (omega arith)

pub or-none : (a b : Bool) → (a || b) ≡ false → (a ≡ false) × (b ≡ false)
or-none true b e = let z : ◌≡◌ {A = ℕ} 0 1 = cc in absurd (omega arith)
or-none false b e = (refl, e)

-- a line that was found is found again by its index

found-else : (f : Option Found) (b : Bool) (t : List ℕ) (i : ℕ) (l : Line) → found_at t (index_of f) ≡ f → found_at t (Some i) ≡ Some (line_found i l)
    → found_at t (index_of (if◌then◌else◌ b (or_else f (Some (line_found i l))) f)) ≡ if◌then◌else◌ b (or_else f (Some (line_found i l))) f
found-else f false t i l e g = e
found-else (Some fd) true t i l e g = e
found-else None true t i l e g = g

line-there : (t : List ℕ) → is_malformed (line_of t) ≡ false → line_of t ≡ Some (fields_of (big t))
line-there t h = go (line_of t) refl h
  where
    go : (a : Option Line) → line_of t ≡ a → is_malformed a ≡ false → line_of t ≡ Some (fields_of (big t))
    go (Some l) e m = e ∙ ap Some (line-fields t l e)
    go None e m = let z : ◌≡◌ {A = ℕ} 0 1 = cc in absurd (omega arith)

found_from : (test : Line → Bool) (t : List ℕ) (m i : ℕ) → some_malformed m (drop (i * 16) t) ≡ false
    → found_at t (index_of (last_standing test i (lines_of m (drop (i * 16) t)))) ≡ last_standing test i (lines_of m (drop (i * 16) t))
unfolding last_standing lines_of some_malformed found_at
found_from test t zero i h = refl
found_from test t (suc m) i h =
    let o = or-none (is_malformed (line_of (bytes_at t i))) (some_malformed m (drop 16 (drop (i * 16) t))) h in
    let later = found_from test t m (suc i) (rw (next_place t i) at o.1) in
    let l : Line = fields_of (big (bytes_at t i)) in
    let ls : List Line = lines_of m (drop (suc i * 16) t) in
    rw (next_place t i) (found-else (last_standing test (suc i) ls) (stands l ls && test l) t i l later (ap (found_by i) (line-there (bytes_at t i) o.0)))

found-again : (test : Line → Bool) (t : List ℕ) (n : ℕ) → some_malformed n t ≡ false → found_at t (index_of (last_standing test 0 (lines_of n t))) ≡ last_standing test 0 (lines_of n t)
found-again test t n h = found_from test t n 0 h

-- a survey on its way: lines from i on are passed

pub record Surveying (q : Sought) (t : List ℕ) (n i : ℕ) (s : Scan) : Type 0 where
  pub upto : i ≤ n
  pub scan : s ≡ scan_of q i (lines_of (n - i) (drop (i * 16) t))
  pub well : some_malformed (n - i) (drop (i * 16) t) ≡ false

pub surveying-start : (q : Sought) (t : List ℕ) (n : ℕ) → Surveying q t n n (record { skip = 0; count = 0; last = None; sought = None })
unfolding lines_of some_malformed
surveying-start q t n =
    let e : n - n ≡ 0 = omega arith in
    record { upto = omega arith; scan = rw e (sym (scan-none q n)); well = rw e }

module _ {q : Sought} {t : List ℕ} {n i : ℕ} {s : Scan} (f : Surveying q t n i s) where
  pub skip-small : s.skip + i ≤ n
  skip-small =
      let ls = lines_of (n - i) (drop (i * 16) t) in
      let e : s.skip ≡ depth ls = ap (λ (x : Scan). x.skip) f.scan in
      omega (arith, depth_small ls, length-lines (n - i) (drop (i * 16) t), f.upto)

  pub count_small : s.count + i ≤ n
  count_small =
      let ls = lines_of (n - i) (drop (i * 16) t) in
      let e : s.count ≡ length (standing ls) = ap (λ (x : Scan). x.count) f.scan in
      omega (arith, standing-small ls, length-lines (n - i) (drop (i * 16) t), f.upto)

  pub surveying-bad : (j : ℕ) → i ≡ suc j → line_of (bytes_at t j) ≡ None → ledger_malformed t n ≡ true
  unfolding ledger_malformed
  surveying-bad j e b =
      let m : some_malformed (n - j) (drop (j * 16) t) ≡ true = malformed-from t n j (omega (arith, f.upto)) ∙ rw b in
      rw (malformed-later t n j (omega (arith, f.upto)) m) (or-true (ltb (capacity t) n))

  pub surveying-more : (j : ℕ) (l : Line) (s' : Scan) → i ≡ suc j → line_of (bytes_at t j) ≡ Some l → s' ≡ scan_back s j l q → Surveying q t n j s'
  surveying-more j l s' e b back =
      let h : j < n = omega (arith, f.upto) in
      let k : Surveying q t n (suc j) s = rw e at f in
      let g : l ≡ fields_of (big (bytes_at t j)) = line-fields (bytes_at t j) l b in
      let later : List Line = lines_of (n - suc j) (drop (suc j * 16) t) in
      record {
        upto = omega arith;
        scan = back ∙ ap (λ (x : Scan). scan_back x j l q) k.scan ∙ ap (λ (x : Line). scan_back (scan_of q (suc j) later) j x q) g ∙ scan-more q j _ _ ∙ ap (scan_of q j) (sym (lines-from t n j h));
        well = malformed-from t n j h ∙ rw b k.well;
      }

  whole : i ≡ 0 → (s ≡ scan_of q 0 (lines_of n t)) × (some_malformed n t ≡ false)
  whole e =
      let k : Surveying q t n 0 s = rw e at f in
      let z : n - 0 ≡ n = omega arith in
      (k.scan ∙ ap (λ (m : ℕ). scan_of q 0 (lines_of m t)) z, ap (λ (m : ℕ). some_malformed m t) (sym z) ∙ k.well)

  verdict : (b : Bool) → i ≡ 0 → n ≤ capacity t → ltb 0 s.skip ≡ b → ledger_malformed t n ≡ b
  unfolding ledger_malformed
  verdict b e h over =
      let w = whole e in
      let d : s.skip ≡ depth (lines_of n t) = ap (λ (x : Scan). x.skip) w.0 in
      rw (le-ltb (capacity t) n h, w.1, overdrawn-all, ← d, over)

  pub surveying-over : i ≡ 0 → n ≤ capacity t → 0 < s.skip → ledger_malformed t n ≡ true
  surveying-over e h k = verdict true e h (lt-ltb _ _ k)

  pub surveying-done : i ≡ 0 → n ≤ capacity t → s.skip ≤ 0 → Some (record { last = found_at t s.last; sought = found_at t s.sought; count = s.count }) ≡ survey_for q t n
  unfolding survey_for summary_for
  surveying-done e h k =
      let w = whole e in
      rw (verdict false e h (le-ltb 0 s.skip k))
      (ap (λ (x : Scan). Some (record { last = found_at t x.last; sought = found_at t x.sought; count = x.count })) w.0 ∙ rw (found-again any_line t n w.1, found-again (is_sought q) t n w.1))

-- the answer of a survey that meets refusal 20
pub survey-refused : (q : Sought) (t : List ℕ) (n : ℕ) → ledger_malformed t n ≡ true → None ≡ survey_for q t n
unfolding survey_for
survey-refused q t n e = rw e

pub claimed-more : (t : List ℕ) (n : ℕ) → capacity t < n → ledger_malformed t n ≡ true
unfolding ledger_malformed
claimed-more t n h = rw (lt-ltb (capacity t) n h)

-- what a survey's answer says

survey-tests : (q : Sought) (t : List ℕ) (n : ℕ) → survey_for q t n ≡ if◌then◌else◌ (ledger_malformed t n) None (Some (summary_for q (lines_of n t)))
unfolding survey_for
survey-tests q t n = refl

pub record Sound (q : Sought) (t : List ℕ) (n : ℕ) (s : Summary) : Type 0 where
  pub well : ledger_malformed t n ≡ false
  pub is : s ≡ summary_for q (lines_of n t)

module _ (q : Sought) (t : List ℕ) (n : ℕ) where
  pub malformed-for : survey_for q t n ≡ None → ledger_malformed t n ≡ true
  malformed-for e = go (ledger_malformed t n) (sym (survey-tests q t n) ∙ e)
    where
      go : (b : Bool) → if◌then◌else◌ b None (Some (summary_for q (lines_of n t))) ≡ None → b ≡ true
      go true h = refl
      go false h = let z : ◌≡◌ {A = ℕ} 0 1 = cc in absurd (omega arith)

  pub sound-for : (s : Summary) → survey_for q t n ≡ Some s → Sound q t n s
  sound-for s e = go (ledger_malformed t n) refl (sym (survey-tests q t n) ∙ e)
    where
      go : (b : Bool) → ledger_malformed t n ≡ b → if◌then◌else◌ b None (Some (summary_for q (lines_of n t))) ≡ Some s → Sound q t n s
      go true p h = let z : ◌≡◌ {A = ℕ} 0 1 = cc in absurd (omega arith)
      go false p h = record { well = p; is = cc }

pub survey-malformed : (t : List ℕ) (n : ℕ) → survey_of t n ≡ None → ledger_malformed t n ≡ true
survey-malformed = malformed-for S.Keep

pub survey-sound : (t : List ℕ) (n : ℕ) (s : Summary) → survey_of t n ≡ Some s → Sound S.Keep t n s
survey-sound = sound-for S.Keep

-- the last line that is looked for
pub sought-is : {q : Sought} {t : List ℕ} {n : ℕ} {s : Summary} → Sound q t n s → s.sought ≡ last_standing (is_sought q) 0 (lines_of n t)
unfolding summary_for
sought-is f = ap (λ (x : Summary). x.sought) f.is

-- what it means that there is no refusal 20

pub malformed-tests : (t : List ℕ) (n : ℕ) → ledger_malformed t n ≡ ltb (capacity t) n || (some_malformed n t || overdrawn [] (lines_of n t))
unfolding ledger_malformed
malformed-tests t n = refl

pub lines-well : (t : List ℕ) (n : ℕ) → ledger_malformed t n ≡ false → some_malformed n t ≡ false
lines-well t n e = (or-none (some_malformed n t) _ (or-none (ltb (capacity t) n) _ (sym (malformed-tests t n) ∙ e)).1).0

pub lines_fit : (t : List ℕ) (n : ℕ) → ledger_malformed t n ≡ false → n ≤ capacity t
lines_fit t n e = ltb-false (capacity t) n (or-none (ltb (capacity t) n) _ (sym (malformed-tests t n) ∙ e)).0

-- the refusal that `ok_or` gives for nothing
pub refusal-is : {A E : Type 0} (o : Option A) (r e : E) → o ≡ None → ◌≡◌ {A = Result A E} (Err e) (ok_or o r) → e ≡ r
refusal-is {A} {E} o r e n q = let p : ◌≡◌ {A = Result A E} (Err e) (Err r) = rw n at q in cc
