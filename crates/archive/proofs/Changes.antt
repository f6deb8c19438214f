-- Correction, withdrawal and amending, by what replacing a pixel answers and leaves.
-- Assumes nothing.
use Rattle.canonical.specs.declared.Place.{Place}
use Rattle.canonical.specs.declared.Unlocated.{Unlocated}
use Rattle.canonical.specs.declared.Unlocated.TheVariants.{NoPixel}
use Rattle.canonical.specs.declared.Unlocated.TheVariants.{NotCanonical}
use Rattle.ledger.specs.Standing.{line_found}
use mathlib.Core.Path.{◌≡◌, refl, sym, ap, ◌∙◌}
use mathlib.Core.Bool.{Bool, true, false, not}
use mathlib.Core.List.{List, [], ◌∷◌}
use Prim.Native.Nat.{ℕ, ◌+◌, ◌/◌, ◌^◌, ◌≤◌}
use native.Mathlib.Nat.{mul-le-mul}
use borrow.Author.Tests.{le-leb, lt-leb, leb-true, leb-false}
use native.Mathlib.Omega.{arith}
use lib.ListN.{length, get_or}
use lib.Dec.{leb, ltb}
use Rattle.std.specs.Prelude.{if◌then◌else◌, Err, None, Ok, Option, Result, Some, ℕ}
use Rattle.lists.specs.Bytes.{held_bytes}
use Rattle.refusal.specs.declared.Refusal.{Refusal}
use Rattle.refusal.specs.declared.Refusal.TheVariants as R
use Rattle.ledger.specs.declared.Kind.TheVariants.{Correction, Keep, Withdrawal}
use Rattle.ledger.specs.declared.Found.{Found}
use Rattle.ledger.specs.declared.Line.{Line}
use Rattle.ledger.specs.declared.Summary.{Summary}
use Rattle.ledger.specs.Lines.{lines_of}
use Rattle.ledger.specs.Standing.{last_standing, any_line}
use Rattle.ledger.specs.Ledger.{ledger_malformed, ledger_full, with_line, summary_for, survey_of, append_answer, append_bytes}
use Rattle.ledger.proofs.Scanning.{survey-sound}
use Rattle.ledger.proofs.Appending.{appended-answer, appended-bytes}
use Rattle.writer.specs.Writer.{Made, frame, refused, output_of}
use Rattle.readback.specs.Held.{held_count, held_pixels, is_held}
use Rattle.canonical.specs.Located.{place_in, located}
use Rattle.replacement.specs.Replace.{meets, changed_frame, replaced_as, replace_answer, replace_bytes}
use Rattle.archive.specs.Calls.{Outcome, outcome, correction_line, withdrawal_line, with_lines, refuse, held_as, correct_outcome, withdraw_outcome, amend_outcome}
use Rattle.header.proofs.Accepted.{accepted-bounds}
use Rattle.readback.proofs.HeldOpened.{opened, count_of}
use Rattle.archive.specs.Changes.{within32, held_refusal, last_line, full_refusal, replaced_outcome, changing, amending, keep_withdrawn}

module _ (held ledger : List ℕ) (lines : ℕ) where
  frame-by : (t : Bool) (f : List ℕ) (old : ℕ) (added : ℕ → List Line)
      → if◌then◌else◌ t (refuse held ledger lines R.OutputShort) (outcome (Ok (lines + length (added old))) (held_bytes (length held) f) (with_lines ledger lines (added old)))
      ≡ replaced_outcome ledger lines added (if◌then◌else◌ t held (held_bytes (length held) f)) (if◌then◌else◌ t (Err R.OutputShort) (Ok old))
  frame-by true f old added = refl
  frame-by false f old added = refl

  made_by : (m : Made) (old : ℕ) (added : ℕ → List Line) → held_as held ledger lines (added old) m ≡ replaced_outcome ledger lines added (output_of held m) (replaced_as (length held) old m)
  made_by (frame f) old added = frame-by (ltb (length held) (length f)) f old added
  made_by (refused r) old added = refl

  tests_by : (a b c : Bool) (m : Made) (old : ℕ) (added : ℕ → List Line)
      → if◌then◌else◌ (not a) (refuse held ledger lines R.HeldNotCanonical)
      (if◌then◌else◌ b (refuse held ledger lines R.NoSuchPixel) (if◌then◌else◌ (not c) (refuse held ledger lines R.PixelDiffers) (held_as held ledger lines (added old) m)))
      ≡ replaced_outcome ledger lines added (if◌then◌else◌ (not a) held (if◌then◌else◌ b held (if◌then◌else◌ (not c) held (output_of held m))))
      (if◌then◌else◌ (not a) (Err R.HeldNotCanonical) (if◌then◌else◌ b (Err R.NoSuchPixel) (if◌then◌else◌ (not c) (Err R.PixelDiffers) (replaced_as (length held) old m))))
  tests_by false b c m old added = refl
  tests_by true true c m old added = refl
  tests_by true false false m old added = refl
  tests_by true false true m old added = made_by m old added

  -- where the ledger has room
  pub changing-by : (full : Bool) → full ≡ false → (expected : Option ℕ) (pixel count : ℕ) (added : ℕ → List Line)
      → changing held ledger lines full expected pixel count added ≡ replaced_outcome ledger lines added (replace_bytes held pixel expected count) (replace_answer held pixel expected count)
  unfolding changing replace_bytes replace_answer
  changing-by full room expected pixel count added = rw room (tests_by (is_held held) (leb (held_count held) pixel) (meets expected (get_or (held_pixels held) pixel 0)) (changed_frame held pixel count) (get_or (held_pixels held) pixel 0) added)

  pub changing-refused : (full : Bool) → full ≡ false → (expected : Option ℕ) (pixel count : ℕ) (added : ℕ → List Line) (r : Refusal) → replace_answer held pixel expected count ≡ Err r
      → changing held ledger lines full expected pixel count added ≡ outcome (Err r) (replace_bytes held pixel expected count) ledger
  changing-refused full room expected pixel count added r e =
      changing-by full room expected pixel count added ∙ ap (replaced_outcome ledger lines added (replace_bytes held pixel expected count)) e

  pub changing-done : (full : Bool) → full ≡ false → (expected : Option ℕ) (pixel count : ℕ) (added : ℕ → List Line) (old : ℕ) → replace_answer held pixel expected count ≡ Ok old
      → changing held ledger lines full expected pixel count added ≡ outcome (Ok (lines + length (added old))) (replace_bytes held pixel expected count) (with_lines ledger lines (added old))
  changing-done full room expected pixel count added old e =
      changing-by full room expected pixel count added ∙ ap (replaced_outcome ledger lines added (replace_bytes held pixel expected count)) e

  full-tests : (a b c : Bool) (x : Outcome)
      → if◌then◌else◌ (not a) (refuse held ledger lines R.HeldNotCanonical)
      (if◌then◌else◌ b (refuse held ledger lines R.NoSuchPixel) (if◌then◌else◌ (not c) (refuse held ledger lines R.PixelDiffers) (refuse held ledger lines R.LedgerFull)))
      ≡ refuse held ledger lines (if◌then◌else◌ (not a) R.HeldNotCanonical (if◌then◌else◌ b R.NoSuchPixel (if◌then◌else◌ c R.LedgerFull R.PixelDiffers)))
  full-tests false b c x = refl
  full-tests true true c x = refl
  full-tests true false false x = refl
  full-tests true false true x = refl

  full-located : (expected : Option ℕ) (pixel : ℕ) (a b : Bool)
      → full_refusal expected (if◌then◌else◌ (not a) (Err NotCanonical) (if◌then◌else◌ b (Err NoPixel) (Ok (place_in held pixel))))
      ≡ if◌then◌else◌ (not a) R.HeldNotCanonical (if◌then◌else◌ b R.NoSuchPixel (if◌then◌else◌ (meets expected (get_or (held_pixels held) pixel 0)) R.LedgerFull R.PixelDiffers))
  unfolding place_in
  full-located expected pixel false b = refl
  full-located expected pixel true true = refl
  full-located expected pixel true false = refl

  -- where it has none
  pub changing-full : (full : Bool) → full ≡ true → (expected : Option ℕ) (pixel count : ℕ) (added : ℕ → List Line)
      → changing held ledger lines full expected pixel count added ≡ refuse held ledger lines (full_refusal expected (located held pixel))
  unfolding changing located
  changing-full full none expected pixel count added =
      rw none (full-tests (is_held held) (leb (held_count held) pixel) (meets expected (get_or (held_pixels held) pixel 0)) (changing held ledger lines full expected pixel count added)
      ∙ ap (refuse held ledger lines) (sym (full-located expected pixel (is_held held) (leb (held_count held) pixel))))

  -- correction
  pub correct-malformed : ledger_malformed ledger lines ≡ true → (pixel count : ℕ) → correct_outcome held ledger lines pixel count ≡ refuse held ledger lines (held_refusal held R.LedgerMalformed)
  unfolding correct_outcome held_refusal
  correct-malformed h pixel count = rw h (go (is_held held))
    where
      go : (a : Bool) → if◌then◌else◌ (not a) (refuse held ledger lines R.HeldNotCanonical) (refuse held ledger lines R.LedgerMalformed) ≡ refuse held ledger lines (if◌then◌else◌ (not a) R.HeldNotCanonical R.LedgerMalformed)
      go true = refl
      go false = refl

  pub correct-is : ledger_malformed ledger lines ≡ false → (pixel count : ℕ)
      → correct_outcome held ledger lines pixel count ≡ changing held ledger lines (ledger_full ledger lines) None pixel count (λ (old : ℕ). correction_line pixel old count ∷ [])
  unfolding correct_outcome changing
  correct-is h pixel count = rw h

  either : (a : Bool) (x y : Refusal) → if◌then◌else◌ (not a) (refuse held ledger lines x) (refuse held ledger lines y) ≡ refuse held ledger lines (if◌then◌else◌ (not a) x y)
  either true x y = refl
  either false x y = refl

  -- withdrawal
  pub withdraw-malformed : ledger_malformed ledger lines ≡ true → withdraw_outcome held ledger lines ≡ refuse held ledger lines (held_refusal held R.LedgerMalformed)
  unfolding withdraw_outcome held_refusal
  withdraw-malformed h = rw h (either (is_held held) R.HeldNotCanonical R.LedgerMalformed)

  module _ (h : ledger_malformed ledger lines ≡ false) where
    pub withdraw-nothing : last_standing any_line 0 (lines_of lines ledger) ≡ None → withdraw_outcome held ledger lines ≡ refuse held ledger lines (held_refusal held R.NothingStands)
    unfolding withdraw_outcome held_refusal
    withdraw-nothing e = rw (h, e) (either (is_held held) R.HeldNotCanonical R.NothingStands)

    module _ (index : ℕ) (l : Line) (e : last_standing any_line 0 (lines_of lines ledger) ≡ Some (line_found index l)) where
      pub withdraw-correction : l.kind ≡ Correction
          → withdraw_outcome held ledger lines ≡ changing held ledger lines (ledger_full ledger lines) (Some l.new) l.pixel l.old (λ (old : ℕ). withdrawal_line ∷ [])
      unfolding withdraw_outcome changing
      withdraw-correction k = rw (h, e, k)

      pub withdraw-keep : l.kind ≡ Keep → withdraw_outcome held ledger lines ≡ keep_withdrawn held ledger lines
      unfolding withdraw_outcome keep_withdrawn
      withdraw-keep k = rw (h, e, k)

      pub withdraw-other : l.kind ≡ Withdrawal → withdraw_outcome held ledger lines ≡ refuse held ledger lines (held_refusal held R.NothingStands)
      unfolding withdraw_outcome held_refusal
      withdraw-other k = rw (h, e, k) (either (is_held held) R.HeldNotCanonical R.NothingStands)

  -- amending
  module _ (count : ℕ) where
    pub amend-malformed : ledger_malformed ledger lines ≡ true → amend_outcome held ledger lines count ≡ refuse held ledger lines (held_refusal held R.LedgerMalformed)
    unfolding amend_outcome held_refusal
    amend-malformed h = rw h (either (is_held held) R.HeldNotCanonical R.LedgerMalformed)

    module _ (h : ledger_malformed ledger lines ≡ false) where
      pub amend-nothing : last_standing any_line 0 (lines_of lines ledger) ≡ None → amend_outcome held ledger lines count ≡ refuse held ledger lines (held_refusal held R.NothingStands)
      unfolding amend_outcome held_refusal
      amend-nothing e = rw (h, e) (either (is_held held) R.HeldNotCanonical R.NothingStands)

      module _ (index : ℕ) (l : Line) (e : last_standing any_line 0 (lines_of lines ledger) ≡ Some (line_found index l)) where
        pub amend-correction : l.kind ≡ Correction → amend_outcome held ledger lines count ≡ amending held ledger lines count l
        unfolding amend_outcome changing
        amend-correction k = rw (h, e, k)

        pub amend-keep : l.kind ≡ Keep → amend_outcome held ledger lines count ≡ refuse held ledger lines (held_refusal held R.LastIsKeep)
        unfolding amend_outcome held_refusal
        amend-keep k = rw (h, e, k) (either (is_held held) R.HeldNotCanonical R.LastIsKeep)

        pub amend-other : l.kind ≡ Withdrawal → amend_outcome held ledger lines count ≡ refuse held ledger lines (held_refusal held R.NothingStands)
        unfolding amend_outcome held_refusal
        amend-other k = rw (h, e, k) (either (is_held held) R.HeldNotCanonical R.NothingStands)

-- the parts of an outcome
pub answer-of : {a : (Result ℕ Refusal)} {h l : List ℕ} {o : Outcome} → o ≡ outcome a h l → a ≡ o.answer
answer-of e = sym (ap (λ (x : Outcome). x.answer) e)

pub held_of : {a : (Result ℕ Refusal)} {h l : List ℕ} {o : Outcome} → o ≡ outcome a h l → h ≡ o.held
held_of e = sym (ap (λ (x : Outcome). x.held) e)

pub ledger-of : {a : (Result ℕ Refusal)} {h l : List ℕ} {o : Outcome} → o ≡ outcome a h l → l ≡ o.ledger
ledger-of e = sym (ap (λ (x : Outcome). x.ledger) e)

-- room for two lines
pub first-free : (t : List ℕ) (lines : ℕ) → ledger_full t (lines + 1) ≡ false → ledger_full t lines ≡ false
first-free t lines e = let h = leb-false (length t / 16) (lines + 1) e in lt-leb (length t / 16) lines (omega arith)

pub then-full : (t : List ℕ) (lines : ℕ) → ledger_full t lines ≡ true → true ≡ ledger_full t (lines + 1)
then-full t lines e = let h = leb-true (length t / 16) lines e in sym (le-leb (length t / 16) (lines + 1) (omega arith))

-- two lines appended where there is room for both
pub two-appended : (t u v : List ℕ) (lines : ℕ) (a b x y : Line) (r : Result ℕ Refusal) → ledger_full t (lines + 1) ≡ false → length u ≡ length t
    → u ≡ append_bytes t lines x → x ≡ a → v ≡ append_bytes u (lines + 1) y → y ≡ b → r ≡ append_answer u (lines + 1)
    → (r ≡ Ok (lines + 2)) × (v ≡ with_lines t lines (a ∷ b ∷ []))
two-appended t u v lines a b x y r free size first xa second yb answer =
    let e : lines + 1 + 1 ≡ lines + 2 = omega arith in
    let one : u ≡ with_line t lines a = first ∙ appended-bytes t lines x (first-free t lines free) ∙ ap (with_line t lines) xa in
    let room : ledger_full u (lines + 1) ≡ false = rw size free in
    (answer ∙ appended-answer u (lines + 1) room ∙ ap Ok e, second ∙ appended-bytes u (lines + 1) y room ∙ rw (yb, one))

-- a keep line taken back where the frame is held
keep-tests : (held ledger : List ℕ) (lines : ℕ) (a : Bool)
    → if◌then◌else◌ a (refuse held ledger lines R.LedgerFull) (outcome (Ok (lines + 1)) held (with_line ledger lines withdrawal_line))
    ≡ outcome (if◌then◌else◌ a (Err R.LedgerFull) (Ok (lines + 1))) held (if◌then◌else◌ a ledger (with_line ledger lines withdrawal_line))
keep-tests held ledger lines true = refl
keep-tests held ledger lines false = refl

pub keep-held : (held ledger : List ℕ) (lines : ℕ) → is_held held ≡ true → keep_withdrawn held ledger lines ≡ outcome (append_answer ledger lines) held (append_bytes ledger lines withdrawal_line)
unfolding keep_withdrawn append_answer append_bytes
keep-held held ledger lines h = rw h (keep-tests held ledger lines (ledger_full ledger lines))

pub keep-not-held : (held ledger : List ℕ) (lines : ℕ) → is_held held ≡ false → keep_withdrawn held ledger lines ≡ refuse held ledger lines R.HeldNotCanonical
unfolding keep_withdrawn
keep-not-held held ledger lines h = rw h

keep-same-tests : (held ledger : List ℕ) (lines : ℕ) (a b : Bool)
    → (if◌then◌else◌ (not a) (refuse held ledger lines R.HeldNotCanonical) (if◌then◌else◌ b (refuse held ledger lines R.LedgerFull) (outcome (Ok (lines + 1)) held (with_line ledger lines withdrawal_line)))).held ≡ held
keep-same-tests held ledger lines false b = refl
keep-same-tests held ledger lines true true = refl
keep-same-tests held ledger lines true false = refl

pub keep_same : (held ledger : List ℕ) (lines : ℕ) → (keep_withdrawn held ledger lines).held ≡ held
unfolding keep_withdrawn
keep_same held ledger lines = keep-same-tests held ledger lines (is_held held) (ledger_full ledger lines)

-- what the check says of 19
located-tests : (a b : Bool) (p : Place) → (if◌then◌else◌ (not a) (Err NotCanonical) (if◌then◌else◌ b (Err NoPixel) (Ok p)) ≡ Err NotCanonical) → a ≡ false
located-tests false b p e = refl
located-tests true true p e = let z : ◌≡◌ {A = ℕ} 0 1 = cc in absurd (omega arith)
located-tests true false p e = let z : ◌≡◌ {A = ℕ} 0 1 = cc in absurd (omega arith)

pub not-located : (held : List ℕ) (pixel : ℕ) → located held pixel ≡ Err NotCanonical → is_held held ≡ false
unfolding located
not-located held pixel e = located-tests (is_held held) (leb (held_count held) pixel) (place_in held pixel) e

other-tests : (a b : Bool) (p : Place) (x : Result Place Unlocated) → (if◌then◌else◌ (not a) (Err NotCanonical) (if◌then◌else◌ b (Err NoPixel) (Ok p)) ≡ x) → (x ≡ Err NotCanonical → ⊥) → a ≡ true
other-tests true b p x e f = refl
other-tests false b p x e f = absurd (f (sym e))

pub no-pixel : (held : List ℕ) (pixel : ℕ) → located held pixel ≡ Err NoPixel → is_held held ≡ true
unfolding located
no-pixel held pixel e = other-tests (is_held held) (leb (held_count held) pixel) (place_in held pixel) (Err NoPixel) e (λ q. let z : ◌≡◌ {A = ℕ} 0 1 = cc in omega arith)

pub at_place : (held : List ℕ) (pixel : ℕ) (p : Place) → located held pixel ≡ Ok p → is_held held ≡ true
unfolding located
at_place held pixel p e = other-tests (is_held held) (leb (held_count held) pixel) (place_in held pixel) (Ok p) e (λ q. let z : ◌≡◌ {A = ℕ} 0 1 = cc in omega arith)

-- the last standing line, or the refusal that is due in its place
module _ (held ledger : List ℕ) (lines : ℕ) where
  pub record Last (l : Line) : Type 0 where
    pub well : ledger_malformed ledger lines ≡ false
    pub index : ℕ
    pub is : last_standing any_line 0 (lines_of lines ledger) ≡ Some (line_found index l)

  pub last-line : (l : Line) → last_line held ledger lines ≡ Ok l → Last l
  unfolding last_line
  last-line l e = go (ledger_malformed ledger lines) refl (last_standing any_line 0 (lines_of lines ledger)) refl
    where
      go : (b : Bool) → ledger_malformed ledger lines ≡ b → (f : Option Found) → last_standing any_line 0 (lines_of lines ledger) ≡ f → Last l
      go true q f p = let x : Err (held_refusal held R.LedgerMalformed) ≡ Ok l = rw q at e in let z : ◌≡◌ {A = ℕ} 0 1 = cc in absurd (omega arith)
      go false q None p = let x : Err (held_refusal held R.NothingStands) ≡ Ok l = rw (q, p) at e in let z : ◌≡◌ {A = ℕ} 0 1 = cc in absurd (omega arith)
      go false q (Some fd) p = let x : Ok fd.line ≡ Ok l = rw (q, p) at e in let y : fd.line ≡ l = cc in record { well = q; index = fd.index; is = rw (← y) p }

  pub refused-as : (o : Outcome) (r : Refusal) → last_line held ledger lines ≡ Err r
      → (ledger_malformed ledger lines ≡ true → o ≡ refuse held ledger lines (held_refusal held R.LedgerMalformed))
      → (ledger_malformed ledger lines ≡ false → last_standing any_line 0 (lines_of lines ledger) ≡ None → o ≡ refuse held ledger lines (held_refusal held R.NothingStands))
      → o ≡ refuse held ledger lines r
  unfolding last_line
  refused-as o r e bad none = go (ledger_malformed ledger lines) refl (last_standing any_line 0 (lines_of lines ledger)) refl
    where
      go : (b : Bool) → ledger_malformed ledger lines ≡ b → (f : Option Found) → last_standing any_line 0 (lines_of lines ledger) ≡ f → o ≡ refuse held ledger lines r
      go true q f p = let x : Err (held_refusal held R.LedgerMalformed) ≡ Err r = rw q at e in let y : held_refusal held R.LedgerMalformed ≡ r = cc in bad q ∙ ap (refuse held ledger lines) y
      go false q None p = let x : Err (held_refusal held R.NothingStands) ≡ Err r = rw (q, p) at e in let y : held_refusal held R.NothingStands ≡ r = cc in none q p ∙ ap (refuse held ledger lines) y
      go false q (Some fd) p = let x : Ok fd.line ≡ Err r = rw (q, p) at e in let z : ◌≡◌ {A = ℕ} 0 1 = cc in absurd (omega arith)

-- what a survey says of the ledger
pub surveyed : (t : List ℕ) (lines : ℕ) (y : Summary) → survey_of t lines ≡ Some y → (ledger_malformed t lines ≡ false) × (y.last ≡ last_standing any_line 0 (lines_of lines t))
unfolding summary_for
surveyed t lines y e = let s = survey-sound t lines y e in (s.well, ap (λ (x : Summary). x.last) s.is)

-- a frame has at most 4096 × 4096 pixels
pub few : (held : List ℕ) → is_held held ≡ true → held_count held ≤ 2 ^ 24
few held is =
    let o = opened held is in
    let b = accepted-bounds held o.header o.accepted in
    rw (count_of held o.header o.accepted) (mul-le-mul b.rows-high b.columns-high)

outside-tests : (a b : Bool) (p q : Bool) (x y z w v : Outcome) → (a ≡ true → p ≡ true) → (a ≡ true → q ≡ true)
    → if◌then◌else◌ (not a) x (if◌then◌else◌ b y (if◌then◌else◌ p z w)) ≡ if◌then◌else◌ (not a) x (if◌then◌else◌ b y (if◌then◌else◌ q z v))
outside-tests false b p q x y z w v f g = refl
outside-tests true b p q x y z w v f g = rw (f refl, g refl)

correct-within : (held ledger : List ℕ) (lines pixel count : ℕ) → correct_outcome held ledger lines (within32 pixel) count ≡ correct_outcome held ledger lines pixel count
unfolding within32 correct_outcome
correct-within held ledger lines pixel count = go (leb pixel 4294967295) refl
  where
    go : (t : Bool) → leb pixel 4294967295 ≡ t → correct_outcome held ledger lines (if◌then◌else◌ t pixel 4294967295) count ≡ correct_outcome held ledger lines pixel count
    go true e = refl
    go false e =
        outside-tests (is_held held) (ledger_malformed ledger lines) (leb (held_count held) 4294967295) (leb (held_count held) pixel) _ _ _ _ _
        (λ (is : is_held held ≡ true). le-leb (held_count held) 4294967295 (omega (arith, few held is)))
        (λ (is : is_held held ≡ true). le-leb (held_count held) pixel (let f = few held is in let l = leb-false pixel 4294967295 e in omega arith))

pub correct-clamped : (held ledger : List ℕ) (lines pixel count p : ℕ) → p ≡ within32 pixel → correct_outcome held ledger lines p count ≡ correct_outcome held ledger lines pixel count
correct-clamped held ledger lines pixel count p e = ap (λ (n : ℕ). correct_outcome held ledger lines n count) e ∙ correct-within held ledger lines pixel count
