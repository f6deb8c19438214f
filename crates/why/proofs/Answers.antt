-- Request A11's statements on the two answers, for any bytes and any number of lines.
-- Assumes nothing.
use Rattle.ledger.specs.declared.Found.{Found}
use mathlib.Core.Path.{◌≡◌, refl, sym, ap, ◌∙◌}
use mathlib.Core.Bool.{Bool, true, false, not}
use mathlib.Core.List.{List, [], ◌∷◌}
use Prim.Native.Nat.{ℕ}
use native.Mathlib.Omega.{arith}
use Rattle.std.specs.Prelude.{if◌then◌else◌, Err, Ok, None, Option, Some}
use Rattle.refusal.specs.declared.Refusal.TheVariants as R
use Rattle.calendar.specs.declared.Date.{Date}
use Rattle.calendar.specs.Calendar.{is_date, before}
use Rattle.ledger.specs.declared.Line.{Line}
use Rattle.ledger.specs.Lines.{lines_of}
use Rattle.ledger.specs.Standing.{keeps, corrects, last_standing}
use Rattle.ledger.specs.Ledger.{ledger_malformed, purge_by, purge_answer}
use Rattle.why.specs.declared.Numbered.{Numbered}
use Rattle.why.specs.declared.DayAnswer.TheVariants as D
use Rattle.why.specs.Why.{numbered, day_by, day_reason, pixel_by, pixel_reason}
use Rattle.why.specs.Theorems.{day_names, pixel_names, NoneStands, DayDecided, PixelDecided, NoKeepExactly, AsOpenedExactly, purge_in, DayIsPurge}
use Rattle.why.proofs.Deciding.{named_in, none-stands, found-decides, found_nothing, listed-as}

module _ (t : List ℕ) (n : ℕ) where
  -- the answers, one test after the other

  pub day-tests : (day : Date) → day_reason t n day
      ≡ if◌then◌else◌ (ledger_malformed t n) (Err R.LedgerMalformed) (if◌then◌else◌ (not (is_date day)) (Err R.NotADate) (day_by day (last_standing keeps 0 (lines_of n t))))
  unfolding day_reason
  day-tests day = refl

  pub pixel-tests : (pixel : ℕ) → pixel_reason t n pixel ≡ if◌then◌else◌ (ledger_malformed t n) (Err R.LedgerMalformed) (pixel_by (last_standing (corrects pixel) 0 (lines_of n t)))
  unfolding pixel_reason
  pixel-tests pixel = refl

-- the line that is named is the one found

pub day-by : (day : Date) (f : Option Found) → day_names (day_by day f) ≡ named_in f
day-by day None = refl
day-by day (Some fd) = go (before fd.line.date day)
  where
    go : (b : Bool) → day_names (if◌then◌else◌ b (Ok (D.Allowed (numbered fd.index fd.line))) (Ok (D.NotYet (numbered fd.index fd.line)))) ≡ numbered fd.index fd.line ∷ []
    go true = refl
    go false = refl

pub pixel-by : (f : Option Found) → pixel_names (pixel_by f) ≡ named_in f
pixel-by None = refl
pixel-by (Some fd) = refl

-- where a line is named, the ledger is not malformed, and the day is a date

pub record Names (test : Line → Bool) (t : List ℕ) (n : ℕ) (d : Numbered) : Type 0 where
  pub well : ledger_malformed t n ≡ false
  pub found : named_in (last_standing test 0 (lines_of n t)) ≡ d ∷ []

no_name : {d : Numbered} → [] ≡ d ∷ [] → ⊥
no_name e = let z : ◌≡◌ {A = ℕ} 0 1 = cc in omega arith

pub day-named : (t : List ℕ) (n : ℕ) (day : Date) (d : Numbered) → day_names (day_reason t n day) ≡ d ∷ [] → Names keeps t n d × (is_date day ≡ true)
day-named t n day d e = go (ledger_malformed t n) refl (is_date day) refl (ap day_names (sym (day-tests t n day)) ∙ e)
  where
    go : (b : Bool) → ledger_malformed t n ≡ b → (c : Bool) → is_date day ≡ c
        → day_names (if◌then◌else◌ b (Err R.LedgerMalformed) (if◌then◌else◌ (not c) (Err R.NotADate) (day_by day (last_standing keeps 0 (lines_of n t))))) ≡ d ∷ []
        → Names keeps t n d × (is_date day ≡ true)
    go true w c q h = absurd (no_name h)
    go false w false q h = absurd (no_name h)
    go false w true q h = (record { well = w; found = sym (day-by day (last_standing keeps 0 (lines_of n t))) ∙ h }, q)

pub pixel-named : (t : List ℕ) (n pixel : ℕ) (d : Numbered) → pixel_names (pixel_reason t n pixel) ≡ d ∷ [] → Names (corrects pixel) t n d
pixel-named t n pixel d e = go (ledger_malformed t n) refl (ap pixel_names (sym (pixel-tests t n pixel)) ∙ e)
  where
    go : (b : Bool) → ledger_malformed t n ≡ b → pixel_names (if◌then◌else◌ b (Err R.LedgerMalformed) (pixel_by (last_standing (corrects pixel) 0 (lines_of n t)))) ≡ d ∷ [] → Names (corrects pixel) t n d
    go true w h = absurd (no_name h)
    go false w h = record { well = w; found = sym (pixel-by (last_standing (corrects pixel) 0 (lines_of n t))) ∙ h }

-- The statements.

pub day-decided : DayDecided
day-decided t n day d e = let r = found-decides keeps (lines_of n t) d (day-named t n day d e).0.found in (r, listed-as r)

pub pixel-decided : PixelDecided
pixel-decided t n pixel d e = let r = found-decides (corrects pixel) (lines_of n t) d (pixel-named t n pixel d e).found in (r, listed-as r)

pub no-keep-exactly : NoKeepExactly
no-keep-exactly t n day = (λ e. go (ledger_malformed t n) (not (is_date day)) (last_standing keeps 0 (lines_of n t)) refl (sym (day-tests t n day) ∙ e), λ w d none. day-tests t n day ∙ rw (w, d, found_nothing keeps (lines_of n t) none))
  where
    by : (b : Bool) (k : Numbered) → if◌then◌else◌ b (Ok (D.Allowed k)) (Ok (D.NotYet k)) ≡ Err R.NoKeepLine → ⊥
    by true k h = let z : ◌≡◌ {A = ℕ} 0 1 = cc in omega arith
    by false k h = let z : ◌≡◌ {A = ℕ} 0 1 = cc in omega arith

    go : (b c : Bool) (f : Option Found) → last_standing keeps 0 (lines_of n t) ≡ f
        → if◌then◌else◌ b (Err R.LedgerMalformed) (if◌then◌else◌ c (Err R.NotADate) (day_by day f)) ≡ Err R.NoKeepLine → NoneStands keeps (lines_of n t)
    go true c f q h = let z : ◌≡◌ {A = ℕ} 0 1 = cc in absurd (omega arith)
    go false true f q h = let z : ◌≡◌ {A = ℕ} 0 1 = cc in absurd (omega arith)
    go false false (Some fd) q h = absurd (by (before fd.line.date day) (numbered fd.index fd.line) h)
    go false false None q h = none-stands keeps 0 (lines_of n t) q

pub as-opened-exactly : AsOpenedExactly
as-opened-exactly t n pixel = (λ e. go (ledger_malformed t n) (last_standing (corrects pixel) 0 (lines_of n t)) refl (sym (pixel-tests t n pixel) ∙ e), λ w none. pixel-tests t n pixel ∙ rw (w, found_nothing (corrects pixel) (lines_of n t) none))
  where
    go : (b : Bool) (f : Option Found) → last_standing (corrects pixel) 0 (lines_of n t) ≡ f → if◌then◌else◌ b (Err R.LedgerMalformed) (pixel_by f) ≡ Ok None → NoneStands (corrects pixel) (lines_of n t)
    go true f q h = let z : ◌≡◌ {A = ℕ} 0 1 = cc in absurd (omega arith)
    go false (Some fd) q h = let z : ◌≡◌ {A = ℕ} 0 1 = cc in absurd (omega arith)
    go false None q h = none-stands (corrects pixel) 0 (lines_of n t) q

pub day-is-purge : DayIsPurge
unfolding purge_answer day_reason purge_by
day-is-purge t n day = go (ledger_malformed t n) (not (is_date day)) (last_standing keeps 0 (lines_of n t))
  where
    by : (b : Bool) (k : Numbered) → if◌then◌else◌ b (Ok tt) (Err R.NotYet) ≡ purge_in (if◌then◌else◌ b (Ok (D.Allowed k)) (Ok (D.NotYet k)))
    by true k = refl
    by false k = refl

    go : (b c : Bool) (f : Option Found) → if◌then◌else◌ b (Err R.LedgerMalformed) (if◌then◌else◌ c (Err R.NotADate) (purge_by day f))
        ≡ purge_in (if◌then◌else◌ b (Err R.LedgerMalformed) (if◌then◌else◌ c (Err R.NotADate) (day_by day f)))
    go true c f = refl
    go false true f = refl
    go false false None = refl
    go false false (Some fd) = by (before fd.line.date day) (numbered fd.index fd.line)
