-- What correction, withdrawal and amending come to: a refusal that leaves every byte, or a change, with the tests that it passed and what it left.
-- Assumes nothing.
use Rattle.ledger.specs.Standing.{line_found}
use Rattle.ledger.specs.declared.Found.{Found}
use mathlib.Core.Path.{◌≡◌, refl, ◌∙◌}
use mathlib.Core.Bool.{Bool, true, false, not}
use mathlib.Core.List.{List, [], ◌∷◌}
use Prim.Native.Nat.{ℕ, ◌+◌, ◌/◌, ◌≤◌, ◌<◌}
use lib.ListN.{length, get_or}
use lib.Dec.{leb, ltb}
use borrow.Author.Tests.{ltb-false, leb-false}
use Rattle.std.specs.Prelude.{if◌then◌else◌, None, Ok, Option, Some, ℕ}
use Rattle.lists.specs.Bytes.{held_bytes}
use Rattle.refusal.specs.declared.Refusal.{Refusal}
use Rattle.refusal.specs.declared.Refusal.TheVariants as R
use Rattle.ledger.specs.declared.Kind.{Kind}
use Rattle.ledger.specs.declared.Kind.TheVariants.{Correction, Keep, Withdrawal}
use Rattle.ledger.specs.declared.Line.{Line}
use Rattle.ledger.specs.Lines.{lines_of}
use Rattle.ledger.specs.Standing.{last_standing, any_line}
use Rattle.ledger.specs.Ledger.{ledger_malformed, ledger_full, with_line}
use Rattle.writer.specs.Writer.{Made, frame, refused}
use Rattle.readback.specs.Held.{held_count, held_pixels, is_held}
use Rattle.replacement.specs.Replace.{meets, changed_frame}
use Rattle.archive.specs.Calls.{Outcome, outcome, correction_line, withdrawal_line, with_lines, refuse, held_as, correct_outcome, withdraw_outcome, amend_outcome}
use Rattle.archive.specs.Changes.{changing, keep_withdrawn}
use Rattle.archive.proofs.Changes.{correct-malformed, correct-is, withdraw-malformed, withdraw-nothing, withdraw-correction, withdraw-keep, withdraw-other, amend-malformed, amend-nothing, amend-correction, amend-keep, amend-other}

module _ (held ledger : List ℕ) (lines : ℕ) where
  -- one pixel got a count, and lines were appended
  pub record Changed (pixel count : ℕ) (added : List Line) (o : Outcome) : Type 0 where
    pub canonical : is_held held ≡ true
    pub inside : pixel < held_count held
    pub bytes : List ℕ
    pub made : changed_frame held pixel count ≡ frame bytes
    pub fits : length bytes ≤ length held
    pub is : o ≡ outcome (Ok (lines + length added)) (held_bytes (length held) bytes) (with_lines ledger lines added)

  -- refused, or accepted with what is known then
  pub data Either (o : Outcome) (P : Type 0) : Type 0 where
    left : (r : Refusal) → o ≡ refuse held ledger lines r → Either o P
    done : P → Either o P

  either : {o x : Outcome} {P Q : Type 0} → o ≡ x → (P → Q) → Either x P → Either o Q
  either is f (left r e) = left r (is ∙ e)
  either is f (done c) = done (f c)

  held-as : (pixel count : ℕ) (added : List Line) → is_held held ≡ true → pixel < held_count held → (made : Made) → changed_frame held pixel count ≡ made
      → Either (held_as held ledger lines added made) (Changed pixel count added (held_as held ledger lines added made))
  held-as pixel count added h i (refused r) e = left r refl
  held-as pixel count added h i (frame f) e = go (ltb (length held) (length f)) refl
    where
      go : (t : Bool) → ltb (length held) (length f) ≡ t
          → (let o = if◌then◌else◌ t (refuse held ledger lines R.OutputShort) (outcome (Ok (lines + length added)) (held_bytes (length held) f) (with_lines ledger lines added)) in
          Either o (Changed pixel count added o))
      go true q = left R.OutputShort refl
      go false q = done (record { canonical = h; inside = i; bytes = f; made = e; fits = ltb-false (length held) (length f) q; is = refl })

  -- 19, 24, 23, 21, and then the frame
  module _ (full : Bool) (expected : Option ℕ) (pixel count : ℕ) (added : ℕ → List Line) where
    abbrev tests : Bool → Bool → Bool → Bool → Outcome
    tests a b c d =
        if◌then◌else◌ (not a) (refuse held ledger lines R.HeldNotCanonical) (
        if◌then◌else◌ b (refuse held ledger lines R.NoSuchPixel) (
        if◌then◌else◌ (not c) (refuse held ledger lines R.PixelDiffers) (
        if◌then◌else◌ d (refuse held ledger lines R.LedgerFull) (
        held_as held ledger lines (added (get_or (held_pixels held) pixel 0)) (changed_frame held pixel count)))))

    abbrev Change : Outcome → Type 0
    Change o = (full ≡ false) × Changed pixel count (added (get_or (held_pixels held) pixel 0)) o

    tested : (a b c d : Bool) → is_held held ≡ a → leb (held_count held) pixel ≡ b → full ≡ d → Either (tests a b c d) (Change (tests a b c d))
    tested false b c d p q r = left R.HeldNotCanonical refl
    tested true true c d p q r = left R.NoSuchPixel refl
    tested true false false d p q r = left R.PixelDiffers refl
    tested true false true true p q r = left R.LedgerFull refl
    tested true false true false p q r =
        either refl (λ c. (r, c)) (held-as pixel count (added (get_or (held_pixels held) pixel 0)) p (leb-false (held_count held) pixel q) (changed_frame held pixel count) refl)

    pub changing-is : Either (changing held ledger lines full expected pixel count added) (Change (changing held ledger lines full expected pixel count added))
    unfolding changing
    changing-is = tested (is_held held) (leb (held_count held) pixel) (meets expected (get_or (held_pixels held) pixel 0)) full refl refl refl

  -- an accepted correction
  pub record Corrected (pixel count : ℕ) (o : Outcome) : Type 0 where
    pub well : ledger_malformed ledger lines ≡ false
    pub room : lines < length ledger / 16
    pub change : Changed pixel count (correction_line pixel (get_or (held_pixels held) pixel 0) count ∷ []) o

  pub correct-view : (pixel count : ℕ) → Either (correct_outcome held ledger lines pixel count) (Corrected pixel count (correct_outcome held ledger lines pixel count))
  correct-view pixel count = go (ledger_malformed ledger lines) refl
    where
      go : (b : Bool) → ledger_malformed ledger lines ≡ b → Either (correct_outcome held ledger lines pixel count) (Corrected pixel count (correct_outcome held ledger lines pixel count))
      go true q = left _ (correct-malformed held ledger lines q pixel count)
      go false q =
          let is = correct-is held ledger lines q pixel count in
          either is (λ c. record { well = q; room = leb-false (length ledger / 16) lines c.0; change = rw is c.1 })
          (changing-is (ledger_full ledger lines) None pixel count (λ (old : ℕ). correction_line pixel old count ∷ []))

  -- what is done with the last standing line where it is taken back
  pub data Back (l : Line) (o : Outcome) : Type 0 where
    corrected : l.kind ≡ Correction → Changed l.pixel l.old (withdrawal_line ∷ []) o → Back l o
    kept : l.kind ≡ Keep → o ≡ outcome (Ok (lines + 1)) held (with_line ledger lines withdrawal_line) → Back l o

  -- an accepted withdrawal
  pub record Withdrawn (o : Outcome) : Type 0 where
    pub well : ledger_malformed ledger lines ≡ false
    pub room : lines < length ledger / 16
    pub index : ℕ
    pub line : Line
    pub last : last_standing any_line 0 (lines_of lines ledger) ≡ Some (line_found index line)
    pub back : Back line o

  -- 19, 21, and then the line
  keep-tests : (a b : Bool) (x : Outcome)
      → (let o = if◌then◌else◌ (not a) (refuse held ledger lines R.HeldNotCanonical) (if◌then◌else◌ b (refuse held ledger lines R.LedgerFull) x) in Either o ((b ≡ false) × (o ≡ x)))
  keep-tests false b x = left R.HeldNotCanonical refl
  keep-tests true true x = left R.LedgerFull refl
  keep-tests true false x = done (refl, refl)

  keep-view : (let x = outcome (Ok (lines + 1)) held (with_line ledger lines withdrawal_line) in
      Either (keep_withdrawn held ledger lines) ((ledger_full ledger lines ≡ false) × (keep_withdrawn held ledger lines ≡ x)))
  unfolding keep_withdrawn
  keep-view = keep-tests (is_held held) (ledger_full ledger lines) (outcome (Ok (lines + 1)) held (with_line ledger lines withdrawal_line))

  -- by the ledger and its last standing line
  by_last : {Known : Type 0}
      → (ledger_malformed ledger lines ≡ true → Known)
      → (ledger_malformed ledger lines ≡ false → last_standing any_line 0 (lines_of lines ledger) ≡ None → Known)
      → (ledger_malformed ledger lines ≡ false → (i : ℕ) (l : Line) → last_standing any_line 0 (lines_of lines ledger) ≡ Some (line_found i l) → (k : Kind) → l.kind ≡ k → Known) → Known
  by_last {Known} bad empty some = go (ledger_malformed ledger lines) refl (last_standing any_line 0 (lines_of lines ledger)) refl
    where
      go : (b : Bool) → ledger_malformed ledger lines ≡ b → (f : Option Found) → last_standing any_line 0 (lines_of lines ledger) ≡ f → Known
      go true q f e = bad q
      go false q None e = empty q e
      go false q (Some fd) e = some q fd.index fd.line e fd.line.kind refl

  pub withdraw-view : Either (withdraw_outcome held ledger lines) (Withdrawn (withdraw_outcome held ledger lines))
  withdraw-view = by_last (λ q. left _ (withdraw-malformed held ledger lines q)) (λ q e. left _ (withdraw-nothing held ledger lines q e)) some
    where
      some : (q : ledger_malformed ledger lines ≡ false) (i : ℕ) (l : Line) → last_standing any_line 0 (lines_of lines ledger) ≡ Some (line_found i l) → (k : Kind) → l.kind ≡ k
          → Either (withdraw_outcome held ledger lines) (Withdrawn (withdraw_outcome held ledger lines))
      some q i l e Correction k =
          let is = withdraw-correction held ledger lines q i l e k in
          either is (λ c. record { well = q; room = leb-false (length ledger / 16) lines c.0; index = i; line = l; last = e; back = corrected k (rw is c.1) })
          (changing-is (ledger_full ledger lines) (Some l.new) l.pixel l.old (λ (old : ℕ). withdrawal_line ∷ []))
      some q i l e Keep k =
          let is = withdraw-keep held ledger lines q i l e k in
          either is (λ c. record { well = q; room = leb-false (length ledger / 16) lines c.0; index = i; line = l; last = e; back = kept k (is ∙ c.1) }) keep-view
      some q i l e Withdrawal k = left _ (withdraw-other held ledger lines q i l e k)

  -- an accepted amend
  pub record Amended (count : ℕ) (o : Outcome) : Type 0 where
    pub line : Line
    pub change : Changed line.pixel count (withdrawal_line ∷ correction_line line.pixel line.old count ∷ []) o

  pub amend-view : (count : ℕ) → Either (amend_outcome held ledger lines count) (Amended count (amend_outcome held ledger lines count))
  amend-view count = by_last (λ q. left _ (amend-malformed held ledger lines count q)) (λ q e. left _ (amend-nothing held ledger lines count q e)) some
    where
      some : (q : ledger_malformed ledger lines ≡ false) (i : ℕ) (l : Line) → last_standing any_line 0 (lines_of lines ledger) ≡ Some (line_found i l) → (k : Kind) → l.kind ≡ k
          → Either (amend_outcome held ledger lines count) (Amended count (amend_outcome held ledger lines count))
      some q i l e Correction k =
          let is = amend-correction held ledger lines count q i l e k in
          either is (λ c. record { line = l; change = rw is c.1 })
          (changing-is (ledger_full ledger (lines + 1)) (Some l.new) l.pixel count (λ (old : ℕ). withdrawal_line ∷ correction_line l.pixel l.old count ∷ []))
      some q i l e Keep k = left _ (amend-keep held ledger lines count q i l e k)
      some q i l e Withdrawal k = left _ (amend-other held ledger lines count q i l e k)

  -- whichever line is taken back
  pub back-answer : {l : Line} {o : Outcome} → Back l o → o.answer ≡ Ok (lines + 1)
  back-answer (corrected k c) = rw c.is
  back-answer (kept k e) = rw e

  pub back-ledger : {l : Line} {o : Outcome} → Back l o → o.ledger ≡ with_line ledger lines withdrawal_line
  back-ledger (corrected k c) = rw c.is
  back-ledger (kept k e) = rw e
