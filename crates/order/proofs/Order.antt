-- Document 02, A7, proved.
-- Assumes nothing.
use mathlib.Core.Path.{◌≡◌, refl, sym, ◌∙◌}
use mathlib.Core.Bool.{Bool, true, false}
use mathlib.Core.List.{List, [], ◌∷◌}
use Prim.Native.Nat.{ℕ, ◌<◌}
use native.Mathlib.Omega.{arith}
use lib.ListN.{get_or, set}
use lib.Dec.{eqb}
use borrow.Author.Tests.{eqb-true}
use Rattle.std.specs.Prelude.{if◌then◌else◌}
use Rattle.readback.specs.Held.{held_count, held_pixels, is_held}
use Rattle.archive.specs.Calls.{Outcome, correct_outcome}
use Rattle.archive.proofs.Outcomes.{Corrected, correct-view}
use Rattle.model.specs.Model.{correct, accepted, run, Opening}
use Rattle.model.specs.Run.{State, step, AllCounted}
use Rattle.model.proofs.Held.{Given}
use Rattle.model.proofs.Accepted.{taken}
use Rattle.order.specs.Order.{Correction, correction, corrections, Accepted, held_after, OfBytes, last_count, SameCounts, LastCountsHeld, LastCountsDecide, EitherOrder, SecondDecides}
use Rattle.order.proofs.Kept.{Kept, start, kept_same, kept-pixels, kept-changed}
use Rattle.order.proofs.Counts.{made, made_at, made-same}

abbrev pub outcome_of : State → ℕ → ℕ → Outcome
outcome_of s p c = correct_outcome s.held s.ledger s.lines p c

-- an accepted correction
pub corrected-by : (s : State) (p c : ℕ) → (step (correct p c) s).reply.answer ≡ accepted → Corrected s.held s.ledger s.lines p c (outcome_of s p c)
unfolding step
corrected-by s p c a = taken s.held s.ledger s.lines (correct-view s.held s.ledger s.lines p c) a

module _ (o : Opening) (g : Given o) where
  kept-corrected : {vs : List ℕ} (s : State) → Kept o vs s.held → (p c : ℕ) → c < 4294967296 → (step (correct p c) s).reply.answer ≡ accepted
      → Kept o (set vs p c) (step (correct p c) s).state.held
  unfolding step
  kept-corrected s k p c small a = kept-changed o g k small (corrected-by s p c a).change

  kept-made : {vs : List ℕ} (s : State) → Kept o vs s.held → (xs : List Correction) → AllCounted (corrections xs) → Accepted s (corrections xs)
      → Kept o (made vs xs) (held_after s (corrections xs))
  unfolding run AllCounted
  kept-made s k [] counted a = k
  kept-made s k (x ∷ xs) counted a =
      kept-made (step (correct x.pixel x.count) s).state (kept-corrected s k x.pixel x.count counted.0 a.0) xs counted.1 a.1

canonical : (s : State) (x : Correction) (xs : List Correction) → Accepted s (corrections (x ∷ xs)) → is_held s.held ≡ true
unfolding run
canonical s x xs a = (corrected-by s x.pixel x.count a.0).change.canonical

-- from a held buffer that is the writer's own
held-last : (s : State) → OfBytes s → is_held s.held ≡ true → (xs : List Correction) → AllCounted (corrections xs) → Accepted s (corrections xs)
    → (pixel : ℕ) → pixel < held_count s.held → get_or (held_pixels (held_after s (corrections xs))) pixel 0 ≡ last_count pixel (get_or (held_pixels s.held) pixel 0) xs
held-last s bytes i xs counted a pixel inside =
    let f = start s.held i bytes in
    let k = kept-made f.opening f.given s f.kept xs counted a in
    rw (kept-pixels f.opening f.given k) (made_at (held_pixels s.held) pixel (omega (arith, f.count)) xs)

pub last-counts-held : LastCountsHeld
unfolding run
last-counts-held s bytes [] counted a pixel inside = refl
last-counts-held s bytes (x ∷ xs) counted a pixel inside = held-last s bytes (canonical s x xs a) (x ∷ xs) counted a pixel inside

held_same : (s : State) → OfBytes s → is_held s.held ≡ true → (xs ys : List Correction) → AllCounted (corrections xs) → AllCounted (corrections ys)
    → Accepted s (corrections xs) → Accepted s (corrections ys) → SameCounts s xs ys → held_after s (corrections xs) ≡ held_after s (corrections ys)
held_same s bytes i xs ys cx cy ax ay same =
    let f = start s.held i bytes in
    kept_same f.opening f.given (made-same (held_pixels s.held) xs ys same)
    (kept-made f.opening f.given s f.kept xs cx ax) (kept-made f.opening f.given s f.kept ys cy ay)

pub last-counts-decide : LastCountsDecide
last-counts-decide s bytes [] [] cx cy ax ay same = refl
last-counts-decide s bytes [] (y ∷ ys) cx cy ax ay same = held_same s bytes (canonical s y ys ay) [] (y ∷ ys) cx cy ax ay same
last-counts-decide s bytes (x ∷ xs) ys cx cy ax ay same = held_same s bytes (canonical s x xs ax) (x ∷ xs) ys cx cy ax ay same

-- two pixels
pub either_order : EitherOrder
unfolding AllCounted
either_order s bytes p q c d apart sc sd a b =
    last-counts-decide s bytes (correction p c ∷ correction q d ∷ []) (correction q d ∷ correction p c ∷ []) (sc, (sd, tt)) (sd, (sc, tt)) a b
    (λ pixel. at (get_or (held_pixels s.held) pixel 0) (eqb p pixel) (eqb q pixel) (λ e f. apart (eqb-true p pixel e ∙ sym (eqb-true q pixel f))))
  where
    at : (before : ℕ) (e f : Bool) → (e ≡ true → f ≡ true → ⊥) → if◌then◌else◌ f d (if◌then◌else◌ e c before) ≡ if◌then◌else◌ e c (if◌then◌else◌ f d before)
    at before true true h = absurd (h refl refl)
    at before true false h = refl
    at before false f h = refl

-- one pixel twice
pub second-decides : SecondDecides
unfolding AllCounted
second-decides s bytes p c d sc sd a b =
    last-counts-decide s bytes (correction p c ∷ correction p d ∷ []) (correction p d ∷ []) (sc, (sd, tt)) (sd, tt) a b
    (λ pixel. at (get_or (held_pixels s.held) pixel 0) (eqb p pixel))
  where
    at : (before : ℕ) (e : Bool) → if◌then◌else◌ e d (if◌then◌else◌ e c before) ≡ if◌then◌else◌ e d before
    at before true = refl
    at before false = refl
