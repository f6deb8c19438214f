-- Corrections and then as many withdrawals: each takes back the last line that stands, which is the last correction's.
-- Assumes nothing.
use mathlib.Core.Path.{◌≡◌, refl, sym, ap, ◌∙◌}
use mathlib.Core.Bool.{true}
use mathlib.Core.List.{List, [], ◌∷◌, ◌++◌}
use Prim.Native.Nat.{ℕ, suc, ◌+◌, ◌<◌}
use native.Mathlib.Nat.{zero-add}
use native.Mathlib.Omega.{arith}
use lib.ListN.{length, get_or, set}
use lib.Seq.{set-set, set-get_or}
use Rattle.ledger.specs.declared.Kind.TheVariants as K
use Rattle.ledger.specs.declared.Line.{Line}
use Rattle.ledger.proofs.StandingLaws.{stack, stack-more}
use Rattle.ledger.proofs.Written.{Each}
use Rattle.readback.specs.Held.{held_pixels, is_held}
use Rattle.archive.specs.Calls.{Outcome, correction_line, withdrawal_line}
use Rattle.archive.proofs.Changes.{few}
use Rattle.archive.proofs.Outcomes.{Back, corrected, kept, withdraw-view, back-answer, back-ledger}
use Rattle.model.specs.Model.{Call, correct, withdraw, accepted, Reply, run, Opening}
use Rattle.model.specs.Run.{State, step, AllCounted}
use Rattle.model.specs.Theorems.{lines_at, withdrawals, AllAccepted}
use Rattle.model.proofs.Held.{Given}
use Rattle.model.proofs.Prefix.{run-state, run-replies}
use Rattle.model.proofs.Accepted.{taken, withdrawal-writable, correction-writable, line-more, last-top}
use Rattle.order.specs.Order.{Correction, correction, corrections, Accepted, held_after, OfBytes, AllTakenBack, TakenBack}
use Rattle.order.proofs.Kept.{Kept, start, kept_same, kept-pixels, kept-changed}
use Rattle.order.proofs.Order.{corrected-by}

-- the pixels after correction lines are taken back, the first one first
abbrev undone : List ℕ → List Line → List ℕ
undone vs [] = vs
undone vs (l ∷ ls) = undone (set vs l.pixel l.old) ls

-- a correction line with an old count of 32 bits
abbrev Undoable : Line → Type 0
Undoable l = (l.kind ≡ K.Correction) × (l.old < 4294967296)

-- a state that holds a frame with the pixels vs, and whose standing lines are ls, the last one first, on those that stood at first
record Stacked (o : Opening) (base : List Line) (vs : List ℕ) (ls : List Line) (s : State) : Type 0 where
  held : Kept o vs s.held
  standing : stack [] (lines_at s) ≡ ls ++ base
  each : Each Undoable ls

module _ (o : Opening) (g : Given o) (base : List Line) where
  stacked-corrected : {vs : List ℕ} {ls : List Line} (s : State) → Stacked o base vs ls s → (p c : ℕ) → c < 4294967296 → (step (correct p c) s).reply.answer ≡ accepted
      → Stacked o base (set vs p c) (correction_line p (get_or vs p 0) c ∷ ls) (step (correct p c) s).state
  unfolding step
  stacked-corrected {vs} {ls} s k p c small a =
      let w = corrected-by s p c a in
      let x = w.change in
      let old : get_or (held_pixels s.held) p 0 ≡ get_or vs p 0 = rw (kept-pixels o g k.held) in
      let fits : get_or vs p 0 < 4294967296 = k.held.pixels.small p in
      let line = correction-writable p (get_or vs p 0) c (omega (arith, x.inside, few s.held x.canonical)) fits small in
      record {
        held = kept-changed o g k.held small x;
        standing = rw (x.is, old, line-more s.ledger s.lines w.room line, stack-more [] (lines_at s) (correction_line p (get_or vs p 0) c), k.standing);
        each = ((refl, fits), k.each);
      }

  held_back : {vs : List ℕ} {l : Line} (s : State) {out : Outcome} → Kept o vs s.held → Undoable l → Back s.held s.ledger s.lines l out → Kept o (set vs l.pixel l.old) out.held
  held_back s k u (corrected e c) = kept-changed o g k u.1 c
  held_back s k u (kept e q) = let z : K.Correction ≡ K.Keep = sym u.0 ∙ e in let y : ◌≡◌ {A = ℕ} 0 1 = cc in absurd (omega arith)

  stacked-withdrawn : {vs : List ℕ} {l : Line} {ls : List Line} (s : State) → Stacked o base vs (l ∷ ls) s → (step withdraw s).reply.answer ≡ accepted
      → Stacked o base (set vs l.pixel l.old) ls (step withdraw s).state
  unfolding step
  stacked-withdrawn {vs} {l} {ls} s k a =
      let w = taken s.held s.ledger s.lines (withdraw-view s.held s.ledger s.lines) a in
      let top = last-top (lines_at s) w.index w.line w.last in
      let both : w.line ∷ top.below ≡ l ∷ (ls ++ base) = sym top.is ∙ k.standing in
      let same : w.line ≡ l = cc in
      record {
        held = held_back s k.held k.each.0 (rw same at w.back);
        standing =
            rw (back-answer s.held s.ledger s.lines w.back, back-ledger s.held s.ledger s.lines w.back)
            (rw (line-more s.ledger s.lines w.room withdrawal-writable, stack-more [] (lines_at s) withdrawal_line, k.standing));
        each = k.each.1;
      }

  -- corrections: what taking them back would leave stays
  record After (vs : List ℕ) (count : ℕ) (s : State) : Type 0 where
    pixels : List ℕ
    lines : List Line
    stacked : Stacked o base pixels lines s
    undo : undone pixels lines ≡ vs
    size : length lines ≡ count

  after-corrections : {vs : List ℕ} {count : ℕ} (xs : List Correction) (s : State) → AllCounted (corrections xs) → Accepted s (corrections xs) → After vs count s
      → After vs (length xs + count) (run step (corrections xs) s).state
  unfolding run AllCounted
  after-corrections {vs} {count} [] s counted a k = rw (zero-add count) k
  after-corrections {vs} {count} (x ∷ xs) s counted a k =
      let p : ℕ = x.pixel in
      let c : ℕ = x.count in
      let e : length xs + suc count ≡ suc (length xs) + count = omega arith in
      let next : After vs (suc count) (step (correct p c) s).state = record {
        pixels = set k.pixels p c;
        lines = correction_line p (get_or k.pixels p 0) c ∷ k.lines;
        stacked = stacked-corrected s k.stacked p c counted.0 a.0;
        undo = rw (set-set k.pixels p c (get_or k.pixels p 0), set-get_or k.pixels p 0) k.undo;
        size = ap suc k.size;
      } in
      rw (← e) (after-corrections xs (step (correct p c) s).state counted.1 a.1 next)

  -- withdrawals: one line after the other
  after-withdrawals : {vs : List ℕ} (ws : List ℕ) (ls : List Line) (s : State) → Stacked o base ws ls s → undone ws ls ≡ vs → Accepted s (withdrawals (length ls))
      → Kept o vs (held_after s (withdrawals (length ls)))
  unfolding run
  after-withdrawals ws [] s k e a = rw e at k.held
  after-withdrawals ws (l ∷ ls) s k e a = after-withdrawals (set ws l.pixel l.old) ls (step withdraw s).state (stacked-withdrawn s k a.0) e a.1

all_split : (qs rs : List Reply) → AllAccepted (qs ++ rs) → AllAccepted qs × AllAccepted rs
all_split [] rs a = (tt, a)
all_split (q ∷ qs) rs a = let k = all_split qs rs a.1 in ((a.0, k.0), k.1)

-- corrections of a held buffer that is the writer's own, and as many withdrawals
back-held : (s : State) → OfBytes s → is_held s.held ≡ true → (xs : List Correction) → AllCounted (corrections xs)
    → Accepted s (corrections xs ++ withdrawals (length xs)) → held_after s (corrections xs ++ withdrawals (length xs)) ≡ s.held
back-held s bytes i xs counted a =
    let f = start s.held i bytes in
    let o : Opening = f.opening in
    let g = f.given in
    let base : List Line = stack [] (lines_at s) in
    let ws : List Call = withdrawals (length xs) in
    let u : State = (run step (corrections xs) s).state in
    let both = all_split (run step (corrections xs) s).replies (run step ws u).replies (rw (run-replies step (corrections xs) ws s) at a) in
    let now : After o g base (held_pixels s.held) 0 s =
    record { pixels = held_pixels s.held; lines = []; stacked = record { held = f.kept; standing = refl; each = tt }; undo = refl; size = refl } in
    let k = after-corrections o g base xs s counted both.0 now in
    let n : length k.lines ≡ length xs = omega (arith, k.size) in
    let back : (m : ℕ) → length k.lines ≡ m → Accepted u (withdrawals m) → held_after u (withdrawals m) ≡ s.held =
    λ m e. rw (← e) (λ b. kept_same o g refl (after-withdrawals o g base k.pixels k.lines u k.stacked k.undo b) f.kept) in
    ap (λ (x : State). x.held) (run-state step (corrections xs) ws s) ∙ back (length xs) n both.1

pub all-taken-back : AllTakenBack
unfolding run
all-taken-back s bytes [] counted a = refl
all-taken-back s bytes (x ∷ xs) counted a = back-held s bytes (corrected-by s x.pixel x.count a.0).change.canonical (x ∷ xs) counted a

pub taken_back : TakenBack
unfolding AllCounted
taken_back s bytes p c small a = all-taken-back s bytes (correction p c ∷ []) (small, tt) a
