-- Whatever the calls, each accepted or refused: the held frame's pixels say its bytes.
-- Assumes nothing.
use Rattle.ledger.specs.Standing.{line_found}
use Rattle.ledger.specs.declared.Found.{Found}
use mathlib.Core.Path.{◌≡◌, ap, refl, sym, ◌∙◌}
use mathlib.Core.Bool.{Bool, true, false, ◌&&◌}
use mathlib.Core.List.{List, [], ◌∷◌}
use Prim.Native.Nat.{ℕ, suc, ◌<◌}
use native.Mathlib.Omega.{arith}
use lib.ListN.{set}
use Rattle.std.specs.Prelude.{if◌then◌else◌, None, Option, Some}
use Rattle.ledger.specs.declared.Line.{Line}
use Rattle.ledger.specs.Lines.{lines_of}
use Rattle.ledger.specs.Standing.{stands, or_else, last_standing, any_line}
use Rattle.ledger.specs.Ledger.{ledger_malformed}
use Rattle.ledger.proofs.Scanning.{lines-well}
use Rattle.ledger.proofs.Written.{Each, Writable, lines-writable}
use Rattle.readback.specs.Held.{held_pixels, is_held}
use Rattle.archive.specs.Calls.{Outcome}
use Rattle.archive.proofs.Outcomes.{Changed, Either, left, done, Back, corrected, kept, correct-view, withdraw-view, amend-view}
use Rattle.model.specs.Model.{Call, correct, keep, withdraw, amend, compact, may_purge, run, Opening}
use Rattle.model.specs.Run.{State, step, Counted, AllCounted}
use Rattle.model.proofs.Held.{Given}
use Rattle.order.specs.Order.{held_after, PixelsDecide}
use Rattle.order.proofs.Kept.{Kept, start, kept_same, kept-pixels, kept-changed}

-- what a call leaves in a held buffer: its bytes, or the frame with one count changed
data Leaves (s : State) (b : List ℕ) : Type 0 where
  same : b ≡ s.held → Leaves s b
  changed : (p c : ℕ) (added : List Line) (out : Outcome) → c < 4294967296 → Changed s.held s.ledger s.lines p c added out → b ≡ out.held → Leaves s b

-- what is found in lines is as each of them
found-each : (P : Line → Type 0) (test : Line → Bool) (i : ℕ) (ls : List Line) → Each P ls → (j : ℕ) (l : Line) → last_standing test i ls ≡ Some (line_found j l) → P l
unfolding last_standing
found-each P test i [] h j l e = let z : ◌≡◌ {A = ℕ} 0 1 = cc in absurd (omega arith)
found-each P test i (x ∷ ls) h j l e = go (stands x ls && test x) e (found-each P test (suc i) ls h.1 j l)
  where
    or : (f : Option Found) → last_standing test (suc i) ls ≡ f → (last_standing test (suc i) ls ≡ Some (line_found j l) → P l) → or_else f (Some (line_found i x)) ≡ Some (line_found j l) → P l
    or (Some fd) q ih r = ih (q ∙ r)
    or None q ih r = let f : line_found i x ≡ line_found j l = cc in let y : x ≡ l = ap (λ (g : Found). g.line) f in rw y at h.0

    go : (b : Bool) → if◌then◌else◌ b (or_else (last_standing test (suc i) ls) (Some (line_found i x))) (last_standing test (suc i) ls) ≡ Some (line_found j l) → (last_standing test (suc i) ls ≡ Some (line_found j l) → P l) → P l
    go true r ih = or (last_standing test (suc i) ls) refl ih r
    go false r ih = ih r

-- the old count of a line that is found has 32 bits
old-small : (t : List ℕ) (n : ℕ) → ledger_malformed t n ≡ false → (i : ℕ) (l : Line) → last_standing any_line 0 (lines_of n t) ≡ Some (line_found i l) → l.old < 4294967296
old-small t n well i l e = (found-each Writable any_line 0 (lines_of n t) (lines-writable n t (lines-well t n well)) i l e).sized.old

module _ (s : State) where
  back-leaves : {out : Outcome} → (l : Line) → l.old < 4294967296 → Back s.held s.ledger s.lines l out → Leaves s out.held
  back-leaves {out} l small (corrected k c) = changed l.pixel l.old _ out small c refl
  back-leaves {out} l small (kept k e) = same (rw e)

  by-view : {out : Outcome} {P : Type 0} → (P → Leaves s out.held) → Either s.held s.ledger s.lines out P → Leaves s out.held
  by-view f (left r e) = same (rw e)
  by-view f (done p) = f p

  call-leaves : (c : Call) → Counted c → Leaves s (step c s).state.held
  unfolding step
  call-leaves (correct p c) small = by-view (λ w. changed p c _ _ small w.change refl) (correct-view s.held s.ledger s.lines p c)
  call-leaves (keep d) counted = same refl
  call-leaves withdraw counted =
      by-view (λ w. back-leaves w.line (old-small s.ledger s.lines w.well w.index w.line w.last) w.back) (withdraw-view s.held s.ledger s.lines)
  call-leaves (amend c) small = by-view (λ w. changed w.line.pixel c _ _ small w.change refl) (amend-view s.held s.ledger s.lines c)
  call-leaves compact counted = same refl
  call-leaves (may_purge day) counted = same refl

-- the frame held with some pixels
record Holding (o : Opening) (b : List ℕ) : Type 0 where
  pixels : List ℕ
  kept : Kept o pixels b

module _ (o : Opening) (g : Given o) where
  holding-left : {b : List ℕ} (s : State) → Holding o s.held → Leaves s b → Holding o b
  holding-left s h (same e) = record { pixels = h.pixels; kept = rw e h.kept }
  holding-left s h (changed p c added out small w e) = record { pixels = set h.pixels p c; kept = rw e (kept-changed o g h.kept small w) }

  holding-after : (cs : List Call) (s : State) → AllCounted cs → Holding o s.held → Holding o (held_after s cs)
  unfolding run AllCounted
  holding-after [] s counted h = h
  holding-after (c ∷ cs) s counted h = holding-after cs (step c s).state counted.1 (holding-left s h (call-leaves s c counted.0))

  holding-same : {b c : List ℕ} → Holding o b → Holding o c → held_pixels b ≡ held_pixels c → b ≡ c
  holding-same h k e = kept_same o g (sym (kept-pixels o g h.kept) ∙ e ∙ kept-pixels o g k.kept) h.kept k.kept

-- a held buffer that is not the writer's own is never changed
stays : {b : List ℕ} (s : State) → is_held s.held ≡ false → Leaves s b → b ≡ s.held
stays s n (same e) = e
stays s n (changed p c added out small w e) = let z : true ≡ false = sym w.canonical ∙ n in let y : ◌≡◌ {A = ℕ} 0 1 = cc in absurd (omega arith)

all_stay : (cs : List Call) (s : State) → AllCounted cs → is_held s.held ≡ false → held_after s cs ≡ s.held
unfolding run AllCounted
all_stay [] s counted n = refl
all_stay (c ∷ cs) s counted n =
    let e = stays s n (call-leaves s c counted.0) in
    all_stay cs (step c s).state counted.1 (rw e n) ∙ e

pub pixels-decide : PixelsDecide
pixels-decide s bytes cs ds cn dn e = go (is_held s.held) refl
  where
    go : (b : Bool) → is_held s.held ≡ b → held_after s cs ≡ held_after s ds
    go false n = all_stay cs s cn n ∙ sym (all_stay ds s dn n)
    go true i =
        let f = start s.held i bytes in
        let first : Holding f.opening s.held = record { pixels = held_pixels s.held; kept = f.kept } in
        holding-same f.opening f.given (holding-after f.opening f.given cs s cn first) (holding-after f.opening f.given ds s dn first) e
