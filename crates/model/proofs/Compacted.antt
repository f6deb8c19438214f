-- Request A8: what follows a compaction goes as if there had been none, for purge questions and for runs that have room without it, on every held buffer and
-- every ledger, whether or not they come from an opening.
-- Assumes nothing.
use Rattle.ledger.specs.Standing.{line_found}
use Rattle.ledger.specs.declared.Found.{Found}
use mathlib.Core.Path.{◌≡◌, refl, sym, ap, ◌∙◌}
use mathlib.Core.Bool.{Bool, true, false, not}
use mathlib.Core.List.{List, [], ◌∷◌}
use Prim.Native.Nat.{ℕ, suc, ◌+◌, ◌*◌, ◌/◌, ◌≤◌, ◌<◌}
use native.Mathlib.Omega.{arith}
use lib.ListN.{length, get_or, drop}
use lib.Dec.{eqb, leb, ltb}
use borrow.Author.Tests.{leb-false, lt-leb}
use Rattle.std.specs.Prelude.{if◌then◌else◌, Err, Ok, None, Option, Some}
use Rattle.lists.specs.Bytes.{held_bytes}
use Rattle.refusal.specs.declared.Refusal.{Refusal}
use Rattle.refusal.specs.declared.Refusal.TheVariants as R
use Rattle.calendar.specs.declared.Date.{Date}
use Rattle.calendar.specs.Calendar.{is_date}
use Rattle.ledger.specs.declared.Kind.{Kind}
use Rattle.ledger.specs.declared.Kind.TheVariants.{Correction, Keep, Withdrawal}
use Rattle.ledger.specs.declared.Line.{Line}
use Rattle.ledger.specs.Lines.{lines_of}
use Rattle.ledger.specs.Standing.{keeps, standing, last_standing, any_line}
use Rattle.ledger.specs.Ledger.{ledger_malformed, with_line, keep_line, purge_by, purge_answer}
use Rattle.ledger.proofs.Appending.{length-appended, found_lines}
use Rattle.writer.specs.Writer.{Made, frame, refused}
use Rattle.readback.specs.Held.{held_count, held_pixels, is_held}
use Rattle.archive.specs.Calls.{correction_line, withdrawal_line, with_lines, held_as, changed, line_back, last_back, line_amended, last_amended}
use Rattle.compaction.specs.Compact.{compacted, compact_answer, compact_bytes}
use Rattle.compaction.proofs.Alike.{Alike, alike-last, alike-more, alike-compacted, alike-first, alike-itself, compact-answer, compact-bytes, compacted-twice}
use Rattle.model.specs.Model as M
use Rattle.model.specs.Model.{Call, correct, keep, withdraw, amend, compact, may_purge, Step, run}
use Rattle.model.specs.Run.{State, state_of, purged, after, after_outcome, step}
use Rattle.model.specs.Theorems.{answers_of, NeverFull, CompactionUnobservable, PurgeUnobservable, CompactedTwice}
use Rattle.model.proofs.Agree.{keep-answer, keep-bytes, after-keep, purge-answer, correct-outcome, withdraw-outcome, amend-outcome}

-- two states with the same held buffer, and ledgers with the same stack
pub record Equivalent (s r : State) : Type 0 where
  pub held : r.held ≡ s.held
  pub alike : Alike s.ledger s.lines r.ledger r.lines

-- two calls made: the same answer, and equivalent states after them
pub record SameStep (q r : Step State) : Type 0 where
  pub answer : r.reply.answer ≡ q.reply.answer
  pub states : Equivalent q.state r.state

-- a pair where the first is not refused with 21
abbrev Follows : Step State → Step State → Type 0
Follows q r = (q.reply.answer ≡ M.refused R.LedgerFull → ⊥) → SameStep q r

-- one test after the other
follows-in : {A B : Type 0} (g : A → Step State) (h : B → Step State) (x₁ x₂ : A) (y₁ y₂ : B) (b c : Bool) → c ≡ b
    → Follows (g x₁) (h y₁) → (b ≡ false → Follows (g x₂) (h y₂)) → Follows (g (if◌then◌else◌ b x₁ x₂)) (h (if◌then◌else◌ c y₁ y₂))
follows-in g h x₁ x₂ y₁ y₂ true c e p k n = rw e (p n)
follows-in g h x₁ x₂ y₁ y₂ false c e p k n = rw e (k refl n)

-- 21: not due without compaction, so not with it
follows-full : {A B : Type 0} (g : A → Step State) (h : B → Step State) (x₁ x₂ : A) (y₁ y₂ : B) (b c : Bool) → (g x₁).reply.answer ≡ M.refused R.LedgerFull → (b ≡ false → c ≡ false)
    → (b ≡ false → Follows (g x₂) (h y₂)) → Follows (g (if◌then◌else◌ b x₁ x₂)) (h (if◌then◌else◌ c y₁ y₂))
follows-full g h x₁ x₂ y₁ y₂ true c e f k n = absurd (n e)
follows-full g h x₁ x₂ y₁ y₂ false c e f k n = rw (f refl) (k refl n)

follows-at : {q r q₁ r₁ : Step State} → q ≡ q₁ → r ≡ r₁ → Follows q₁ r₁ → Follows q r
follows-at e f k = rw (e, f) k

-- what does not ask for the index of a line that was found says the same where the line is the same
pub same-found : {A : Type 0} (by : Option Found → A) (line : Line → A) → ((i : ℕ) (l : Line) → by (Some (line_found i l)) ≡ line l) → (f g : Option Found) → found_lines g ≡ found_lines f → by g ≡ by f
same-found by line k None None e = refl
same-found by line k (Some fd) (Some fd1) e = let q : fd1.line ≡ fd.line = cc in k fd1.index fd1.line ∙ ap line q ∙ sym (k fd.index fd.line)
same-found by line k None (Some fd) e = let z : ◌≡◌ {A = ℕ} 0 1 = cc in absurd (omega arith)
same-found by line k (Some fd) None e = let z : ◌≡◌ {A = ℕ} 0 1 = cc in absurd (omega arith)

purge-by-lines : (d : Date) (f g : Option Found) → found_lines g ≡ found_lines f → purge_by d g ≡ purge_by d f
unfolding purge_by
purge-by-lines d = same-found (purge_by d) (λ l. purge_by d (Some (line_found 0 l))) (λ i l. refl)

-- the purge question is the same, of any two such ledgers
pub same-purge : {t u : List ℕ} {n k : ℕ} → Alike t n u k → (d : Date) → purge_answer u k d ≡ purge_answer t n d
same-purge {t} {u} {n} {k} a d =
    rw (purge-answer u k d, purge-answer t n d, a.malformed, purge-by-lines d (last_standing keeps 0 (lines_of n t)) (last_standing keeps 0 (lines_of k u)) (alike-last a keeps))

-- the same lines appended to both
alike-lines : (ls : List Line) {t u : List ℕ} {n k : ℕ} → Alike t n u k → n + length ls ≤ length t / 16 → Alike (with_lines t n ls) (n + length ls) (with_lines u k ls) (k + length ls)
alike-lines [] {t} {u} {n} {k} a free =
    let i : n + 0 ≡ n = omega arith in
    let j : k + 0 ≡ k = omega arith in
    rw (i, j) a
alike-lines (l ∷ ls) {t} {u} {n} {k} a free =
    let size : length (with_line t n l) ≡ length t = length-appended t n l (omega arith) in
    let i : n + 1 + length ls ≡ n + suc (length ls) = omega arith in
    let j : k + 1 + length ls ≡ k + suc (length ls) = omega arith in
    rw (← i, ← j) (alike-lines ls (alike-more a (omega arith) l) (rw size (omega arith)))

module _ (h t u : List ℕ) (n k : ℕ) (a : Alike t n u k) where
  refuses : (r : Refusal) → Follows (after n (Err r) h t) (after k (Err r) h u)
  refuses r x = record { answer = refl; states = record { held = refl; alike = a } }

  -- fewer lines have room where more have
  full : (x y : ℕ) → y ≤ x → leb (length t / 16) x ≡ false → leb (length u / 16) y ≡ false
  full x y fewer e =
      let f : x < length t / 16 = leb-false (length t / 16) x e in
      rw a.size (lt-leb (length t / 16) y (omega arith))

  full_at : (i : ℕ) → leb (length t / 16) (n + i) ≡ false → leb (length u / 16) (k + i) ≡ false
  full_at i = full (n + i) (k + i) (omega (arith, a.fewer))

  full-now : leb (length t / 16) n ≡ false → leb (length u / 16) k ≡ false
  full-now = full n k a.fewer

  room : (x : ℕ) → leb (length t / 16) x ≡ false → x + 1 ≤ length t / 16
  room x e = let f : x < length t / 16 = leb-false (length t / 16) x e in omega arith

  appends : (ls : List Line) (f : List ℕ) → n + length ls ≤ length t / 16 → Follows (after n (Ok (n + length ls)) f (with_lines t n ls)) (after k (Ok (k + length ls)) f (with_lines u k ls))
  appends ls f free x = record { answer = refl; states = record { held = refl; alike = alike-lines ls a free } }

  -- the held buffer becomes a frame, and lines are appended
  held-as : (ls : List Line) (made : Made) → n + length ls ≤ length t / 16 → Follows (after_outcome n (held_as h t n ls made)) (after_outcome k (held_as h u k ls made))
  held-as ls (refused r) free = refuses r
  held-as ls (frame f) free =
      follows-in (after_outcome n) (after_outcome k) _ _ _ _ (ltb (length h) (length f)) (ltb (length h) (length f)) refl (refuses R.OutputShort) (λ fits. appends ls (held_bytes (length h) f) free)

  -- a correction or a keep line is taken back
  back : (l : Line) (kind : Kind) → Follows (after_outcome n (line_back h t n kind l)) (after_outcome k (line_back h u k kind l))
  back l Correction =
      follows-in (after_outcome n) (after_outcome k) _ _ _ _ (leb (held_count h) l.pixel) (leb (held_count h) l.pixel) refl (refuses R.NoSuchPixel) (λ there.
      follows-in (after_outcome n) (after_outcome k) _ _ _ _ (not (eqb (get_or (held_pixels h) l.pixel 0) l.new)) (not (eqb (get_or (held_pixels h) l.pixel 0) l.new)) refl (refuses R.PixelDiffers) (λ same.
      follows-full (after_outcome n) (after_outcome k) _ _ _ _ (leb (length t / 16) n) (leb (length u / 16) k) refl full-now (λ free.
      held-as (withdrawal_line ∷ []) (changed h t n l.pixel l.old) (room n free))))
  back l Keep =
      follows-full (after_outcome n) (after_outcome k) _ _ _ _ (leb (length t / 16) n) (leb (length u / 16) k) refl full-now (λ free. appends (withdrawal_line ∷ []) h (room n free))
  back l Withdrawal = refuses R.NothingStands

  last-back : (f g : Option Found) → found_lines g ≡ found_lines f → Follows (after_outcome n (last_back h t n f)) (after_outcome k (last_back h u k g))
  last-back None None e = refuses R.NothingStands
  last-back (Some fd) (Some fd1) e = let q : fd1.line ≡ fd.line = cc in rw q (back fd.line fd.line.kind)
  last-back None (Some fd) e = let z : ◌≡◌ {A = ℕ} 0 1 = cc in absurd (omega arith)
  last-back (Some fd) None e = let z : ◌≡◌ {A = ℕ} 0 1 = cc in absurd (omega arith)

  withdraw-follows : Follows (step withdraw (state_of h t n)) (step withdraw (state_of h u k))
  unfolding step
  withdraw-follows =
      rw (withdraw-outcome h t n, withdraw-outcome h u k)
      (follows-in (after_outcome n) (after_outcome k) _ _ _ _ (not (is_held h)) (not (is_held h)) refl (refuses R.HeldNotCanonical) (λ held.
      follows-in (after_outcome n) (after_outcome k) _ _ _ _ (ledger_malformed t n) (ledger_malformed u k) a.malformed (refuses R.LedgerMalformed) (λ well.
      last-back (last_standing any_line 0 (lines_of n t)) (last_standing any_line 0 (lines_of k u)) (alike-last a any_line))))

  correct-follows : (p c : ℕ) → Follows (step (correct p c) (state_of h t n)) (step (correct p c) (state_of h u k))
  unfolding step
  correct-follows p c =
      rw (correct-outcome h t n p c, correct-outcome h u k p c)
      (follows-in (after_outcome n) (after_outcome k) _ _ _ _ (not (is_held h)) (not (is_held h)) refl (refuses R.HeldNotCanonical) (λ held.
      follows-in (after_outcome n) (after_outcome k) _ _ _ _ (ledger_malformed t n) (ledger_malformed u k) a.malformed (refuses R.LedgerMalformed) (λ well.
      follows-in (after_outcome n) (after_outcome k) _ _ _ _ (leb (held_count h) p) (leb (held_count h) p) refl (refuses R.NoSuchPixel) (λ there.
      follows-full (after_outcome n) (after_outcome k) _ _ _ _ (leb (length t / 16) n) (leb (length u / 16) k) refl full-now (λ free.
      held-as (correction_line p (get_or (held_pixels h) p 0) c ∷ []) (changed h t n p c) (room n free))))))

  keep-follows : (d : Date) → Follows (step (keep d) (state_of h t n)) (step (keep d) (state_of h u k))
  unfolding step
  keep-follows d = rw (keep-answer t n d, keep-bytes t n d, keep-answer u k d, keep-bytes u k d, a.malformed) (go (ledger_malformed t n) refl)
    where
      go : (b : Bool) → ledger_malformed t n ≡ b
          → Follows
          (after n (if◌then◌else◌ b (Err R.LedgerMalformed) (if◌then◌else◌ (not (is_date d)) (Err R.NotADate) (if◌then◌else◌ (leb (length t / 16) n) (Err R.LedgerFull) (Ok (n + 1)))))
          h (if◌then◌else◌ b t (if◌then◌else◌ (not (is_date d)) t (if◌then◌else◌ (leb (length t / 16) n) t (with_line t n (keep_line d))))))
          (after k (if◌then◌else◌ b (Err R.LedgerMalformed) (if◌then◌else◌ (not (is_date d)) (Err R.NotADate) (if◌then◌else◌ (leb (length u / 16) k) (Err R.LedgerFull) (Ok (k + 1)))))
          h (if◌then◌else◌ b u (if◌then◌else◌ (not (is_date d)) u (if◌then◌else◌ (leb (length u / 16) k) u (with_line u k (keep_line d))))))
      go true e = refuses R.LedgerMalformed
      go false e =
          follows-at (after-keep (not (is_date d)) (leb (length t / 16) n) n h t (with_line t n (keep_line d))) (after-keep (not (is_date d)) (leb (length u / 16) k) k h u (with_line u k (keep_line d)))
          (follows-in (λ (q : Step State). q) (λ (q : Step State). q) _ _ _ _ (not (is_date d)) (not (is_date d)) refl (refuses R.NotADate) (λ day.
          follows-full (λ (q : Step State). q) (λ (q : Step State). q) _ _ _ _ (leb (length t / 16) n) (leb (length u / 16) k) refl full-now (λ free.
          appends (keep_line d ∷ []) h (room n free))))

  purge-follows : (d : Date) → Follows (step (may_purge d) (state_of h t n)) (step (may_purge d) (state_of h u k))
  unfolding step
  purge-follows d x = record { answer = ap purged (same-purge a d); states = record { held = refl; alike = a } }

  line-amended : (c : ℕ) (l : Line) (kind : Kind) → Follows (after_outcome n (line_amended h t n c kind l)) (after_outcome k (line_amended h u k c kind l))
  line-amended c l Correction =
      follows-in (after_outcome n) (after_outcome k) _ _ _ _ (leb (held_count h) l.pixel) (leb (held_count h) l.pixel) refl (refuses R.NoSuchPixel) (λ there.
      follows-in (after_outcome n) (after_outcome k) _ _ _ _ (not (eqb (get_or (held_pixels h) l.pixel 0) l.new)) (not (eqb (get_or (held_pixels h) l.pixel 0) l.new)) refl (refuses R.PixelDiffers) (λ same.
      follows-full (after_outcome n) (after_outcome k) _ _ _ _ (leb (length t / 16) (n + 1)) (leb (length u / 16) (k + 1)) refl (full_at 1) (λ free.
      held-as (withdrawal_line ∷ correction_line l.pixel l.old c ∷ []) (changed h t n l.pixel c) (let two : n + 1 + 1 ≤ length t / 16 = room (n + 1) free in omega arith))))
  line-amended c l Keep = refuses R.LastIsKeep
  line-amended c l Withdrawal = refuses R.NothingStands

  last-amended : (c : ℕ) (f g : Option Found) → found_lines g ≡ found_lines f → Follows (after_outcome n (last_amended h t n c f)) (after_outcome k (last_amended h u k c g))
  last-amended c None None e = refuses R.NothingStands
  last-amended c (Some fd) (Some fd1) e = let q : fd1.line ≡ fd.line = cc in rw q (line-amended c fd.line fd.line.kind)
  last-amended c None (Some fd) e = let z : ◌≡◌ {A = ℕ} 0 1 = cc in absurd (omega arith)
  last-amended c (Some fd) None e = let z : ◌≡◌ {A = ℕ} 0 1 = cc in absurd (omega arith)

  amend-follows : (c : ℕ) → Follows (step (amend c) (state_of h t n)) (step (amend c) (state_of h u k))
  unfolding step
  amend-follows c =
      rw (amend-outcome h t n c, amend-outcome h u k c)
      (follows-in (after_outcome n) (after_outcome k) _ _ _ _ (not (is_held h)) (not (is_held h)) refl (refuses R.HeldNotCanonical) (λ held.
      follows-in (after_outcome n) (after_outcome k) _ _ _ _ (ledger_malformed t n) (ledger_malformed u k) a.malformed (refuses R.LedgerMalformed) (λ well.
      last-amended c (last_standing any_line 0 (lines_of n t)) (last_standing any_line 0 (lines_of k u)) (alike-last a any_line))))

  compact-follows : Follows (step compact (state_of h t n)) (step compact (state_of h u k))
  unfolding step
  compact-follows = rw (compact-answer t n, compact-bytes t n, compact-answer u k, compact-bytes u k, a.malformed) (go (ledger_malformed t n) refl)
    where
      go : (b : Bool) → ledger_malformed t n ≡ b
          → Follows
          (after n (if◌then◌else◌ b (Err R.LedgerMalformed) (Ok (length (standing (lines_of n t))))) h (if◌then◌else◌ b t (compacted (lines_of n t) (drop (n * 16) t))))
          (after k (if◌then◌else◌ b (Err R.LedgerMalformed) (Ok (length (standing (lines_of k u))))) h (if◌then◌else◌ b u (compacted (lines_of k u) (drop (k * 16) u))))
      go true e = refuses R.LedgerMalformed
      go false e = λ x. record { answer = refl; states = record { held = refl; alike = alike-compacted a e } }

  pub step_follows : (c : Call) → Follows (step c (state_of h t n)) (step c (state_of h u k))
  step_follows (correct p c) = correct-follows p c
  step_follows (keep d) = keep-follows d
  step_follows withdraw = withdraw-follows
  step_follows (amend c) = amend-follows c
  step_follows compact = compact-follows
  step_follows (may_purge d) = purge-follows d

-- every run that meets no 21 from the first: the same answers from the second, and equivalent states again
runs-follow : (cs : List Call) (s r : State) → Equivalent s r → NeverFull (run step cs s).replies
    → (answers_of (run step cs r).replies ≡ answers_of (run step cs s).replies) × Equivalent (run step cs s).state (run step cs r).state
unfolding run
runs-follow [] s r t n = (refl, t)
runs-follow (c ∷ cs) s r t n = go (state_of s.held r.ledger r.lines) (λ k. record { held = t.held k; ledger = r.ledger; lines = r.lines }) (step_follows s.held s.ledger r.ledger s.lines r.lines t.alike c n.0)
    (runs-follow cs)
  where
    go : (r₁ : State) → r ≡ r₁ → SameStep (step c s) (step c r₁)
        → ((s r : State) → Equivalent s r → NeverFull (run step cs s).replies → (answers_of (run step cs r).replies ≡ answers_of (run step cs s).replies) × Equivalent (run step cs s).state (run step cs r).state)
        → (answers_of (run step (c ∷ cs) r).replies ≡ answers_of (run step (c ∷ cs) s).replies) × Equivalent (run step (c ∷ cs) s).state (run step (c ∷ cs) r).state
    go r₁ e p ih =
        let next = ih (step c s).state (step c r₁).state p.states n.1 in
        (rw e (λ k. p.answer k ∷ next.0 k), rw e next.1)

compact-step : (s : State) → step compact s ≡ after s.lines (compact_answer s.ledger s.lines) s.held (compact_bytes s.ledger s.lines)
unfolding step
compact-step s = refl

pub compacted-equivalent : (s : State) → Equivalent s (step compact s).state
compacted-equivalent s = rw (compact-step s, compact-answer s.ledger s.lines, compact-bytes s.ledger s.lines) (go (ledger_malformed s.ledger s.lines) refl)
  where
    go : (b : Bool) → ledger_malformed s.ledger s.lines ≡ b
        → Equivalent s (after s.lines (if◌then◌else◌ b (Err R.LedgerMalformed) (Ok (length (standing (lines_of s.lines s.ledger))))) s.held (if◌then◌else◌ b s.ledger (compacted (lines_of s.lines s.ledger) (drop (s.lines * 16) s.ledger)))).state
    go true e = record { held = refl; alike = alike-itself s.ledger s.lines }
    go false e = record { held = refl; alike = alike-first s.ledger s.lines e }

pub compaction-unobservable : CompactionUnobservable
compaction-unobservable s cs n = let r = runs-follow cs s (step compact s).state (compacted-equivalent s) n in record { answers = r.0; held = r.1.held }

pub purge-unobservable : PurgeUnobservable
unfolding step
purge-unobservable s d = ap purged (same-purge (compacted-equivalent s).alike d)

-- compacted again

pub compact-twice : CompactedTwice
compact-twice s = go (ledger_malformed t n) refl
  where
    t : List ℕ
    t = s.ledger

    n : ℕ
    n = s.lines

    u : List ℕ
    u = compacted (lines_of n t) (drop (n * 16) t)

    k : ℕ
    k = length (standing (lines_of n t))

    go : (b : Bool) → ledger_malformed t n ≡ b → step compact (step compact s).state ≡ step compact s
    go true e =
        let refuses : step compact s ≡ record { reply = record { answer = M.refused R.LedgerMalformed; lines = n }; state = s } = compact-step s ∙ rw (compact-answer t n, compact-bytes t n, e) in
        ap (λ (x : Step State). step compact x.state) refuses
    go false e =
        let well : ledger_malformed u k ≡ false = (alike-first t n e).malformed ∙ e in
        let once : step compact s ≡ after k (Ok k) s.held u = compact-step s ∙ rw (compact-answer t n, compact-bytes t n, e) in
        let twice : step compact (state_of s.held u k) ≡ after k (Ok k) s.held u =
        compact-step (state_of s.held u k) ∙ rw (compact-answer u k, compact-bytes u k, well, (compacted-twice t n e).0, (compacted-twice t n e).1) in
        ap (λ (x : Step State). step compact x.state) once ∙ twice ∙ sym once
