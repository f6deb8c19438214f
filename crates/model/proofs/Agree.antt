-- Each call on real bytes gives what the model gives, and so does every list of calls.
-- Assumes nothing.
use Rattle.ledger.specs.Standing.{line_found}
use Rattle.ledger.specs.declared.Found.{Found}
use mathlib.Core.Path.{◌≡◌, refl, sym, ap, ◌∙◌}
use mathlib.Core.Bool.{Bool, true, false, not}
use mathlib.Core.List.{List, [], ◌∷◌}
use Prim.Native.Nat.{ℕ, suc, ◌+◌, ◌/◌, ◌^◌, ◌≤◌, ◌<◌}
use native.Mathlib.Omega.{arith}
use lib.ListN.{length, get_or, set, length-append, length-set}
use lib.Seq.{get_or-set_same, set-set, set-get_or}
use lib.Dec.{eqb, leb, ltb}
use borrow.Author.Tests.{eq-eqb, ne_eqb, leb-false, lt-leb, le-ltb, ltb-false, not-false}
use Rattle.std.specs.Prelude.{if◌then◌else◌, Err, Ok, Some, None, Option}
use Rattle.refusal.specs.declared.Refusal.{Refusal}
use Rattle.refusal.specs.declared.Refusal.TheVariants as R
use Rattle.lists.specs.Bytes.{held_bytes}
use Rattle.writer.specs.Writer as Writer
use Rattle.writer.specs.Writer.{frame, writer_frame, write_answer, answer_of}
use Rattle.calendar.specs.declared.Date.{Date}
use Rattle.calendar.specs.Calendar.{is_date, before}
use Rattle.ledger.specs.declared.Line.{Line}
use Rattle.ledger.specs.Lines.{lines_of, right_for}
use Rattle.ledger.specs.Standing.{withdraws, keeps, standing, last_standing, any_line}
use Rattle.ledger.specs.Ledger.{ledger_malformed, with_line, keep_line, keep_answer, keep_bytes, purge_by, purge_answer}
use Rattle.ledger.proofs.Packing.{Sized}
use Rattle.ledger.proofs.StandingLaws.{stack, stack-more, length-standing}
use Rattle.ledger.proofs.Appending.{found_lines, first_where, last-is-top}
use Rattle.readback.specs.Held.{held_count, held_pixels, is_held}
use Rattle.compaction.proofs.Laws.{stack-again}
use Rattle.compaction.proofs.Alike.{compact-answer, compact-bytes}
use Rattle.archive.specs.Calls as C
use Rattle.archive.specs.Calls.{Outcome, outcome, correction_line, withdrawal_line, with_lines, held_as, changed, correct_outcome, correction_back, line_back, last_back, withdraw_outcome, line_amended, last_amended, amend_outcome}
use Rattle.model.specs.Model.{Call, correct, keep, withdraw, amend, compact, may_purge, Answer, accepted, refused, Reply, Step, Ran, run, Entry, corrected, kept, Model, Opening, pixels_with, refuse, accept, corrected_by, asked_of, is_full, written, withdrawn_from, amended_from, model_step}
use Rattle.model.specs.Ledger.{Ledger, ledger_bytes, appended, only_standing, ledger_by, ledger_after, ledger_run}
use Rattle.model.specs.Run.{State, state_of, purged, after, after_outcome, step, Counted, AllCounted}
use Rattle.model.proofs.Held.{Pixels, pixels-set, Fits, Given, held-count, held-pixels, held-length, is-held, changed-is}
use Rattle.model.proofs.Appending.{one_more, ledger-more, appended_then, behind-lines, Holds, holds_more, compacted-is, holds-standing}
use Rattle.model.proofs.Dates.{keep-sized}
use Rattle.model.proofs.Accepted.{withdrawal-sized, correction-sized}

-- the lines of the entries of a stack, top first; the old count is that of the pixels below
unfoldable pub line_stack : List ℕ → List Entry → List Line
unfolding pixels_with
line_stack opened [] = []
line_stack opened (corrected p c ∷ es) = correction_line p (get_or (pixels_with opened es) p 0) c ∷ line_stack opened es
line_stack opened (kept d ∷ es) = keep_line d ∷ line_stack opened es

pub length-stack : (opened : List ℕ) (es : List Entry) → length (line_stack opened es) ≡ length es
unfolding line_stack
length-stack opened [] = refl
length-stack opened (corrected p c ∷ es) = ap suc (length-stack opened es)
length-stack opened (kept d ∷ es) = ap suc (length-stack opened es)

pub length-with : (opened : List ℕ) (es : List Entry) → length (pixels_with opened es) ≡ length opened
unfolding pixels_with
length-with opened [] = refl
length-with opened (corrected p c ∷ es) = length-set (pixels_with opened es) p c ∙ length-with opened es
length-with opened (kept d ∷ es) = length-with opened es

-- the writer makes a frame of the pixels that the held buffer has room for
pub record Writes (o : Opening) (vs : List ℕ) : Type 0 where
  pub frame : List ℕ
  pub fits : Fits o vs frame

-- what is known of a stack: each correction is of a pixel that is there, and the writer took the pixels with it
abbrev pub Good : Opening → List Entry → Type 0
Good o [] = Pixels (length o.pixels) o.pixels × Writes o o.pixels
Good o (corrected p c ∷ es) = (p < length o.pixels) × (c < 4294967296) × Writes o (set (pixels_with o.pixels es) p c) × Good o es
Good o (kept d ∷ es) = Good o es

pub good-pixels : (o : Opening) (es : List Entry) → Good o es → Pixels (length o.pixels) (pixels_with o.pixels es)
unfolding pixels_with
good-pixels o [] g = g.0
good-pixels o (corrected p c ∷ es) g = pixels-set (good-pixels o es g.3) p c g.1
good-pixels o (kept d ∷ es) g = good-pixels o es g

pub good-writes : (o : Opening) (es : List Entry) → Good o es → Writes o (pixels_with o.pixels es)
unfolding pixels_with
good-writes o [] g = g.1
good-writes o (corrected p c ∷ es) g = g.2
good-writes o (kept d ∷ es) g = good-writes o es g

-- what a search for the last standing line found

found_none : (f : Option Found) → found_lines f ≡ [] → f ≡ None
found_none None e = refl
found_none (Some fd) e = let z : ◌≡◌ {A = ℕ} 0 1 = cc in absurd (omega arith)

found-one : {A : Type 0} (g : Option Found → A) (h : Line → A) → ((i : ℕ) (l : Line) → g (Some (line_found i l)) ≡ h l) → (f : Option Found) (l : Line) → found_lines f ≡ l ∷ [] → g f ≡ h l
found-one g h k None l e = let z : ◌≡◌ {A = ℕ} 0 1 = cc in absurd (omega arith)
found-one g h k (Some fd) l e = let q : fd.line ≡ l = cc in k fd.index fd.line ∙ ap h q

purged-if : (b : Bool) → purged (if◌then◌else◌ b (Ok tt) (Err R.NotYet)) ≡ if◌then◌else◌ b accepted (refused R.NotYet)
purged-if true = refl
purged-if false = refl

-- the purge question, by the last keep line that stands
purge-asked : (opened : List ℕ) (day : Date) (es : List Entry) (f : Option Found) → found_lines f ≡ first_where keeps (line_stack opened es) → purged (purge_by day f) ≡ asked_of day es
unfolding line_stack purge_by asked_of
purge-asked opened day [] f e = rw (found_none f e)
purge-asked opened day (corrected p c ∷ es) f e = purge-asked opened day es f e
purge-asked opened day (kept d ∷ es) f e =
    found-one (λ x. purged (purge_by day x)) (λ l. if◌then◌else◌ (before l.date day) accepted (refused R.NotYet)) (λ i l. purged-if (before l.date day)) f (keep_line d) e

-- the definitions of the calls, one test after the other

pub keep-answer : (u : List ℕ) (n : ℕ) (d : Date) → keep_answer u n d
    ≡ if◌then◌else◌ (ledger_malformed u n) (Err R.LedgerMalformed) (if◌then◌else◌ (not (is_date d)) (Err R.NotADate) (if◌then◌else◌ (leb (length u / 16) n) (Err R.LedgerFull) (Ok (n + 1))))
unfolding keep_answer
keep-answer u n d = refl

pub keep-bytes : (u : List ℕ) (n : ℕ) (d : Date) → keep_bytes u n d
    ≡ if◌then◌else◌ (ledger_malformed u n) u (if◌then◌else◌ (not (is_date d)) u (if◌then◌else◌ (leb (length u / 16) n) u (with_line u n (keep_line d))))
unfolding keep_bytes
keep-bytes u n d = refl

pub after-keep : (b c : Bool) (n : ℕ) (h u w : List ℕ)
    → after n (if◌then◌else◌ b (Err R.NotADate) (if◌then◌else◌ c (Err R.LedgerFull) (Ok (n + 1)))) h (if◌then◌else◌ b u (if◌then◌else◌ c u w))
    ≡ if◌then◌else◌ b (after n (Err R.NotADate) h u) (if◌then◌else◌ c (after n (Err R.LedgerFull) h u) (after n (Ok (n + 1)) h w))
after-keep true c n h u w = refl
after-keep false true n h u w = refl
after-keep false false n h u w = refl

pub purge-answer : (u : List ℕ) (n : ℕ) (d : Date) → purge_answer u n d
    ≡ if◌then◌else◌ (ledger_malformed u n) (Err R.LedgerMalformed) (if◌then◌else◌ (not (is_date d)) (Err R.NotADate) (purge_by d (last_standing keeps 0 (lines_of n u))))
unfolding purge_answer
purge-answer u n d = refl

pub correct-outcome : (h u : List ℕ) (n p k : ℕ) → correct_outcome h u n p k
    ≡ if◌then◌else◌ (not (is_held h)) (C.refuse h u n R.HeldNotCanonical) (
    if◌then◌else◌ (ledger_malformed u n) (C.refuse h u n R.LedgerMalformed) (
    if◌then◌else◌ (leb (held_count h) p) (C.refuse h u n R.NoSuchPixel) (
    if◌then◌else◌ (leb (length u / 16) n) (C.refuse h u n R.LedgerFull) (
    held_as h u n (correction_line p (get_or (held_pixels h) p 0) k ∷ []) (changed h u n p k)))))
unfolding correct_outcome
correct-outcome h u n p k = refl

pub withdraw-outcome : (h u : List ℕ) (n : ℕ) → withdraw_outcome h u n
    ≡ if◌then◌else◌ (not (is_held h)) (C.refuse h u n R.HeldNotCanonical) (
    if◌then◌else◌ (ledger_malformed u n) (C.refuse h u n R.LedgerMalformed) (
    last_back h u n (last_standing any_line 0 (lines_of n u))))
unfolding withdraw_outcome
withdraw-outcome h u n = refl

pub amend-outcome : (h u : List ℕ) (n k : ℕ) → amend_outcome h u n k
    ≡ if◌then◌else◌ (not (is_held h)) (C.refuse h u n R.HeldNotCanonical) (
    if◌then◌else◌ (ledger_malformed u n) (C.refuse h u n R.LedgerMalformed) (
    last_amended h u n k (last_standing any_line 0 (lines_of n u))))
unfolding amend_outcome
amend-outcome h u n k = refl

write-answer : (g : List ℕ) (o : Opening) (vs : List ℕ) → write_answer g (Some o.form) vs o.held_length ≡ answer_of o.held_length (writer_frame g (Some o.form) vs)
unfolding write_answer
write-answer g o vs = refl

module _ (o : Opening) (m : Model) where
  pub model-correct : (p k : ℕ) → model_step o (correct p k) m
      ≡ if◌then◌else◌ (leb (length o.pixels) p) (refuse m R.NoSuchPixel) (
      if◌then◌else◌ (is_full o m) (refuse m R.LedgerFull) (
      corrected_by m (m.lines + 1) m.stack p k (written o (set (pixels_with o.pixels m.stack) p k))))
  unfolding model_step
  model-correct p k = refl

  model-keep : (d : Date) → model_step o (keep d) m
      ≡ if◌then◌else◌ (not (is_date d)) (refuse m R.NotADate) (if◌then◌else◌ (is_full o m) (refuse m R.LedgerFull) (accept (m.lines + 1) (kept d ∷ m.stack)))
  unfolding model_step
  model-keep d = refl

  pub model-withdraw : model_step o withdraw m ≡ withdrawn_from o m m.stack
  unfolding model_step
  model-withdraw = refl

  pub model-amend : (k : ℕ) → model_step o (amend k) m ≡ amended_from o m k m.stack
  unfolding model_step
  model-amend k = refl

  model-compact : model_step o compact m ≡ accept (length m.stack) m.stack
  unfolding model_step
  model-compact = refl

  pub model-purge : (d : Date) → model_step o (may_purge d) m
      ≡ record { reply = record { answer = if◌then◌else◌ (not (is_date d)) (refused R.NotADate) (asked_of d m.stack); lines = m.lines }; state = m }
  unfolding model_step
  model-purge d = refl

-- o is what the model is fed
module _ (o : Opening) (few : length o.pixels ≤ 2 ^ 24) (given : Given o) where
  abbrev px : List Entry → List ℕ
  px es = pixels_with o.pixels es

  -- the real state with a frame and lines, and the model with a stack and as many lines
  abbrev pub state_at : List ℕ → Ledger → State
  state_at f ls = state_of (held_bytes o.held_length f) (ledger_bytes ls) (length ls.lines)

  abbrev pub model_at : List Entry → Ledger → Model
  model_at es ls = record { stack = es; lines = length ls.lines }

  pub record Same (f : List ℕ) (ls : Ledger) (es : List Entry) : Type 0 where
    pub fits : Fits o (px es) f
    pub holds : Holds o.ledger_length ls
    pub top : stack [] ls.lines ≡ line_stack o.pixels es
    pub good : Good o es

  -- a call on ls lines, and the model's: the same is given back, and they are the same again after it
  pub record Agree (ls : Ledger) (c : Call) (m : Model) (q : Step State) (r : Step Model) : Type 0 where
    pub reply : q.reply ≡ r.reply
    pub frame : List ℕ
    pub ledger : Ledger
    pub entries : List Entry
    pub state : q.state ≡ state_at frame ledger
    pub model : r.state ≡ model_at entries ledger
    pub added : ledger ≡ ledger_after o r.reply.answer m c ls
    pub same : Same frame ledger entries

  agree-if : {ls : Ledger} {c : Call} {m : Model} {b d : Bool} {q₁ q₂ : Step State} {r₁ r₂ : Step Model} → b ≡ d
      → Agree ls c m q₁ r₁ → (b ≡ false → Agree ls c m q₂ r₂) → Agree ls c m (if◌then◌else◌ b q₁ q₂) (if◌then◌else◌ d r₁ r₂)
  agree-if {ls} {c} {m} {b} {d} {q₁} {q₂} {r₁} {r₂} e a k = rw (← e) (go b refl)
    where
      go : (x : Bool) → b ≡ x → Agree ls c m (if◌then◌else◌ x q₁ q₂) (if◌then◌else◌ x r₁ r₂)
      go true f = a
      go false f = k f

  -- the same where the choice stands in an argument
  agree-in : {A : Type 0} {ls : Ledger} {c : Call} {m : Model} {b d : Bool} {r₁ r₂ : Step Model} (g : A → Step State) (x₁ x₂ : A) → b ≡ d
      → Agree ls c m (g x₁) r₁ → (b ≡ false → Agree ls c m (g x₂) r₂) → Agree ls c m (g (if◌then◌else◌ b x₁ x₂)) (if◌then◌else◌ d r₁ r₂)
  agree-in {A} {ls} {c} {m} {b} {d} {r₁} {r₂} g x₁ x₂ e a k = rw (← e) (go b refl)
    where
      go : (x : Bool) → b ≡ x → Agree ls c m (g (if◌then◌else◌ x x₁ x₂)) (if◌then◌else◌ x r₁ r₂)
      go true f = a
      go false f = k f

  module _ {f : List ℕ} {ls : Ledger} {es : List Entry} (s : Same f ls es) where
    refuses : (c : Call) (r : Refusal) → Agree ls c (model_at es ls) (after (length ls.lines) (Err r) (held_bytes o.held_length f) (ledger_bytes ls)) (refuse (model_at es ls) r)
    refuses c r = record {
      reply = refl;
      frame = f;
      ledger = ls;
      entries = es;
      state = refl;
      model = refl;
      added = refl;
      same = s;
    }

    accepts : (c : Call) (n : ℕ) (u : List ℕ) (f' : List ℕ) (ls' : Ledger) (es' : List Entry) → n ≡ length ls'.lines → u ≡ ledger_bytes ls' → ls' ≡ ledger_by o (model_at es ls) c ls → Same f' ls' es'
        → Agree ls c (model_at es ls) (after (length ls.lines) (Ok n) (held_bytes o.held_length f') u) (accept n es')
    accepts c n u f' ls' es' e d by s' = record {
      reply = refl;
      frame = f';
      ledger = ls';
      entries = es';
      state = rw (e, d);
      model = rw e;
      added = by;
      same = s';
    }

    -- with the call's lines appended
    appends : (c : Call) (ks : List Line) (f' : List ℕ) (es' : List Entry) → appended ls ks ≡ ledger_by o (model_at es ls) c ls → Same f' (appended ls ks) es'
        → Agree ls c (model_at es ls) (after (length ls.lines) (Ok (length ls.lines + length ks)) (held_bytes o.held_length f') (with_lines (ledger_bytes ls) (length ls.lines) ks)) (accept (length ls.lines + length ks) es')
    appends c ks f' es' by s' =
        accepts c (length ls.lines + length ks) (with_lines (ledger_bytes ls) (length ls.lines) ks) f' (appended ls ks) es' (sym (length-append ls.lines ks)) (ledger-more ls ks) by s'

    pixels : Pixels (length o.pixels) (px es)
    pixels = good-pixels o es s.good

    -- room behind n lines
    full : (n : ℕ) → leb (length (ledger_bytes ls) / 16) n ≡ leb (o.ledger_length / 16) n
    full n = rw s.holds.size

    room : (n : ℕ) → leb (length (ledger_bytes ls) / 16) n ≡ false → n < o.ledger_length / 16
    room n e = leb-false (o.ledger_length / 16) n (rw s.holds.size at e)

    -- one more line of kind 0 or 1
    more : (l : Line) (f' : List ℕ) (e : Entry) → withdraws l ≡ false → line_stack o.pixels (e ∷ es) ≡ l ∷ line_stack o.pixels es
        → length ls.lines < o.ledger_length / 16 → Sized l → right_for l.kind l ≡ true → Fits o (px (e ∷ es)) f' → Good o (e ∷ es) → Same f' (appended ls (l ∷ [])) (e ∷ es)
    more l f' e w top k sized right fits good = record {
      fits = fits;
      holds = holds_more s.holds l k sized right (rw w);
      top = stack-more [] ls.lines l ∙ rw (w, s.top, top);
      good = good;
    }

    -- a withdrawal more
    less : (f' : List ℕ) (l : Line) (es' : List Entry) → stack [] ls.lines ≡ l ∷ line_stack o.pixels es'
        → length ls.lines < o.ledger_length / 16 → Fits o (px es') f' → Good o es' → Same f' (appended ls (withdrawal_line ∷ [])) es'
    unfolding right_for
    less f' l es' top k fits good = record {
      fits = fits;
      holds = holds_more s.holds withdrawal_line k withdrawal-sized refl (rw top (ne_eqb (suc (length (line_stack o.pixels es'))) 0 (λ z. omega arith)));
      top = stack-more [] ls.lines withdrawal_line ∙ rw top;
      good = good;
    }

    keep-agrees : (d : Date) → Agree ls (keep d) (model_at es ls) (step (keep d) (state_at f ls)) (model_step o (keep d) (model_at es ls))
    unfolding step right_for line_stack pixels_with
    keep-agrees d =
        rw (
          keep-answer (ledger_bytes ls) (length ls.lines) d,
          keep-bytes (ledger_bytes ls) (length ls.lines) d,
          s.holds.well,
          model-keep o (model_at es ls) d,
          after-keep (not (is_date d)) (leb (length (ledger_bytes ls) / 16) (length ls.lines)) (length ls.lines) (held_bytes o.held_length f) (ledger_bytes ls) (with_line (ledger_bytes ls) (length ls.lines) (keep_line d)),
        )
        (agree-if {b = not (is_date d)} refl (refuses (keep d) R.NotADate) (λ day.
        agree-if (full (length ls.lines)) (refuses (keep d) R.LedgerFull) (λ free.
        let date : is_date d ≡ true = not-false (is_date d) day in
        appends (keep d) (keep_line d ∷ []) f (kept d ∷ es) refl (more (keep_line d) f (kept d) refl refl (room (length ls.lines) free) (keep-sized d date) (rw date) s.fits s.good))))

    purge-agrees : (d : Date) → Agree ls (may_purge d) (model_at es ls) (step (may_purge d) (state_at f ls)) (model_step o (may_purge d) (model_at es ls))
    unfolding step
    purge-agrees d = rw (model-purge o (model_at es ls) d) (record {
      reply = ap (λ (a : Answer). record { answer = a; lines = length ls.lines }) same_answer;
      frame = f;
      ledger = ls;
      entries = es;
      state = refl;
      model = refl;
      added = sym (none (if◌then◌else◌ (not (is_date d)) (refused R.NotADate) (asked_of d es)));
      same = s;
    })
      where
        found : found_lines (last_standing keeps 0 (lines_of (length ls.lines) (ledger_bytes ls))) ≡ first_where keeps (line_stack o.pixels es)
        found = rw s.holds.read (last-is-top keeps 0 ls.lines ∙ rw s.top)

        go : (b : Bool) → purged (if◌then◌else◌ b (Err R.NotADate) (purge_by d (last_standing keeps 0 (lines_of (length ls.lines) (ledger_bytes ls))))) ≡ if◌then◌else◌ b (refused R.NotADate) (asked_of d es)
        go true = refl
        go false = purge-asked o.pixels d es _ found

        same_answer : purged (purge_answer (ledger_bytes ls) (length ls.lines) d) ≡ if◌then◌else◌ (not (is_date d)) (refused R.NotADate) (asked_of d es)
        same_answer = rw (purge-answer (ledger_bytes ls) (length ls.lines) d, s.holds.well) (go (not (is_date d)))

        none : (a : Answer) → ledger_after o a (model_at es ls) (may_purge d) ls ≡ ls
        none accepted = refl
        none (refused r) = refl

    -- the held buffer becomes the writer's frame, or not: 17, 18
    writes-agree : (c : Call) (p k : ℕ) (below : List Entry) (ks : List Line) (made : Writer.Made)
        → ((f' : List ℕ) → made ≡ frame f' → length f' ≤ o.held_length
        → Agree ls c (model_at es ls) (after (length ls.lines) (Ok (length ls.lines + length ks)) (held_bytes o.held_length f') (with_lines (ledger_bytes ls) (length ls.lines) ks)) (accept (length ls.lines + length ks) (corrected p k ∷ below)))
        → Agree ls c (model_at es ls) (after_outcome (length ls.lines) (held_as (held_bytes o.held_length f) (ledger_bytes ls) (length ls.lines) ks made)) (corrected_by (model_at es ls) (length ls.lines + length ks) below p k (answer_of o.held_length made))
    writes-agree c p k below ks (Writer.refused r) next = refuses c r
    writes-agree c p k below ks (frame f') next = rw (held-length o (px es) f pixels s.fits given) (go (ltb o.held_length (length f')) refl)
      where
        go : (b : Bool) → ltb o.held_length (length f') ≡ b
            → Agree ls c (model_at es ls)
            (after_outcome (length ls.lines) (if◌then◌else◌ b (C.refuse (held_bytes o.held_length f) (ledger_bytes ls) (length ls.lines) R.OutputShort) (outcome (Ok (length ls.lines + length ks)) (held_bytes o.held_length f') (with_lines (ledger_bytes ls) (length ls.lines) ks))))
            (corrected_by (model_at es ls) (length ls.lines + length ks) below p k (if◌then◌else◌ b (Err R.OutputShort) (Ok (length f'))))
        go true e = refuses c R.OutputShort
        go false e = next f' refl (ltb-false o.held_length (length f') e)

    correct-sized : (p k : ℕ) → p < length o.pixels → k < 4294967296 → Sized (correction_line p (get_or (px es) p 0) k)
    correct-sized p k h b =
        let pixel : p < 2 ^ 24 = omega arith in
        correction-sized p (get_or (px es) p 0) k pixel (pixels.small p) b

    correct-agrees : (p k : ℕ) → k < 4294967296 → Agree ls (correct p k) (model_at es ls) (step (correct p k) (state_at f ls)) (model_step o (correct p k) (model_at es ls))
    unfolding step right_for line_stack pixels_with
    correct-agrees p k small =
        let h : List ℕ = held_bytes o.held_length f in
        let u : List ℕ = ledger_bytes ls in
        let n : ℕ = length ls.lines in
        let line : Line = correction_line p (get_or (px es) p 0) k in
        rw (
          correct-outcome h u n p k,
          is-held o (px es) f pixels s.fits given,
          s.holds.well,
          held-count o (px es) f pixels s.fits given,
          changed-is o (px es) f pixels s.fits given u n p k,
          held-pixels o (px es) f pixels s.fits given,
          model-correct o (model_at es ls) p k,
          write-answer o.header o (set (px es) p k),
        )
        (agree-in {b = leb (length o.pixels) p} (after_outcome n) _ _ refl (refuses (correct p k) R.NoSuchPixel) (λ inside.
        agree-in (after_outcome n) _ _ (full n) (refuses (correct p k) R.LedgerFull) (λ free.
        writes-agree (correct p k) p k es (line ∷ []) (writer_frame o.header (Some o.form) (set (px es) p k)) (λ f' made fits.
        let there : p < length o.pixels = leb-false (length o.pixels) p inside in
        let new : Fits o (set (px es) p k) f' = record { made = made; room = fits } in
        appends (correct p k) (line ∷ []) f' (corrected p k ∷ es) refl
        (more line f' (corrected p k) refl refl (room n free) (correct-sized p k there small) refl new (there, small, record { frame = f'; fits = new }, s.good))))))

    -- the last line that stands is the top entry's
    pub found-last : found_lines (last_standing any_line 0 (lines_of (length ls.lines) (ledger_bytes ls))) ≡ first_where any_line (line_stack o.pixels es)
    found-last = rw s.holds.read (last-is-top any_line 0 ls.lines ∙ rw s.top)

  -- a correction on top: 24 and 23 are not due
  corrected-top : {f : List ℕ} {ls : Ledger} (p k : ℕ) (es : List Entry) (s : Same f ls (corrected p k ∷ es)) (outside differs x : Outcome)
      → if◌then◌else◌ (leb (held_count (held_bytes o.held_length f)) p) outside (if◌then◌else◌ (not (eqb (get_or (held_pixels (held_bytes o.held_length f)) p 0) k)) differs x) ≡ x
  unfolding pixels_with
  corrected-top {f} p k es s outside differs x =
      let vs : List ℕ = set (px es) p k in
      let v : Pixels (length o.pixels) vs = pixels s in
      let there : p < length (px es) = rw (length-with o.pixels es) s.good.0 in
      rw (
        held-count o vs f v s.fits given,
        lt-leb (length o.pixels) p s.good.0,
        held-pixels o vs f v s.fits given,
        get_or-set_same (px es) p k 0 there,
        eq-eqb k k refl,
      )

  -- another count for it: the writer's frame for the pixels below with that count
  top-changed : {f : List ℕ} {ls : Ledger} (p k : ℕ) (es : List Entry) (s : Same f ls (corrected p k ∷ es)) (n count : ℕ)
      → changed (held_bytes o.held_length f) (ledger_bytes ls) n p count ≡ writer_frame o.header (Some o.form) (set (px es) p count)
  unfolding pixels_with
  top-changed {f} {ls} p k es s n count =
      changed-is o (set (px es) p k) f (pixels s) s.fits given (ledger_bytes ls) n p count ∙ rw (set-set (px es) p k count)

  -- it is taken back: 17 and 18 are not due either
  correction-back : {f : List ℕ} {ls : Ledger} (p k : ℕ) (es : List Entry) (s : Same f ls (corrected p k ∷ es)) (w : Writes o (px es))
      → correction_back (held_bytes o.held_length f) (ledger_bytes ls) (length ls.lines) (correction_line p (get_or (px es) p 0) k)
      ≡ if◌then◌else◌ (leb (length (ledger_bytes ls) / 16) (length ls.lines)) (C.refuse (held_bytes o.held_length f) (ledger_bytes ls) (length ls.lines) R.LedgerFull)
      (outcome (Ok (length ls.lines + 1)) (held_bytes o.held_length w.frame) (with_line (ledger_bytes ls) (length ls.lines) withdrawal_line))
  unfolding pixels_with
  correction-back {f} {ls} p k es s w =
      let vs : List ℕ = set (px es) p k in
      let made : changed (held_bytes o.held_length f) (ledger_bytes ls) (length ls.lines) p (get_or (px es) p 0) ≡ frame w.frame =
      top-changed p k es s (length ls.lines) (get_or (px es) p 0) ∙ rw (set-get_or (px es) p 0) w.fits.made in
      corrected-top p k es s _ _ _ ∙ rw (
        made,
        held-length o vs f (pixels s) s.fits given,
        le-ltb o.held_length (length w.frame) w.fits.room,
      )

  withdraw-from : {f : List ℕ} {ls : Ledger} (es : List Entry) (s : Same f ls es)
      → Agree ls withdraw (model_at es ls) (after_outcome (length ls.lines) (last_back (held_bytes o.held_length f) (ledger_bytes ls) (length ls.lines) (last_standing any_line 0 (lines_of (length ls.lines) (ledger_bytes ls))))) (withdrawn_from o (model_at es ls) es)
  unfolding line_stack pixels_with
  withdraw-from {f} {ls} [] s = rw (found_none (last_standing any_line 0 (lines_of (length ls.lines) (ledger_bytes ls))) (found-last s)) (refuses s withdraw R.NothingStands)
  withdraw-from {f} {ls} (kept d ∷ es) s =
      let h : List ℕ = held_bytes o.held_length f in
      let u : List ℕ = ledger_bytes ls in
      let n : ℕ = length ls.lines in
      rw (found-one (last_back h u n) (λ l. line_back h u n l.kind l) (λ i l. refl) (last_standing any_line 0 (lines_of n u)) (keep_line d) (found-last s))
      (agree-in (after_outcome n) _ _ (full s n) (refuses s withdraw R.LedgerFull) (λ free.
      appends s withdraw (withdrawal_line ∷ []) f es refl (less s f (keep_line d) es s.top (room s n free) s.fits s.good)))
  withdraw-from {f} {ls} (corrected p k ∷ es) s =
      let h : List ℕ = held_bytes o.held_length f in
      let u : List ℕ = ledger_bytes ls in
      let n : ℕ = length ls.lines in
      let line : Line = correction_line p (get_or (px es) p 0) k in
      let w : Writes o (px es) = good-writes o es s.good.3 in
      rw (found-one (last_back h u n) (λ l. line_back h u n l.kind l) (λ i l. refl) (last_standing any_line 0 (lines_of n u)) line (found-last s), correction-back p k es s w)
      (agree-in (after_outcome n) _ _ (full s n) (refuses s withdraw R.LedgerFull) (λ free.
      appends s withdraw (withdrawal_line ∷ []) w.frame es refl (less s w.frame line es s.top (room s n free) w.fits s.good.3)))

  withdraw-agrees : {f : List ℕ} {ls : Ledger} (es : List Entry) (s : Same f ls es) → Agree ls withdraw (model_at es ls) (step withdraw (state_at f ls)) (model_step o withdraw (model_at es ls))
  unfolding step
  withdraw-agrees {f} {ls} es s =
      rw (withdraw-outcome (held_bytes o.held_length f) (ledger_bytes ls) (length ls.lines), is-held o (px es) f (pixels s) s.fits given, s.holds.well, model-withdraw o (model_at es ls))
      (withdraw-from es s)

  -- a correction on top is amended: the line of a withdrawal and then that of a correction, each as by its own call; between them is the frame that
  -- was there before the correction
  amended : {f : List ℕ} {ls : Ledger} {p k : ℕ} {es : List Entry} (s : Same f ls (corrected p k ∷ es)) (count : ℕ) → count < 4294967296 → (f' : List ℕ)
      → Fits o (set (px es) p count) f' → length ls.lines + 1 < o.ledger_length / 16
      → Same f' (appended ls (withdrawal_line ∷ correction_line p (get_or (px es) p 0) count ∷ [])) (corrected p count ∷ es)
  unfolding line_stack pixels_with right_for
  amended {f} {ls} {p} {k} {es} s count small f' new free =
      let below : Good o es = s.good.3 in
      let w : Writes o (px es) = good-writes o es below in
      let back : Same w.frame (appended ls (withdrawal_line ∷ [])) es = less s w.frame (correction_line p (get_or (px es) p 0) k) es s.top (omega arith) w.fits below in
      let there : p < length o.pixels = s.good.0 in
      let line : Line = correction_line p (get_or (px es) p 0) count in
      let both : Same f' (appended (appended ls (withdrawal_line ∷ [])) (line ∷ [])) (corrected p count ∷ es) =
      more back line f' (corrected p count) refl refl (rw (one_more ls.lines withdrawal_line) free) (correct-sized back p count there small) refl new (there, small, record { frame = f'; fits = new }, below) in
      rw (appended_then ls (withdrawal_line ∷ []) (line ∷ [])) at both

  amend-from : {f : List ℕ} {ls : Ledger} (count : ℕ) → count < 4294967296 → (es : List Entry) (s : Same f ls es)
      → Agree ls (amend count) (model_at es ls) (after_outcome (length ls.lines) (last_amended (held_bytes o.held_length f) (ledger_bytes ls) (length ls.lines) count (last_standing any_line 0 (lines_of (length ls.lines) (ledger_bytes ls))))) (amended_from o (model_at es ls) count es)
  unfolding line_stack pixels_with
  amend-from {f} {ls} count small [] s = rw (found_none (last_standing any_line 0 (lines_of (length ls.lines) (ledger_bytes ls))) (found-last s)) (refuses s (amend count) R.NothingStands)
  amend-from {f} {ls} count small (kept d ∷ es) s =
      let h : List ℕ = held_bytes o.held_length f in
      let u : List ℕ = ledger_bytes ls in
      let n : ℕ = length ls.lines in
      rw (found-one (last_amended h u n count) (λ l. line_amended h u n count l.kind l) (λ i l. refl) (last_standing any_line 0 (lines_of n u)) (keep_line d) (found-last s))
      (refuses s (amend count) R.LastIsKeep)
  amend-from {f} {ls} count small (corrected p k ∷ es) s =
      let h : List ℕ = held_bytes o.held_length f in
      let u : List ℕ = ledger_bytes ls in
      let n : ℕ = length ls.lines in
      let two : List Line = withdrawal_line ∷ correction_line p (get_or (px es) p 0) count ∷ [] in
      rw (
        found-one (last_amended h u n count) (λ l. line_amended h u n count l.kind l) (λ i l. refl) (last_standing any_line 0 (lines_of n u)) (correction_line p (get_or (px es) p 0) k) (found-last s),
        corrected-top p k es s (C.refuse h u n R.NoSuchPixel) (C.refuse h u n R.PixelDiffers) (if◌then◌else◌ (leb (length u / 16) (n + 1)) (C.refuse h u n R.LedgerFull) (held_as h u n two (changed h u n p count))),
        top-changed p k es s n count,
        write-answer o.header o (set (px es) p count),
      )
      (agree-in (after_outcome n) _ _ (full s (n + 1)) (refuses s (amend count) R.LedgerFull) (λ free.
      writes-agree s (amend count) p count es two (writer_frame o.header (Some o.form) (set (px es) p count)) (λ f' made fits.
      appends s (amend count) two f' (corrected p count ∷ es) refl
      (amended s count small f' (record { made = made; room = fits }) (room s (n + 1) free)))))

  amend-agrees : {f : List ℕ} {ls : Ledger} (count : ℕ) → count < 4294967296 → (es : List Entry) (s : Same f ls es)
      → Agree ls (amend count) (model_at es ls) (step (amend count) (state_at f ls)) (model_step o (amend count) (model_at es ls))
  unfolding step
  amend-agrees {f} {ls} count small es s =
      rw (amend-outcome (held_bytes o.held_length f) (ledger_bytes ls) (length ls.lines) count, is-held o (px es) f (pixels s) s.fits given, s.holds.well, model-amend o (model_at es ls) count)
      (amend-from count small es s)

  compact-agrees : {f : List ℕ} {ls : Ledger} {es : List Entry} (s : Same f ls es) → Agree ls compact (model_at es ls) (step compact (state_at f ls)) (model_step o compact (model_at es ls))
  unfolding step
  compact-agrees {f} {ls} {es} s =
      let n : ℕ = length ls.lines in
      let u : List ℕ = ledger_bytes ls in
      let count : length (standing ls.lines) ≡ length es = length-standing ls.lines ∙ rw s.top (length-stack o.pixels es) in
      rw (compact-answer u n, compact-bytes u n, s.holds.well, s.holds.read, behind-lines ls, compacted-is ls, model-compact o (model_at es ls), ← count)
      (accepts s compact (length (standing ls.lines)) (ledger_bytes (only_standing ls)) f (only_standing ls) es refl refl refl
      (record { fits = s.fits; holds = holds-standing s.holds; top = stack-again ls.lines ∙ s.top; good = s.good }))

  pub step-agrees : (c : Call) → Counted c → {f : List ℕ} {ls : Ledger} {es : List Entry} → Same f ls es → Agree ls c (model_at es ls) (step c (state_at f ls)) (model_step o c (model_at es ls))
  step-agrees (correct p k) h s = correct-agrees s p k h
  step-agrees (keep d) h s = keep-agrees s d
  step-agrees withdraw h {f} {ls} {es} s = withdraw-agrees es s
  step-agrees (amend k) h {f} {ls} {es} s = amend-agrees k h es s
  step-agrees compact h s = compact-agrees s
  step-agrees (may_purge d) h s = purge-agrees s d

  -- a list of calls on ls lines, and the model's
  pub record Runs (ls : Ledger) (cs : List Call) (m : Model) (q : Ran State) (r : Ran Model) : Type 0 where
    pub replies : q.replies ≡ r.replies
    pub frame : List ℕ
    pub ledger : Ledger
    pub entries : List Entry
    pub state : q.state ≡ state_at frame ledger
    pub model : r.state ≡ model_at entries ledger
    pub added : ledger ≡ ledger_run o cs m ls
    pub same : Same frame ledger entries

  added_more : (c : Call) (cs : List Call) (m : Model) (g : Ledger) → ledger_run o (c ∷ cs) m g ≡ ledger_run o cs (model_step o c m).state (ledger_after o (model_step o c m).reply.answer m c g)
  unfolding ledger_run
  added_more c cs m g = refl

  pub runs-agree : (cs : List Call) → AllCounted cs → (f : List ℕ) (ls : Ledger) (es : List Entry) → Same f ls es
      → Runs ls cs (model_at es ls) (run step cs (state_at f ls)) (run (model_step o) cs (model_at es ls))
  unfolding run ledger_run AllCounted
  runs-agree [] h f ls es s =
      record { replies = refl; frame = f; ledger = ls; entries = es; state = refl; model = refl; added = refl; same = s }
  runs-agree (c ∷ cs) h f ls es s = go (step-agrees c h.0 s) (runs-agree cs h.1)
    where
      go : Agree ls c (model_at es ls) (step c (state_at f ls)) (model_step o c (model_at es ls))
          → ((g : List ℕ) (ks : Ledger) (ds : List Entry) → Same g ks ds → Runs ks cs (model_at ds ks) (run step cs (state_at g ks)) (run (model_step o) cs (model_at ds ks)))
          → Runs ls (c ∷ cs) (model_at es ls) (run step (c ∷ cs) (state_at f ls)) (run (model_step o) (c ∷ cs) (model_at es ls))
      go a ih =
          let r = ih a.frame a.ledger a.entries a.same in
          record {
            replies = rw (a.reply, a.state, a.model) (ap (λ (l : List Reply). (model_step o c (model_at es ls)).reply ∷ l) r.replies);
            frame = r.frame;
            ledger = r.ledger;
            entries = r.entries;
            state = ap (λ (x : State). (run step cs x).state) a.state ∙ r.state;
            model = ap (λ (x : Model). (run (model_step o) cs x).state) a.model ∙ r.model;
            added = r.added ∙ rw (added_more c cs (model_at es ls) ls, a.model, a.added);
            same = r.same;
          }
