-- After every list of calls: a purge is allowed exactly if a keep line stands and the last one standing has a date before the day
-- asked; a withdrawal is refused exactly if no line stands or the ledger is full.
-- Assumes nothing.
use mathlib.Core.Path.{◌≡◌, refl, sym, ap, subst, ◌∙◌}
use mathlib.Core.Bool.{Bool, true, false, not, ◌&&◌, ◌||◌}
use mathlib.Core.List.{List, [], ◌∷◌, ◌++◌, reverse, reverse-cons}
use Prim.Native.Nat.{ℕ, suc, ◌+◌, ◌^◌, ◌≤◌, ◌<◌}
use native.Mathlib.Omega.{arith}
use lib.ListN.{length, get_or, length-reverse}
use lib.Dec.{eqb}
use borrow.Author.Tests.{ne_eqb}
use Rattle.std.specs.Prelude.{if◌then◌else◌}
use Rattle.refusal.specs.declared.Refusal.TheVariants as R
use Rattle.layout.specs.declared.Form.{Form}
use Rattle.calendar.specs.declared.Date.{Date}
use Rattle.calendar.specs.Calendar.{is_date, before}
use Rattle.ledger.specs.declared.Line.{Line}
use Rattle.ledger.specs.Lines.{lines_of}
use Rattle.ledger.specs.Standing.{keeps, standing}
use Rattle.ledger.specs.Ledger.{keep_line, ledger_full}
use Rattle.ledger.proofs.StandingLaws.{standing-is}
use Rattle.model.specs.Model.{Call, withdraw, may_purge, accepted, refused, Reply, Step, Model, model_step, run, Entry, corrected, kept, Opening, is_full, refuse, accept, asked_of, withdrawn_from}
use Rattle.model.specs.Ledger.{Ledger, ledger_bytes, empty_ledger}
use Rattle.model.specs.Run.{State, step, opening_of, opened_state, Counted, AllCounted, is_accepted, last_keep_before, OpenedIn}
use Rattle.model.proofs.Held.{Given}
use Rattle.model.proofs.Agree.{line_stack, length-stack, Same, state_at, model_at, step-agrees, runs-agree, model-withdraw, model-purge}
use Rattle.model.proofs.Opened.{start}
use Rattle.model.proofs.Demand3.{first, at_first}

-- one line more decides, if it keeps
keep-more : (day : Date) (b : Bool) (ls : List Line) (l : Line) → last_keep_before day b (ls ++ l ∷ []) ≡ if◌then◌else◌ (keeps l) (before l.date day) (last_keep_before day b ls)
unfolding last_keep_before
keep-more day b [] l = refl
keep-more day b (x ∷ ls) l = keep-more day (if◌then◌else◌ (keeps x) (before x.date day) b) ls l

keep-none : (day : Date) → last_keep_before day false [] ≡ false
unfolding last_keep_before
keep-none day = refl

accepted-if : (b : Bool) → is_accepted (if◌then◌else◌ b accepted (refused R.NotYet)) ≡ b
accepted-if true = refl
accepted-if false = refl

-- the model's purge question, by the lines of the stack, oldest first
asked_is : (opened : List ℕ) (day : Date) (es : List Entry) → is_accepted (asked_of day es) ≡ last_keep_before day false (reverse (line_stack opened es))
unfolding asked_of line_stack
asked_is opened day [] = sym (keep-none day)
asked_is opened day (corrected p c ∷ es) = asked_is opened day es ∙ sym (rw reverse-cons (keep-more day false (reverse (line_stack opened es)) _))
asked_is opened day (kept d ∷ es) = accepted-if (before d day) ∙ sym (rw reverse-cons (keep-more day false (reverse (line_stack opened es)) (keep_line d)))

-- the model's withdrawal
from-stack : (o : Opening) (m : Model) (es : List Entry) → is_accepted (withdrawn_from o m es).reply.answer ≡ not (eqb (length es) 0 || is_full o m)
from-stack o m [] = refl
from-stack o m (e ∷ es) = rw (ne_eqb (suc (length es)) 0 (λ z. omega arith)) (go (is_full o m))
  where
    go : (b : Bool) → is_accepted (if◌then◌else◌ b (refuse m R.LedgerFull) (accept (m.lines + 1) es)).reply.answer ≡ not b
    go true = refl
    go false = refl

module _ (o : Opening) (few : length o.pixels ≤ 2 ^ 24) (given : Given o)
    {f : List ℕ} {ls : Ledger} {es : List Entry} (s : Same o few given f ls es) where
  abbrev now : State
  now = state_at o few given f ls

  stands : standing (lines_of (length ls.lines) (ledger_bytes ls)) ≡ reverse (line_stack o.pixels es)
  stands = rw s.holds.read (standing-is ls.lines ∙ rw s.top)

  full : ledger_full (ledger_bytes ls) (length ls.lines) ≡ is_full o (model_at o few given es ls)
  full = rw s.holds.size

  reply-of : (c : Call) → Counted c → (step c now).reply.answer ≡ (model_step o c (model_at o few given es ls)).reply.answer
  reply-of c k = ap (λ (r : Reply). r.answer) (step-agrees o few given c k s).reply

  withdraw-exact : is_accepted (step withdraw now).reply.answer ≡ not (eqb (length (standing (lines_of (length ls.lines) (ledger_bytes ls)))) 0 || ledger_full (ledger_bytes ls) (length ls.lines))
  withdraw-exact =
      let n : length (standing (lines_of (length ls.lines) (ledger_bytes ls))) ≡ length es = ap length stands ∙ length-reverse (line_stack o.pixels es) ∙ length-stack o.pixels es in
      ap is_accepted (reply-of withdraw tt ∙ ap (λ (x : Step Model). x.reply.answer) (model-withdraw o (model_at o few given es ls)))
      ∙ from-stack o (model_at o few given es ls) es
      ∙ rw (n, full)

  purge-exact : (day : Date) → is_accepted (step (may_purge day) now).reply.answer ≡ (is_date day && last_keep_before day false (standing (lines_of (length ls.lines) (ledger_bytes ls))))
  purge-exact day =
      ap is_accepted (reply-of (may_purge day) tt ∙ ap (λ (x : Step Model). x.reply.answer) (model-purge o (model_at o few given es ls) day))
      ∙ go (is_date day)
    where
      go : (b : Bool) → is_accepted (if◌then◌else◌ (not b) (refused R.NotADate) (asked_of day es)) ≡ (b && last_keep_before day false (standing (lines_of (length ls.lines) (ledger_bytes ls))))
      go true = rw stands (asked_is o.pixels day es)
      go false = refl

-- the state after the calls of a list, from an accepted opening
module _ (bytes pixels held ledger : List ℕ) (form : Form) (byte : (i : ℕ) → get_or bytes i 0 < 256)
    (opened : OpenedIn bytes pixels held form) (cs : List Call) (counted : AllCounted cs) where
  abbrev pub later : State
  later = (run step cs (opened_state bytes pixels form held ledger)).state

  -- what holds wherever bytes and model are the same holds then, of what the opening feeds the model and of the state
  module _ (P : Opening → State → Type 0) where
    pub by-opening : ((o : Opening) (few : length o.pixels ≤ 2 ^ 24) (given : Given o)
        (f : List ℕ) (ls : Ledger) (es : List Entry) → Same o few given f ls es → P o (state_at o few given f ls)) → P (opening_of bytes pixels form held ledger) later
    unfolding opening_of
    by-opening k =
        let s = start bytes pixels held ledger form byte opened in
        let o : Opening = opening_of bytes pixels form held ledger in
        let r = runs-agree o s.few s.given cs counted s.frame (empty_ledger ledger) [] (first o ledger refl s) in
        subst (P o) (sym (ap (λ (x : State). (run step cs x).state) (at_first o ledger refl s) ∙ r.state)) (k o s.few s.given r.frame r.ledger r.entries r.same)

  pub by-same : (P : State → Type 0) → ((o : Opening) (few : length o.pixels ≤ 2 ^ 24) (given : Given o)
      (f : List ℕ) (ls : Ledger) (es : List Entry) → Same o few given f ls es → P (state_at o few given f ls)) → P later
  by-same P = by-opening (λ o. P)

  -- A withdrawal is refused exactly if no line stands or the ledger is full.
  pub withdrawal-refused : is_accepted (step withdraw later).reply.answer
      ≡ not (eqb (length (standing (lines_of later.lines later.ledger))) 0 || ledger_full later.ledger later.lines)
  withdrawal-refused =
      by-same (λ x. is_accepted (step withdraw x).reply.answer ≡ not (eqb (length (standing (lines_of x.lines x.ledger))) 0 || ledger_full x.ledger x.lines))
      (λ o few given f ls es s. withdraw-exact o few given s)

  -- A purge is allowed exactly if the day asked is a calendar date, a keep line stands and the last one standing has a date before that day.
  pub purge-allowed : (day : Date) → is_accepted (step (may_purge day) later).reply.answer
      ≡ (is_date day && last_keep_before day false (standing (lines_of later.lines later.ledger)))
  purge-allowed day =
      by-same (λ x. is_accepted (step (may_purge day) x).reply.answer ≡ (is_date day && last_keep_before day false (standing (lines_of x.lines x.ledger))))
      (λ o few given f ls es s. purge-exact o few given s day)
