-- Request A6: amending, where it is accepted, is a withdrawal and then a correction of the same pixel, in the model and on real bytes.
-- Assumes nothing.
use Rattle.ledger.specs.Standing.{line_found}
use Rattle.refusal.specs.declared.Refusal.{Refusal}
use mathlib.Core.Path.{◌≡◌, refl, sym, ap, ◌∙◌}
use mathlib.Core.Bool.{Bool, true, false}
use mathlib.Core.List.{List, [], ◌∷◌}
use Prim.Native.Nat.{ℕ, ◌+◌, ◌/◌, ◌^◌, ◌≤◌, ◌<◌}
use native.Mathlib.Omega.{arith}
use lib.ListN.{length, get_or, set}
use lib.Dec.{leb}
use borrow.Author.Tests.{leb-false, lt-leb}
use Rattle.std.specs.Prelude.{if◌then◌else◌, Err, Ok, Result, Some, ℕ}
use Rattle.refusal.specs.declared.Refusal.TheVariants as R
use Rattle.layout.specs.declared.Form.{Form}
use Rattle.calendar.specs.declared.Date.{Date}
use Rattle.ledger.specs.declared.Line.{Line}
use Rattle.ledger.specs.Lines.{lines_of}
use Rattle.ledger.specs.Standing.{last_standing, any_line}
use Rattle.ledger.proofs.Appending.{found_lines}
use Rattle.archive.specs.Calls.{correction_line, withdrawal_line}
use Rattle.model.specs.Model.{Call, correct, withdraw, amend, accepted, refused, Reply, Step, run, Entry, corrected, kept, Model, Opening, pixels_with, refuse, accept, corrected_by, written, model_step}
use Rattle.model.specs.Ledger.{Ledger, ledger_bytes, ledger_after, ledger_run}
use Rattle.layout.specs.Layout.{frame_read}
use Rattle.opening.specs.Open.{opened, open_answer}
use Rattle.model.specs.Run.{step, AllCounted, OpenedIn, in-asked}
use Rattle.model.specs.Theorems.{back_and_anew, TwoSteps, AmendIsTwo, AmendLeavesTwo}
use Rattle.model.proofs.Held.{Given, same-frame}
use Rattle.model.proofs.Appending.{appended_then}
use Rattle.model.proofs.Agree.{line_stack, Same, state_at, model_at, step-agrees, runs-agree, found-last, model-correct, model-withdraw, model-amend}
use Rattle.model.proofs.Exactly.{later, by-same}

abbrev model_of : List Entry → ℕ → Model
model_of es n = record { stack = es; lines = n }

module _ (o : Opening) (p k c n : ℕ) (es : List Entry) (there : p < length o.pixels) where
  abbrev m : Model
  m = model_of (corrected p k ∷ es) n

  amend-is : model_step o (amend c) m
      ≡ if◌then◌else◌ (leb (o.ledger_length / 16) (n + 1)) (refuse m R.LedgerFull) (corrected_by m (n + 2) es p c (written o (set (pixels_with o.pixels es) p c)))
  amend-is = model-amend o m c

  withdraw-is : model_step o withdraw m ≡ if◌then◌else◌ (leb (o.ledger_length / 16) n) (refuse m R.LedgerFull) (accept (n + 1) es)
  withdraw-is = model-withdraw o m

  correct-is : model_step o (correct p c) (model_of es (n + 1))
      ≡ if◌then◌else◌ (leb (o.ledger_length / 16) (n + 1)) (refuse (model_of es (n + 1)) R.LedgerFull) (corrected_by (model_of es (n + 1)) (n + 1 + 1) es p c (written o (set (pixels_with o.pixels es) p c)))
  correct-is = model-correct o (model_of es (n + 1)) p c ∙ rw (lt-leb (length o.pixels) p there)

  made : (x : Result ℕ Refusal) → leb (o.ledger_length / 16) (n + 1) ≡ false → written o (set (pixels_with o.pixels es) p c) ≡ x
      → (corrected_by m (n + 2) es p c x).reply.answer ≡ accepted → TwoSteps o m p c
  unfolding run ledger_run
  made (Err r) f g q = let z : ◌≡◌ {A = ℕ} 0 1 = cc in absurd (omega arith)
  made (Ok l) f g q =
      let e : n + 1 + 1 ≡ n + 2 = omega arith in
      let room : n + 1 < o.ledger_length / 16 = leb-false (o.ledger_length / 16) (n + 1) f in
      let first : model_step o withdraw m ≡ accept (n + 1) es = withdraw-is ∙ rw (lt-leb (o.ledger_length / 16) n (omega arith)) in
      let second : model_step o (correct p c) (model_of es (n + 1)) ≡ accept (n + 2) (corrected p c ∷ es) = correct-is ∙ rw (f, g, e) in
      let both : model_step o (amend c) m ≡ accept (n + 2) (corrected p c ∷ es) = amend-is ∙ rw (f, g) in
      record {
        state = rw (first, second, both);
        replies = rw (first, second);
        ledger = λ g. rw (first, second, both) (appended_then g (withdrawal_line ∷ []) (correction_line p (get_or (pixels_with o.pixels es) p 0) c ∷ []));
      }

  two_steps : (model_step o (amend c) m).reply.answer ≡ accepted → TwoSteps o m p c
  two_steps a = free (leb (o.ledger_length / 16) (n + 1)) refl (written o (set (pixels_with o.pixels es) p c)) refl
    where
      free : (b : Bool) → leb (o.ledger_length / 16) (n + 1) ≡ b → (x : Result ℕ Refusal) → written o (set (pixels_with o.pixels es) p c) ≡ x → TwoSteps o m p c
      free true f x g =
          let is : model_step o (amend c) m ≡ refuse m R.LedgerFull = amend-is ∙ rw f in
          let q : refused R.LedgerFull ≡ accepted = sym (ap (λ (s : Step Model). s.reply.answer) is) ∙ a in
          let z : ◌≡◌ {A = ℕ} 0 1 = cc in absurd (omega arith)
      free false f x g =
          let is : model_step o (amend c) m ≡ corrected_by m (n + 2) es p c x = amend-is ∙ rw (f, g) in
          made x f g (sym (ap (λ (s : Step Model). s.reply.answer) is) ∙ a)

pub amend-is-two : (o : Opening) → AmendIsTwo o
amend-is-two o p k c n es there = two_steps o p k c n es there

-- on real bytes

one-call : (o : Opening) (c : Call) (m : Model) (g : Ledger) → ledger_run o (c ∷ []) m g ≡ ledger_after o (model_step o c m).reply.answer m c g
unfolding ledger_run
one-call o c m g = refl

module _ (o : Opening) (few : length o.pixels ≤ 2 ^ 24) (given : Given o) (c : ℕ) (small : c < 4294967296) where
  -- from a state whose top entry is a correction
  two-top : {f : List ℕ} {ls : Ledger} (p k : ℕ) (es : List Entry) (s : Same o few given f ls (corrected p k ∷ es))
      → (step (amend c) (state_at o few given f ls)).reply.answer ≡ accepted
      → (run step (back_and_anew p c) (state_at o few given f ls)).state ≡ (step (amend c) (state_at o few given f ls)).state
  unfolding AllCounted
  two-top {f} {ls} p k es s a =
      let m : Model = model_at o few given (corrected p k ∷ es) ls in
      let q = step-agrees o few given (amend c) small s in
      let r = runs-agree o few given (back_and_anew p c) (tt, (small, tt)) f ls (corrected p k ∷ es) s in
      let two = two_steps o p k c (length ls.lines) es s.good.0 (sym (ap (λ (x : Reply). x.answer) q.reply) ∙ a) in
      let models : model_at o few given r.entries r.ledger ≡ model_at o few given q.entries q.ledger = sym r.model ∙ two.state ∙ q.model in
      let entries : r.entries ≡ q.entries = ap (λ (x : Model). x.stack) models in
      let ledgers : r.ledger ≡ q.ledger = r.added ∙ two.ledger ls ∙ one-call o (amend c) m ls ∙ sym q.added in
      let frames : r.frame ≡ q.frame = same-frame o (pixels_with o.pixels q.entries) r.frame q.frame (rw entries at r.same.fits) q.same.fits in
      r.state ∙ rw (ledgers, frames) (sym q.state)

  kept-refuses : (n : ℕ) (d : Date) (es : List Entry) → (model_step o (amend c) (model_of (kept d ∷ es) n)).reply.answer ≡ accepted → ⊥
  kept-refuses n d es a =
      let q : refused R.LastIsKeep ≡ accepted = sym (ap (λ (s : Step Model). s.reply.answer) (model-amend o (model_of (kept d ∷ es) n) c)) ∙ a in
      let z : ◌≡◌ {A = ℕ} 0 1 = cc in omega arith

  two_from : {f : List ℕ} {ls : Ledger} (es : List Entry) (s : Same o few given f ls es) (i : ℕ) (l : Line)
      → last_standing any_line 0 (lines_of (length ls.lines) (ledger_bytes ls)) ≡ Some (line_found i l)
      → (step (amend c) (state_at o few given f ls)).reply.answer ≡ accepted
      → (run step (back_and_anew l.pixel c) (state_at o few given f ls)).state ≡ (step (amend c) (state_at o few given f ls)).state
  unfolding line_stack
  two_from {f} {ls} [] s i l e a =
      let q : l ∷ [] ≡ [] = sym (ap found_lines e) ∙ found-last o few given s in
      let z : ◌≡◌ {A = ℕ} 0 1 = cc in absurd (omega arith)
  two_from {f} {ls} (kept d ∷ es) s i l e a =
      absurd (kept-refuses (length ls.lines) d es (sym (ap (λ (x : Reply). x.answer) (step-agrees o few given (amend c) small s).reply) ∙ a))
  two_from {f} {ls} (corrected p k ∷ es) s i l e a =
      let q : l ∷ [] ≡ correction_line p (get_or (pixels_with o.pixels es) p 0) k ∷ [] = sym (ap found_lines e) ∙ found-last o few given s in
      let same : l ≡ correction_line p (get_or (pixels_with o.pixels es) p 0) k = cc in
      rw same (two-top p k es s a)

-- after every list of calls from an accepted opening
pub amend-leaves-two-opened : (bytes pixels held ledger : List ℕ) (form : Form) (byte : (i : ℕ) → get_or bytes i 0 < 256)
    (opened : OpenedIn bytes pixels held form) (cs : List Call) (counted : AllCounted cs)
    → AmendLeavesTwo (later bytes pixels held ledger form byte opened cs counted)
amend-leaves-two-opened bytes pixels held ledger form byte opened cs counted =
    by-same bytes pixels held ledger form byte opened cs counted AmendLeavesTwo
    (λ o few given f ls es s c small i l. two_from o few given c small es s i l)

-- where the form was asked for
pub amend-leaves-two : (bytes pixels held ledger : List ℕ) (form : Form) (rows columns end n : ℕ) (byte : (i : ℕ) → get_or bytes i 0 < 256)
    (opened : open_answer bytes pixels (Some form) (length held) ≡ Ok (opened (frame_read rows columns end) (Ok n))) (cs : List Call) (counted : AllCounted cs)
    → AmendLeavesTwo (later bytes pixels held ledger form byte (in-asked rows columns end n opened) cs counted)
amend-leaves-two bytes pixels held ledger form rows columns end n byte opened cs counted =
    amend-leaves-two-opened bytes pixels held ledger form byte (in-asked rows columns end n opened) cs counted
