-- Request A11 over further calls: withdrawals that take the named line leave an earlier one named, or none; compaction leaves the same one named; and the held
-- frame has the count that the answer for a pixel says.
-- Assumes nothing.
use Rattle.ledger.specs.Standing.{line_found}
use Rattle.ledger.specs.declared.Found.{Found}
use mathlib.Core.Path.{◌≡◌, refl, sym, ap, ◌∙◌}
use mathlib.Core.Bool.{Bool, true, false, not}
use mathlib.Core.List.{List, [], ◌∷◌, ◌++◌, append_assoc, append-nil}
use Prim.Native.Nat.{ℕ, zero, suc, ◌^◌, ◌≤◌, ◌<◌}
use native.Mathlib.Omega.{arith}
use lib.ListN.{length, get_or}
use lib.Seq.{get_or-set_same, get_or-set_other}
use lib.Dec.{eqb}
use borrow.Author.Tests.{ne_eqb, eqb-true, eqb-false}
use Rattle.std.specs.Prelude.{if◌then◌else◌, Some, Err, None, Option, Ok}
use Rattle.refusal.specs.declared.Refusal.TheVariants as R
use Rattle.layout.specs.declared.Form.{Form}
use Rattle.calendar.specs.declared.Date.{Date}
use Rattle.calendar.specs.Calendar.{is_date, before}
use Rattle.ledger.specs.declared.Line.{Line}
use Rattle.ledger.specs.Lines.{lines_of}
use Rattle.ledger.specs.Standing.{keeps, corrects, last_standing}
use Rattle.ledger.specs.Ledger.{ledger_malformed}
use Rattle.ledger.proofs.Packing.{line-of-bytes}
use Rattle.ledger.proofs.StandingLaws.{stack}
use Rattle.ledger.proofs.Appending.{ledger-appended, found_lines, first_where, last-is-top}
use Rattle.compaction.proofs.Alike.{Alike, alike-last}
use Rattle.archive.specs.Calls.{withdrawal_line}
use Rattle.archive.proofs.Outcomes.{withdraw-view, back-answer, back-ledger}
use Rattle.why.specs.declared.Numbered.{Numbered}
use Rattle.why.specs.declared.DayAnswer.TheVariants as D
use Rattle.why.specs.Why.{numbered, day_by, day_reason, pixel_by, pixel_reason}
use Rattle.why.specs.Theorems.{number_in, stands_at}
use Rattle.why.proofs.Deciding.{named_in, found-decides, AllWithdraw, number-falls}
use Rattle.why.proofs.Answers.{Names, day-tests, pixel-tests, day-by, pixel-by, day-named, pixel-named}
use Rattle.model.specs.Model.{Call, withdraw, accepted, run, Entry, corrected, kept, Opening, pixels_with}
use Rattle.model.specs.Ledger.{Ledger, ledger_bytes}
use Rattle.layout.specs.Layout.{frame_read}
use Rattle.opening.specs.Open.{opened, open_answer}
use Rattle.model.specs.Run.{State, step, opening_of, AllCounted, OpenedIn, in-asked}
use Rattle.model.specs.Theorems.{lines_at, withdrawals, AllAccepted, DayEarlier, PixelEarlier, day_unnumbered, pixel_unnumbered, ReasonsUnobservable, count_said, CountsExplained}
use Rattle.model.proofs.Held.{Given, held-pixels}
use Rattle.model.proofs.Accepted.{taken, withdrawal-sized, withdrawal-writable, read-as, line-more, last-top}
use Rattle.model.proofs.Agree.{line_stack, length-with, good-pixels, Same, state_at}
use Rattle.model.proofs.Compacted.{same-found, compacted-equivalent}
use Rattle.model.proofs.Exactly.{later, by-opening}

-- A withdrawal that is accepted.

-- one accepted withdrawal on a ledger that is well formed: its line is appended, and the ledger stays so
record Drawn (s u : State) : Type 0 where
  more : List Line
  withdraw : AllWithdraw more
  lines : lines_at u ≡ lines_at s ++ more
  well : ledger_malformed s.ledger s.lines ≡ false → ledger_malformed u.ledger u.lines ≡ false

drawn-one : (s : State) → (step withdraw s).reply.answer ≡ accepted → Drawn s (step withdraw s).state
unfolding step
drawn-one s e =
    let h : List ℕ = s.held in
    let t : List ℕ = s.ledger in
    let n : ℕ = s.lines in
    let w = taken h t n (withdraw-view h t n) e in
    let answer = back-answer h t n w.back in
    let ledger = back-ledger h t n w.back in
    let top = last-top (lines_of n t) w.index w.line w.last in
    let right = line-of-bytes withdrawal_line withdrawal-sized withdrawal-writable.right in
    record {
      more = withdrawal_line ∷ [];
      withdraw = (refl, tt);
      lines = rw (answer, ledger) (line-more t n w.room withdrawal-writable);
      well = λ well. rw (answer, ledger) (ledger-appended t n withdrawal_line w.room
          ∙ rw (well, right, read-as withdrawal-writable, ne_eqb (length (stack [] (lines_of n t))) 0 (λ z. omega (arith, ap length top.is))));
    }

drawn : (count : ℕ) (s : State) → AllAccepted (run step (withdrawals count) s).replies → Drawn s (run step (withdrawals count) s).state
unfolding run
drawn zero s a = record { more = []; withdraw = tt; lines = sym (append-nil (lines_at s)); well = λ w. w }
drawn (suc count) s a =
    let one = drawn-one s a.0 in
    let rest = drawn count (step withdraw s).state a.1 in
    record {
      more = one.more ++ rest.more;
      withdraw = all_more one.more rest.more one.withdraw rest.withdraw;
      lines = rest.lines ∙ rw one.lines (append_assoc (lines_at s) one.more rest.more);
      well = λ w. rest.well (one.well w);
    }
  where
    all_more : (xs ys : List Line) → AllWithdraw xs → AllWithdraw ys → AllWithdraw (xs ++ ys)
    all_more [] ys a b = b
    all_more (x ∷ xs) ys a b = (a.0, all_more xs ys a.1 b)

-- the number of the last standing line that passes a test falls
falls : (test : Line → Bool) {s u : State} → Drawn s u → (d : Numbered) (index : ℕ) → Names test s.ledger s.lines d → d.number ≡ suc index
    → stands_at test index (lines_at u) ≡ false → number_in (named_in (last_standing test 0 (lines_at u))) < d.number
falls test {s} {u} w d index names number gone =
    let r = found-decides test (lines_at s) d names.found in
    let same : index ≡ r.index = omega (arith, r.number) in
    rw w.lines (number-falls test (lines_at s) w.more w.withdraw d r (rw (same, w.lines) at gone))

pub day-earlier : DayEarlier
day-earlier day s d index count named number accept gone =
    let w = drawn count s accept in
    let u : State = (run step (withdrawals count) s).state in
    let k = day-named s.ledger s.lines day d named in
    let well = w.well k.0.well in
    (well, rw (day-tests u.ledger u.lines day, well, k.1, day-by day (last_standing keeps 0 (lines_at u))) (falls keeps w d index k.0 number gone))

pub pixel-earlier : PixelEarlier
pixel-earlier pixel s d index count named number accept gone =
    let w = drawn count s accept in
    let u : State = (run step (withdrawals count) s).state in
    let k = pixel-named s.ledger s.lines pixel d named in
    let well = w.well k.well in
    (well, rw (pixel-tests u.ledger u.lines pixel, well, pixel-by (last_standing (corrects pixel) 0 (lines_at u))) (falls (corrects pixel) w d index k number gone))

-- Compaction.

same-day : {t u : List ℕ} {n k : ℕ} → Alike t n u k → (day : Date) → day_unnumbered (day_reason u k day) ≡ day_unnumbered (day_reason t n day)
same-day {t} {u} {n} {k} a day = rw (day-tests t n day, day-tests u k day, a.malformed) (go (ledger_malformed t n) (not (is_date day)))
  where
    one : (i : ℕ) (l : Line) → day_unnumbered (day_by day (Some (line_found i l))) ≡ day_unnumbered (day_by day (Some (line_found 0 l)))
    one i l = by (before l.date day)
      where
        by : (b : Bool) → day_unnumbered (if◌then◌else◌ b (Ok (D.Allowed (numbered i l))) (Ok (D.NotYet (numbered i l)))) ≡ day_unnumbered (if◌then◌else◌ b (Ok (D.Allowed (numbered 0 l))) (Ok (D.NotYet (numbered 0 l))))
        by true = refl
        by false = refl

    go : (b c : Bool)
        → day_unnumbered (if◌then◌else◌ b (Err R.LedgerMalformed) (if◌then◌else◌ c (Err R.NotADate) (day_by day (last_standing keeps 0 (lines_of k u)))))
        ≡ day_unnumbered (if◌then◌else◌ b (Err R.LedgerMalformed) (if◌then◌else◌ c (Err R.NotADate) (day_by day (last_standing keeps 0 (lines_of n t)))))
    go true c = refl
    go false true = refl
    go false false = same-found (λ f. day_unnumbered (day_by day f)) (λ l. day_unnumbered (day_by day (Some (line_found 0 l)))) one (last_standing keeps 0 (lines_of n t)) (last_standing keeps 0 (lines_of k u)) (alike-last a keeps)

same-pixel : {t u : List ℕ} {n k : ℕ} → Alike t n u k → (pixel : ℕ) → pixel_unnumbered (pixel_reason u k pixel) ≡ pixel_unnumbered (pixel_reason t n pixel)
same-pixel {t} {u} {n} {k} a pixel = rw (pixel-tests t n pixel, pixel-tests u k pixel, a.malformed) (go (ledger_malformed t n))
  where
    go : (b : Bool)
        → pixel_unnumbered (if◌then◌else◌ b (Err R.LedgerMalformed) (pixel_by (last_standing (corrects pixel) 0 (lines_of k u))))
        ≡ pixel_unnumbered (if◌then◌else◌ b (Err R.LedgerMalformed) (pixel_by (last_standing (corrects pixel) 0 (lines_of n t))))
    go true = refl
    go false =
        same-found (λ f. pixel_unnumbered (pixel_by f)) (λ l. pixel_unnumbered (pixel_by (Some (line_found 0 l)))) (λ i l. refl)
        (last_standing (corrects pixel) 0 (lines_of n t)) (last_standing (corrects pixel) 0 (lines_of k u)) (alike-last a (corrects pixel))

pub reasons-unobservable : ReasonsUnobservable
reasons-unobservable s = (same-day (compacted-equivalent s).alike, same-pixel (compacted-equivalent s).alike)

-- The held frame's counts.

-- the new count of the first line, if there is one
abbrev new_in : List Line → ℕ → ℕ
new_in [] opened = opened
new_in (l ∷ ls) opened = l.new

said-found : (f : Option Found) (opened : ℕ) → count_said (pixel_by f) opened ≡ new_in (found_lines f) opened ∷ []
said-found None opened = refl
said-found (Some fd) opened = refl

-- the stack's uppermost correction of a pixel says its count
set-by : (opened : List ℕ) (p : ℕ) → p < length opened → (es : List Entry) → new_in (first_where (corrects p) (line_stack opened es)) (get_or opened p 0) ≡ get_or (pixels_with opened es) p 0
unfolding pixels_with line_stack
set-by opened p h [] = refl
set-by opened p h (kept d ∷ es) = set-by opened p h es
set-by opened p h (corrected q c ∷ es) = go (eqb q p) refl (set-by opened p h es)
  where
    go : (b : Bool) → eqb q p ≡ b → new_in (first_where (corrects p) (line_stack opened es)) (get_or opened p 0) ≡ get_or (pixels_with opened es) p 0
        → new_in (first_where (corrects p) (line_stack opened (corrected q c ∷ es))) (get_or opened p 0) ≡ get_or (pixels_with opened (corrected q c ∷ es)) p 0
    go true e ih =
        let l = length-with opened es in
        rw (e, eqb-true q p e) (sym (get_or-set_same (pixels_with opened es) p c 0 (omega arith)))
    go false e ih = rw (e, get_or-set_other (pixels_with opened es) q p c 0 (λ z. eqb-false q p e (sym z))) ih

module _ (o : Opening) (few : length o.pixels ≤ 2 ^ 24) (given : Given o) where
  explained : {f : List ℕ} {ls : Ledger} {es : List Entry} → Same o few given f ls es → CountsExplained o.pixels (state_at o few given f ls)
  explained {f} {ls} {es} q p h =
      let px = held-pixels o (pixels_with o.pixels es) f (good-pixels o es q.good) q.fits given in
      rw (px, pixel-tests (ledger_bytes ls) (length ls.lines) p, q.holds.well, q.holds.read, said-found (last_standing (corrects p) 0 ls.lines) (get_or o.pixels p 0), last-is-top (corrects p) 0 ls.lines, q.top)
      (ap (λ (c : ℕ). c ∷ []) (set-by o.pixels p h es))

-- after every list of calls from an accepted opening
pub counts-explained-opened : (bytes pixels held ledger : List ℕ) (form : Form) (byte : (i : ℕ) → get_or bytes i 0 < 256)
    (opened : OpenedIn bytes pixels held form) (cs : List Call) (counted : AllCounted cs)
    → CountsExplained (opening_of bytes pixels form held ledger).pixels (later bytes pixels held ledger form byte opened cs counted)
counts-explained-opened bytes pixels held ledger form byte opened cs counted =
    by-opening bytes pixels held ledger form byte opened cs counted (λ o s. CountsExplained o.pixels s)
    (λ o few given f ls es same. explained o few given same)

-- where the form was asked for
pub counts-explained : (bytes pixels held ledger : List ℕ) (form : Form) (rows columns end n : ℕ) (byte : (i : ℕ) → get_or bytes i 0 < 256)
    (opened : open_answer bytes pixels (Some form) (length held) ≡ Ok (opened (frame_read rows columns end) (Ok n))) (cs : List Call) (counted : AllCounted cs)
    → CountsExplained (opening_of bytes pixels form held ledger).pixels (later bytes pixels held ledger form byte (in-asked rows columns end n opened) cs counted)
counts-explained bytes pixels held ledger form rows columns end n byte opened cs counted =
    counts-explained-opened bytes pixels held ledger form byte (in-asked rows columns end n opened) cs counted
