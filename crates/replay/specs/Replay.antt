-- A list of calls in numbers, made on real bytes: the run that the theorem of demand 3 is about.
use Rattle.refusal.specs.declared.Refusal.{Refusal}
use Rattle.std.specs.Prelude.{ℕ, zero, suc, ◌/◌, List, [], ◌∷◌, map, drop, get_or, eqb, ltb, if◌then◌else◌, Result}
use Rattle.refusal.specs.Codes.{refusal_number}
use Rattle.calendar.specs.declared.Date.{Date}
use Rattle.model.specs.Model as M
use Rattle.model.specs.Model.{Call, correct, keep, withdraw, amend, compact, may_purge, Answer, accepted, refused, Ran, run}
use Rattle.model.specs.Run.{State, state_of, step, answered, lines_after}
use Rattle.replay.specs.declared.Reply.{Reply}

-- 0, or the refusal's number
abbrev pub answer_number : Answer → ℕ
answer_number accepted = 0
answer_number (refused r) = refusal_number r

abbrev pub reply_of : M.Reply → Reply
reply_of r = record { refusal = answer_number r.answer; lines = r.lines }

abbrev pub ledger_reply : ℕ → Result ℕ Refusal → Reply
ledger_reply lines a = reply_of (record { answer = answered a; lines = lines_after lines a })

-- a call in four numbers
abbrev pub date_of : ℕ → ℕ → ℕ → Date
date_of a b c = record { year = a; month = b; day = c }

unfoldable pub call_of : ℕ → ℕ → ℕ → ℕ → Call
call_of kind a b c =
    if eqb kind 0 then correct a b else
    if eqb kind 1 then keep (date_of a b c) else
    if eqb kind 2 then withdraw else
    if eqb kind 3 then amend b else
    if eqb kind 4 then compact else
    may_purge (date_of a b c)

-- the first n calls
unfoldable pub calls_from : ℕ → List ℕ → List Call
unfolding call_of
calls_from zero t = []
calls_from (suc n) t = call_of (get_or t 0 0) (get_or t 1 0) (get_or t 2 0) (get_or t 3 0) ∷ calls_from n (drop 4 t)

-- as many calls as there are four numbers for and places for replies
unfoldable pub call_count : ℕ → ℕ → ℕ
call_count numbers places = if ltb places (numbers / 4) then places else numbers / 4

-- the first n calls, made
unfoldable pub played : List ℕ → List ℕ → ℕ → List ℕ → ℕ → Ran State
unfolding calls_from step run
played held ledger lines calls n = run step (calls_from n calls) (state_of held ledger lines)

abbrev pub answer_numbers : List M.Reply → List ℕ
answer_numbers rs = map (λ (r : M.Reply). answer_number r.answer) rs
