-- The loop over the calls: the state after i of them is that of the run of the first i.
-- Assumes nothing.
use mathlib.Core.Path.{◌≡◌, refl, sym, ap, ◌∙◌}
use mathlib.Core.Bool.{Bool, true, false}
use mathlib.Core.List.{List, [], ◌∷◌, ◌++◌, map-append, append_assoc}
use Prim.Native.Nat.{ℕ, zero, suc, ◌+◌, ◌*◌, ◌/◌, ◌≤◌, ◌<◌}
use native.Mathlib.Nat.{suc-mul}
use native.Mathlib.Omega.{arith}
use native.Mathlib.Numerals.{add-one}
use borrow.Author.Tests.{ltb-true, ltb-false}
use lib.Dec.{ltb}
use lib.ListN.{length, drop, get_or, set, length-map, length-set}
use lib.Seq.{get_or-drop, set_at, drop-cons}
use Rattle.std.specs.Prelude.{if◌then◌else◌}
use Rattle.model.specs.Model as M
use Rattle.model.specs.Model.{Call, run}
use Rattle.model.specs.Run.{State, state_of, step}
use Rattle.model.proofs.Prefix.{run-state, run-replies}
use Rattle.replay.specs.declared.Reply.{Reply}
use Rattle.replay.specs.Replay.{answer_number, reply_of, call_of, calls_from, call_count, played, answer_numbers}

-- call i, in the numbers
abbrev pub call_at : List ℕ → ℕ → Call
call_at t at = call_of (get_or t at 0) (get_or t (at + 1) 0) (get_or t (at + 2) 0) (get_or t (at + 3) 0)

number_at : (t : List ℕ) (i k : ℕ) → get_or (drop 4 t) (i * 4 + k) 0 ≡ get_or t (suc i * 4 + k) 0
number_at t i k =
    let e : 4 + (i * 4 + k) ≡ suc i * 4 + k = omega (arith, suc-mul i 4) in
    get_or-drop 4 t (i * 4 + k) 0 ∙ ap (λ (n : ℕ). get_or t n 0) e

first-at : (t : List ℕ) (i : ℕ) → get_or (drop 4 t) (i * 4) 0 ≡ get_or t (suc i * 4) 0
first-at t i =
    let e : 4 + i * 4 ≡ suc i * 4 = omega (arith, suc-mul i 4) in
    get_or-drop 4 t (i * 4) 0 ∙ ap (λ (n : ℕ). get_or t n 0) e

call-at : (t : List ℕ) (i : ℕ) → call_at (drop 4 t) (i * 4) ≡ call_at t (suc i * 4)
call-at t i =
    ap (λ (x : ℕ). call_of x (get_or (drop 4 t) (i * 4 + 1) 0) (get_or (drop 4 t) (i * 4 + 2) 0) (get_or (drop 4 t) (i * 4 + 3) 0)) (first-at t i)
    ∙ ap (λ (x : ℕ). call_of (get_or t (suc i * 4) 0) x (get_or (drop 4 t) (i * 4 + 2) 0) (get_or (drop 4 t) (i * 4 + 3) 0)) (number_at t i 1)
    ∙ ap (λ (x : ℕ). call_of (get_or t (suc i * 4) 0) (get_or t (suc i * 4 + 1) 0) x (get_or (drop 4 t) (i * 4 + 3) 0)) (number_at t i 2)
    ∙ ap (λ (x : ℕ). call_of (get_or t (suc i * 4) 0) (get_or t (suc i * 4 + 1) 0) (get_or t (suc i * 4 + 2) 0) x) (number_at t i 3)

calls-more : (i : ℕ) (t : List ℕ) → calls_from (suc i) t ≡ calls_from i t ++ (call_at t (i * 4) ∷ [])
unfolding calls_from
calls-more zero t = refl
calls-more (suc i) t = ap (λ (l : List Call). call_at t 0 ∷ l) (calls-more i (drop 4 t) ∙ ap (λ (c : Call). calls_from i (drop 4 t) ++ (c ∷ [])) (call-at t i))

length-calls : (i : ℕ) (t : List ℕ) → length (calls_from i t) ≡ i
unfolding calls_from
length-calls zero t = refl
length-calls (suc i) t = ap suc (length-calls i (drop 4 t))

length-replies : (cs : List Call) (s : State) → length (run step cs s).replies ≡ length cs
unfolding run
length-replies [] s = refl
length-replies (c ∷ cs) s = ap suc (length-replies cs (step c s).state)

module _ (h₀ l₀ : List ℕ) (lines : ℕ) (calls : List ℕ) where
  abbrev pub at_first : State
  at_first = state_of h₀ l₀ lines

  abbrev pub state_at : ℕ → State
  state_at i = (played h₀ l₀ lines calls i).state

  state-more : (i : ℕ) → state_at (suc i) ≡ (step (call_at calls (i * 4)) (state_at i)).state
  unfolding played run
  state-more i = ap (λ (cs : List Call). (run step cs at_first).state) (calls-more i calls) ∙ run-state step (calls_from i calls) (call_at calls (i * 4) ∷ []) at_first

  replies-more : (i : ℕ) → (played h₀ l₀ lines calls (suc i)).replies ≡ (played h₀ l₀ lines calls i).replies ++ ((step (call_at calls (i * 4)) (state_at i)).reply ∷ [])
  unfolding played run
  replies-more i = ap (λ (cs : List Call). (run step cs at_first).replies) (calls-more i calls) ∙ run-replies step (calls_from i calls) (call_at calls (i * 4) ∷ []) at_first

  replies-long : (i : ℕ) → length (answer_numbers (played h₀ l₀ lines calls i).replies) ≡ i
  unfolding played
  replies-long i = length-map (played h₀ l₀ lines calls i).replies _ ∙ length-replies (calls_from i calls) at_first ∙ length-calls i calls

  -- after i of n calls
  pub record Playing (r₀ : List ℕ) (n : ℕ) (h l r : List ℕ) (used i : ℕ) : Type 0 where
    pub upto : i ≤ n
    pub enough : n * 4 ≤ length calls
    pub room : n ≤ length r₀
    pub state : state_of h l used ≡ state_at i
    pub replies : r ≡ answer_numbers (played h₀ l₀ lines calls i).replies ++ drop i r₀
    pub same : length r ≡ length r₀

  pub playing-start : (r₀ : List ℕ) (n : ℕ) → n * 4 ≤ length calls → n ≤ length r₀ → Playing r₀ n h₀ l₀ r₀ lines 0
  unfolding played calls_from run
  playing-start r₀ n e k = record { upto = omega arith; enough = e; room = k; state = refl; replies = refl; same = refl }

  pub playing-more : {r₀ : List ℕ} {n : ℕ} {h l r : List ℕ} {used i : ℕ} (a b : List ℕ) (y : Reply) → Playing r₀ n h l r used i → i < n
      → y ≡ reply_of (step (call_at calls (i * 4)) (state_of h l used)).reply
      → a ≡ (step (call_at calls (i * 4)) (state_of h l used)).state.held
      → b ≡ (step (call_at calls (i * 4)) (state_of h l used)).state.ledger
      → (step (call_at calls (i * 4)) (state_of h l used)).reply.lines ≡ (step (call_at calls (i * 4)) (state_of h l used)).state.lines
      → Playing r₀ n a b (set r i y.refusal) y.lines (i + 1)
  playing-more {r₀} {n} {h} {l} {r} {used} {i} a b y p lt ey ea eb el =
      let c : Call = call_at calls (i * 4) in
      let s : State = state_of h l used in
      let next : (step c s).state ≡ state_at (suc i) =
      ap (λ (x : State). (step (call_at calls (i * 4)) x).state) p.state ∙ sym (state-more i) in
      let given : (step c s).reply ≡ (step (call_at calls (i * 4)) (state_at i)).reply =
      ap (λ (x : State). (step (call_at calls (i * 4)) x).reply) p.state in
      let first : List ℕ = answer_numbers (played h₀ l₀ lines calls i).replies in
      let new : y.refusal ≡ answer_number (step (call_at calls (i * 4)) (state_at i)).reply.answer = ap (λ (x : Reply). x.refusal) ey ∙ ap (λ (x : M.Reply). answer_number x.answer) given in
      let put : set r i y.refusal ≡ answer_numbers (played h₀ l₀ lines calls (suc i)).replies ++ drop (suc i) r₀ =
      ap (λ (x : List ℕ). set x i y.refusal) (p.replies ∙ ap (λ (x : List ℕ). first ++ x) (drop-cons r₀ i 0 (omega (arith, p.room))))
      ∙ set_at first (get_or r₀ i 0) (drop (suc i) r₀) y.refusal i (replies-long i)
      ∙ ap (λ (x : ℕ). first ++ (x ∷ drop (suc i) r₀)) new
      ∙ sym (append_assoc first (answer_number (step (call_at calls (i * 4)) (state_at i)).reply.answer ∷ []) (drop (suc i) r₀))
      ∙ ap (λ (x : List ℕ). x ++ drop (suc i) r₀) (sym (ap answer_numbers (replies-more i) ∙ map-append _ (played h₀ l₀ lines calls i).replies _)) in
      let whole : state_of a b y.lines ≡ (step c s).state = λ k. record { held = ea k; ledger = eb k; lines = (ap (λ (x : Reply). x.lines) ey ∙ el) k } in
      record {
        upto = omega arith;
        enough = p.enough;
        room = p.room;
        state = rw add-one (whole ∙ next);
        replies = rw add-one put;
        same = length-set r i y.refusal ∙ p.same;
      }

-- a call gives the number of lines that the state has after it
pub lines-given : (c : Call) (s : State) → (step c s).reply.lines ≡ (step c s).state.lines
unfolding step
lines-given (M.correct pixel count) s = refl
lines-given (M.keep d) s = refl
lines-given M.withdraw s = refl
lines-given (M.amend count) s = refl
lines-given M.compact s = refl
lines-given (M.may_purge day) s = refl

-- the calls fit both lists
count_fits : (numbers places : ℕ) → (call_count numbers places * 4 ≤ numbers) × (call_count numbers places ≤ places)
unfolding call_count
count_fits numbers places = go (ltb places (numbers / 4)) refl
  where
    go : (t : Bool) → ltb places (numbers / 4) ≡ t → (if◌then◌else◌ t places (numbers / 4) * 4 ≤ numbers) × (if◌then◌else◌ t places (numbers / 4) ≤ places)
    go true e = let h = ltb-true places (numbers / 4) e in (omega arith, omega arith)
    go false e = let h = ltb-false places (numbers / 4) e in (omega arith, omega arith)

pub few-enough : (n numbers places : ℕ) → n ≡ call_count numbers places → (n * 4 ≤ numbers) × (n ≤ places)
few-enough n numbers places e = rw e (count_fits numbers places)

-- after the last call
pub played-all : {h₀ l₀ : List ℕ} {lines : ℕ} {calls r₀ : List ℕ} {n m : ℕ} {h l r : List ℕ} {used i : ℕ} → Playing h₀ l₀ lines calls r₀ n h l r used i → i ≡ n → n ≡ m
    → (used ≡ (played h₀ l₀ lines calls m).state.lines) × (h ≡ (played h₀ l₀ lines calls m).state.held) × (l ≡ (played h₀ l₀ lines calls m).state.ledger)
    × (r ≡ answer_numbers (played h₀ l₀ lines calls m).replies ++ drop m r₀)
played-all {h₀} {l₀} {lines} {calls} {r₀} p e q =
    let s = p.state ∙ ap (state_at h₀ l₀ lines calls) (e ∙ q) in
    (ap (λ (x : State). x.lines) s, ap (λ (x : State). x.held) s, ap (λ (x : State). x.ledger) s, p.replies ∙ ap (λ (k : ℕ). answer_numbers (played h₀ l₀ lines calls k).replies ++ drop k r₀) (e ∙ q))
