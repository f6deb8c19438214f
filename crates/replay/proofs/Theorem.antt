-- Demand 3 of the running function: what `replay` makes of an opened frame and a ledger of no lines is what the reference model gives.
-- Assumes nothing.
use mathlib.Core.Path.{◌≡◌}
use mathlib.Core.Bool.{Bool, true, false}
use mathlib.Core.List.{List}
use Prim.Native.Nat.{ℕ, zero, suc, ◌+◌, ◌<◌}
use lib.Dec.{eqb}
use lib.ListN.{length, get_or, drop}
use lib.Seq.{get_or-drop}
use Rattle.std.specs.Prelude.{if◌then◌else◌, Some, Ok}
use Rattle.layout.specs.declared.Form.{Form}
use Rattle.layout.specs.Layout.{frame_read}
use Rattle.opening.specs.Open.{opened, open_answer, open_held}
use Rattle.model.specs.Model.{correct, keep, withdraw, amend, compact, may_purge, run, model_step, empty_model}
use Rattle.model.specs.Run.{opening_of, OpenedIn, in-asked, Counted, AllCounted}
use Rattle.model.specs.Demand3.{Agreement}
use Rattle.model.proofs.Demand3.{demand3-opened}
use Rattle.replay.specs.Replay.{date_of, call_of, calls_from, played}

-- the counts of calls in numbers of 32 bits have 32 bits
call-counted : (kind a b c : ℕ) → b < 4294967296 → Counted (call_of kind a b c)
unfolding call_of
call-counted kind a b c h = go (eqb kind 0) (eqb kind 1) (eqb kind 2) (eqb kind 3) (eqb kind 4)
  where
    go : (p q r s t : Bool)
        → Counted (if◌then◌else◌ p (correct a b) (if◌then◌else◌ q (keep (date_of a b c)) (if◌then◌else◌ r withdraw (if◌then◌else◌ s (amend b) (if◌then◌else◌ t compact (may_purge (date_of a b c)))))))
    go true q r s t = h
    go false true r s t = tt
    go false false true s t = tt
    go false false false true t = h
    go false false false false true = tt
    go false false false false false = tt

all-counted : (n : ℕ) (t : List ℕ) → ((i : ℕ) → get_or t i 0 < 4294967296) → AllCounted (calls_from n t)
unfolding calls_from AllCounted
all-counted zero t h = tt
all-counted (suc n) t h = (call-counted (get_or t 0 0) (get_or t 1 0) (get_or t 2 0) (get_or t 3 0) (h 2), all-counted n (drop 4 t) (λ i. rw get_or-drop (h (4 + i))))

-- after either opening
pub replay-agrees-opened : (bytes pixels held ledger calls : List ℕ) (form : Form) (n : ℕ)
    → ((i : ℕ) → get_or bytes i 0 < 256)
    → ((i : ℕ) → get_or calls i 0 < 4294967296)
    → OpenedIn bytes pixels held form
    → (let o = opening_of bytes pixels form held ledger in
    Agreement o ledger (calls_from n calls) (played (open_held bytes pixels (Some form) held) ledger 0 calls n) (run (model_step o) (calls_from n calls) empty_model))
unfolding played
replay-agrees-opened bytes pixels held ledger calls form n byte word opened =
    demand3-opened bytes pixels held ledger form byte opened (calls_from n calls) (all-counted n calls word)

-- where the form was asked for
pub replay-agrees : (bytes pixels held ledger calls : List ℕ) (form : Form) (rows columns end length-held n : ℕ)
    → ((i : ℕ) → get_or bytes i 0 < 256)
    → ((i : ℕ) → get_or calls i 0 < 4294967296)
    → open_answer bytes pixels (Some form) (length held) ≡ Ok (opened (frame_read rows columns end) (Ok length-held))
    → (let o = opening_of bytes pixels form held ledger in
    Agreement o ledger (calls_from n calls) (played (open_held bytes pixels (Some form) held) ledger 0 calls n) (run (model_step o) (calls_from n calls) empty_model))
replay-agrees bytes pixels held ledger calls form rows columns end length-held n byte word opened =
    replay-agrees-opened bytes pixels held ledger calls form n byte word (in-asked rows columns end length-held opened)
