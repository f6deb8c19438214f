-- Calls none of which compacts leave the bytes behind the lines as they were at first.
-- Assumes nothing.
use mathlib.Core.Path.{◌≡◌, refl}
use mathlib.Core.Bool.{false}
use mathlib.Core.List.{List, [], ◌∷◌, ◌++◌}
use Prim.Native.Nat.{ℕ, ◌+◌, ◌*◌}
use native.Mathlib.Omega.{arith}
use lib.ListN.{length, drop, length-append}
use lib.Seq.{drop-drop}
use Rattle.ledger.specs.declared.Line.{Line}
use Rattle.model.specs.Model.{Call, correct, keep, withdraw, amend, compact, may_purge, Answer, accepted, refused, Model, Opening, empty_model, model_step}
use Rattle.model.specs.Ledger.{Ledger, empty_ledger, appended, ledger_by, ledger_after, ledger_run}
use Rattle.model.specs.Theorems.{is_compact, NeverCompact, BehindStays}

-- t was the ledger at first
abbrev Untouched : List ℕ → Ledger → Type 0
Untouched t g = g.behind ≡ drop (length g.lines * 16) t

module _ (t : List ℕ) (o : Opening) where
  untouched-more : (g : Ledger) (ls : List Line) → Untouched t g → Untouched t (appended g ls)
  untouched-more g ls h =
      let e : length g.lines * 16 + length ls * 16 ≡ length (g.lines ++ ls) * 16 = omega (arith, length-append g.lines ls) in
      rw (h, drop-drop, e)

  untouched-by : (m : Model) (c : Call) (g : Ledger) → is_compact c ≡ false → Untouched t g → Untouched t (ledger_by o m c g)
  untouched-by m (correct p k) g n h = untouched-more g _ h
  untouched-by m (keep d) g n h = untouched-more g _ h
  untouched-by m withdraw g n h = untouched-more g _ h
  untouched-by m (amend k) g n h = untouched-more g _ h
  untouched-by m compact g n h = let z : ◌≡◌ {A = ℕ} 0 1 = cc in absurd (omega arith)
  untouched-by m (may_purge d) g n h = h

  untouched-after : (a : Answer) (m : Model) (c : Call) (g : Ledger) → is_compact c ≡ false → Untouched t g → Untouched t (ledger_after o a m c g)
  untouched-after accepted m c g n h = untouched-by m c g n h
  untouched-after (refused r) m c g n h = h

  untouched-run : (cs : List Call) (m : Model) (g : Ledger) → NeverCompact cs → Untouched t g → Untouched t (ledger_run o cs m g)
  unfolding ledger_run
  untouched-run [] m g n h = h
  untouched-run (c ∷ cs) m g n h =
      untouched-run cs (model_step o c m).state (ledger_after o (model_step o c m).reply.answer m c g) n.1 (untouched-after (model_step o c m).reply.answer m c g n.0 h)

pub behind-stays : BehindStays
behind-stays o before cs n = untouched-run before o cs empty_model (empty_ledger before) n refl
