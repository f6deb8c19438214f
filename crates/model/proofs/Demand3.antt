-- The proof of demand 3 (specs/Demand3.antt).
-- Assumes nothing.
use Rattle.std.specs.Prelude.{Some, Ok}
use mathlib.Core.Path.{◌≡◌, refl, sym, ◌∙◌}
use mathlib.Core.List.{List, [], ◌∷◌, map, reverse, reverse-cons, map-append}
use Prim.Native.Nat.{ℕ, ◌<◌}
use lib.ListN.{length, get_or}
use Rattle.layout.specs.declared.Form.{Form}
use Rattle.layout.specs.Layout.{frame_read}
use Rattle.opening.specs.Open.{opened, open_answer}
use Rattle.lists.specs.Bytes.{held_bytes}
use Rattle.ledger.specs.Lines.{lines_of, lines_bytes}
use Rattle.ledger.proofs.StandingLaws.{stack, standing-is}
use Rattle.model.specs.Model.{Call, run, Entry, corrected, kept, Opening, empty_model, pixels_with, model_step, seen_line, seen_entry}
use Rattle.model.specs.Ledger.{ledger_bytes, empty_ledger, ledger_run}
use Rattle.model.specs.Run.{State, state_of, step, opening_of, in-asked, opened_state, AllCounted}
use Rattle.model.specs.Demand3.{Agreement, Demand3}
use Rattle.model.proofs.Held.{held-form}
use Rattle.model.proofs.Appending.{holds-none}
use Rattle.model.proofs.Agree.{line_stack, Same, good-pixels, runs-agree}
use Rattle.model.proofs.Opened.{Start, start}

-- the lines of a stack are seen as its entries
seen-stack : (opened : List ℕ) (es : List Entry) → map seen_line (line_stack opened es) ≡ map seen_entry es
unfolding line_stack
seen-stack opened [] = refl
seen-stack opened (corrected p c ∷ es) = rw (seen-stack opened es)
seen-stack opened (kept d ∷ es) = rw (seen-stack opened es)

map-reverse : {A B : Type 0} (g : A → B) (l : List A) → map g (reverse l) ≡ reverse (map g l)
map-reverse g [] = refl
map-reverse g (x ∷ l) = rw (reverse-cons x l, map-append, map-reverse g l, reverse-cons (g x) (map g l))

module _ (o : Opening) (t : List ℕ) (size : length t ≡ o.ledger_length) {held : List ℕ} (s : Start o held) where
  pub first : Same o s.few s.given s.frame (empty_ledger t) []
  unfolding stack line_stack pixels_with
  first = record { fits = s.fits; holds = rw (← size) (holds-none t); top = refl; good = (s.pixels, record { frame = s.frame; fits = s.fits }) }

  agreement : (cs : List Call) → AllCounted cs → Agreement o t cs (run step cs (state_of (held_bytes o.held_length s.frame) (ledger_bytes (empty_ledger t)) 0)) (run (model_step o) cs empty_model)
  agreement cs counted =
      let r = runs-agree o s.few s.given cs counted s.frame (empty_ledger t) [] first in
      let e : r.ledger ≡ ledger_run o cs empty_model (empty_ledger t) = r.added in
      let read : lines_of (length r.ledger.lines) (ledger_bytes r.ledger) ≡ r.ledger.lines = r.same.holds.read in
      record {
        replies = r.replies;
        lines = rw (r.state, r.model);
        frame = r.frame;
        frame_is = rw r.model r.same.fits.made;
        frame-fits = r.same.fits.room;
        held = rw r.state;
        form-named = rw r.state (held-form o (pixels_with o.pixels r.entries) r.frame (good-pixels o r.entries r.same.good) r.same.fits s.given);
        ledger = rw (r.state, ← e);
        ledger-size = rw r.state (r.same.holds.size ∙ sym size);
        read = rw (r.state, ← e) read;
        stands = rw (r.state, r.model, read, standing-is, r.same.top, map-reverse, seen-stack, map-reverse);
      }

  pub at_first : state_of held t 0 ≡ state_of (held_bytes o.held_length s.frame) (ledger_bytes (empty_ledger t)) 0
  unfolding ledger_bytes lines_bytes
  at_first = rw s.held-is

  from : (x : State) → x ≡ state_of (held_bytes o.held_length s.frame) (ledger_bytes (empty_ledger t)) 0 → (cs : List Call) → AllCounted cs → Agreement o t cs (run step cs x) (run (model_step o) cs empty_model)
  from x e cs counted = rw e (agreement cs counted)

pub demand3-opened : Demand3
unfolding opening_of
demand3-opened bytes pixels held ledger form byte opened cs counted =
    let s = start bytes pixels held ledger form byte opened in
    let o : Opening = opening_of bytes pixels form held ledger in
    from o ledger refl s (opened_state bytes pixels form held ledger) (at_first o ledger refl s) cs counted

-- The same where the form was asked for. Bytes are below 256 and counts have 32 bits, as the public functions take them.
pub demand3 : (bytes pixels held ledger : List ℕ) (form : Form) (rows columns end n : ℕ)
    → ((i : ℕ) → get_or bytes i 0 < 256)
    → open_answer bytes pixels (Some form) (length held) ≡ Ok (opened (frame_read rows columns end) (Ok n))
    → (cs : List Call)
    → AllCounted cs
    → (let o = opening_of bytes pixels form held ledger in
    Agreement o ledger cs (run step cs (opened_state bytes pixels form held ledger)) (run (model_step o) cs empty_model))
demand3 bytes pixels held ledger form rows columns end n byte opened cs counted =
    demand3-opened bytes pixels held ledger form byte (in-asked rows columns end n opened) cs counted
