-- A buffer that holds a frame with other pixels: each call leaves such a buffer again, and the pixels say all its bytes.
-- Assumes nothing.
use mathlib.Core.Path.{◌≡◌, refl, sym, ap, ◌∙◌}
use mathlib.Core.Bool.{true}
use mathlib.Core.List.{List}
use Prim.Native.Nat.{ℕ, ◌-◌, ◌≤◌, ◌<◌}
use native.Mathlib.Omega.{arith}
use lib.ListN.{length, get_or, set, length-append}
use Rattle.lists.specs.Bytes.{zeros, held_bytes}
use Rattle.ledger.specs.declared.Line.{Line}
use Rattle.readback.specs.Held.{held_count, held_pixels, is_held}
use Rattle.readback.proofs.HeldOpened.{Opened, opened, count_of, pixels-fit}
use Rattle.archive.specs.Calls.{Outcome}
use Rattle.archive.proofs.Outcomes.{Changed}
use Rattle.model.specs.Model.{Opening}
use Rattle.model.proofs.Held.{Pixels, pixels-set, Fits, same-frame, Given, held-length, held-pixels, changed-is}

-- b holds the writer's frame for the pixels vs
pub record Kept (o : Opening) (vs b : List ℕ) : Type 0 where
  pub pixels : Pixels (length o.pixels) vs
  pub bytes : List ℕ
  pub fits : Fits o vs bytes
  pub is : b ≡ held_bytes o.held_length bytes

-- a frame lies within its buffer
inside : (n : ℕ) (b f : List ℕ) → b ≡ held_bytes n f → length f ≤ length b
unfolding held_bytes
inside n b f e = let l = ap length e ∙ length-append f (zeros (n - length f)) in omega arith

-- a held buffer that is the writer's own, as it would be opened: its header and pixels, in its form; no ledger is asked
pub record Start (held : List ℕ) : Type 0 where
  pub opening : Opening
  pub given : Given opening
  pub kept : Kept opening (held_pixels held) held
  pub count : held_count held ≡ length (held_pixels held)

pub start : (held : List ℕ) → is_held held ≡ true → ((i : ℕ) → get_or held i 0 < 256) → Start held
start held i small =
    let o : Opened held = opened held i in
    record {
      opening = record { header = held; pixels = held_pixels held; form = o.form; held_length = length held; ledger_length = 0 };
      given = record { header = o.header; tables = o.tables; accepted = o.accepted; binary = o.binary; count = o.all };
      kept = record {
        pixels = record { size = refl; small = pixels-fit held o.header o.tables o.accepted o.binary i small };
        bytes = o.bytes;
        fits = record { made = o.written; room = inside (length held) held o.bytes o.filled };
        is = o.filled;
      };
      count = count_of held o.header o.accepted ∙ sym o.all;
    }

module _ (o : Opening) (g : Given o) where
  -- the pixels say the bytes
  pub kept_same : {vs ws b c : List ℕ} → vs ≡ ws → Kept o vs b → Kept o ws c → b ≡ c
  kept_same {vs} {ws} {b} {c} e k l = k.is ∙ rw (same-frame o ws k.bytes l.bytes (rw e at k.fits) l.fits) (sym l.is)

  module _ {vs b : List ℕ} (k : Kept o vs b) where
    pub kept-pixels : held_pixels b ≡ vs
    kept-pixels = rw k.is (held-pixels o vs k.bytes k.pixels k.fits g)

    kept-length : length b ≡ o.held_length
    kept-length = rw k.is (held-length o vs k.bytes k.pixels k.fits g)

    -- one pixel has got another count
    pub kept-changed : {ledger : List ℕ} {lines p c : ℕ} {added : List Line} {out : Outcome} → c < 4294967296 → Changed b ledger lines p c added out → Kept o (set vs p c) out.held
    kept-changed {ledger} {lines} {p} {c} {added} {out} small w =
        let frame_is = rw k.is at w.made in
        record {
          pixels = pixels-set k.pixels p c small;
          bytes = w.bytes;
          fits = record { made = sym (changed-is o vs k.bytes k.pixels k.fits g ledger lines p c) ∙ frame_is; room = rw kept-length at w.fits };
          is = ap (λ (x : Outcome). x.held) w.is ∙ rw kept-length;
        }
