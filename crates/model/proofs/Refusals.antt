-- The only refusals that the writer gives to the model's pixels with a new count put in are 17 and 18.
-- Assumes nothing.
use Rattle.refusal.specs.declared.Refusal.{Refusal}
use mathlib.Core.Path.{◌≡◌, sym, ap, subst, ◌∙◌}
use mathlib.Core.Bool.{Bool, true, false}
use mathlib.Core.List.{List}
use Prim.Native.Nat.{ℕ, ◌<◌}
use lib.ListN.{length, get_or, set, length-set}
use lib.Dec.{ltb}
use Rattle.std.specs.Prelude.{if◌then◌else◌, Err, Ok, Result, Some, ℕ}
use Rattle.refusal.specs.declared.Refusal.TheVariants as R
use Rattle.layout.specs.declared.Form.{Form}
use Rattle.writer.specs.Storing.{stored_for}
use Rattle.writer.specs.Frame.{frame_bytes}
use Rattle.writer.specs.Writer.{frame, refused, base, underflow_too_large, made_with, answer_of, writer_frame}
use Rattle.readback.specs.Written.{header_bytes, base_of, base_number}
use Rattle.readback.proofs.Facts as facts
use Rattle.model.specs.Model.{Entry, Opening, pixels_with, written}
use Rattle.layout.specs.Layout.{frame_read}
use Rattle.opening.specs.Open.{opened, open_answer}
use Rattle.model.specs.Run.{opening_of, OpenedIn, in-asked}
use Rattle.model.proofs.Held.{Given}
use Rattle.model.proofs.Agree.{length-with}
use Rattle.model.proofs.Opened.{Start, start, answer-is}

-- a frame, 17 or 18
pub data Judged : Result ℕ Refusal → Type 0 where
  fits : (n : ℕ) → Judged (Ok n)
  too_large : Judged (Err R.UnderflowTooLarge)
  too_long : Judged (Err R.OutputShort)

in-room : (room : ℕ) (f : List ℕ) (b : Bool) → Judged (if◌then◌else◌ b (Err R.OutputShort) (Ok (length f)))
in-room room f true = too_long
in-room room f false = fits (length f)

with-base : (room : ℕ) (f : List ℕ) (b : Bool) → Judged (answer_of room (if◌then◌else◌ b (refused R.UnderflowTooLarge) (frame f)))
with-base room f true = too_large
with-base room f false = in-room room f (ltb room (length f))

module _ (o : Opening) {held : List ℕ} (s : Start o held) where
  abbrev g : Given o
  g = s.given

  abbrev baseline : ℕ
  baseline = base_number (base_of o.header g.header g.tables o.form)

  -- the form opened in has its baseline
  based : base_of o.header g.header g.tables o.form ≡ base baseline
  based = (facts.wrote o.header g.header g.tables o.form o.pixels s.frame g.accepted g.binary g.count s.fits.made).based

  judged : (vs : List ℕ) → length vs ≡ length o.pixels → Judged (written o vs)
  judged vs n =
      let made : writer_frame o.header (Some o.form) vs ≡ made_with (header_bytes o.header g.header) o.form vs (base baseline) =
      facts.made_at o.header g.header g.tables o.form vs g.accepted g.binary (n ∙ g.count)
      ∙ ap (made_with (header_bytes o.header g.header) o.form vs) based in
      subst Judged (sym (answer-is o.header (Some o.form) vs o.held_length ∙ ap (answer_of o.held_length) made))
      (with-base o.held_length (frame_bytes (header_bytes o.header g.header) o.form (stored_for o.form baseline vs)) (underflow_too_large o.form.underflow (stored_for o.form baseline vs).under))

-- what the model's correction asks the writer, after an accepted opening and with any stack
pub only-17-18-opened : (bytes pixels held ledger : List ℕ) (form : Form)
    → ((i : ℕ) → get_or bytes i 0 < 256)
    → OpenedIn bytes pixels held form
    → (es : List Entry) (pixel count : ℕ)
    → (let o = opening_of bytes pixels form held ledger in Judged (written o (set (pixels_with o.pixels es) pixel count)))
only-17-18-opened bytes pixels held ledger form byte opened es pixel count =
    let o : Opening = opening_of bytes pixels form held ledger in
    judged o (start bytes pixels held ledger form byte opened) (set (pixels_with o.pixels es) pixel count)
    (length-set (pixels_with o.pixels es) pixel count ∙ length-with o.pixels es)

-- where the form was asked for
pub only-17-18 : (bytes pixels held ledger : List ℕ) (form : Form) (rows columns end n : ℕ)
    → ((i : ℕ) → get_or bytes i 0 < 256)
    → open_answer bytes pixels (Some form) (length held) ≡ Ok (opened (frame_read rows columns end) (Ok n))
    → (es : List Entry) (pixel count : ℕ)
    → (let o = opening_of bytes pixels form held ledger in Judged (written o (set (pixels_with o.pixels es) pixel count)))
only-17-18 bytes pixels held ledger form rows columns end n byte opened es pixel count =
    only-17-18-opened bytes pixels held ledger form byte (in-asked rows columns end n opened) es pixel count
