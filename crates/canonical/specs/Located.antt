-- Refusal 19 and a pixel's place, by the reader's and the writer's definitions.
use Rattle.canonical.specs.declared.Unlocated.TheVariants.{NoPixel}
use Rattle.canonical.specs.declared.Unlocated.TheVariants.{NotCanonical}
use Rattle.canonical.specs.declared.Unlocated.{Unlocated}
use Rattle.refusal.specs.declared.Refusal.{Refusal}
use Rattle.refusal.specs.declared.Refusal.TheVariants as R
use Rattle.layout.specs.declared.Header.{Header}
use Rattle.std.specs.Prelude.{ℕ, not, List, get_or, take, leb, if◌then◌else◌, Err, None, Ok, Option, Result, Some}
use Rattle.layout.specs.declared.Width.TheVariants as W
use Rattle.layout.specs.declared.Underflow.TheVariants as U
use Rattle.layout.specs.declared.Tables.{Tables}
use Rattle.layout.specs.declared.Tables.TheVariants as T
use Rattle.layout.specs.declared.Form.{Form}
use Rattle.header.specs.Header.{header_of}
use Rattle.expand.specs.Expand.{baseline_of}
use Rattle.header_text.specs.declared.Counts.{Counts}
use Rattle.writer.specs.Storing.{stored_for}
use Rattle.writer.specs.Frame.{stored_counts}
use Rattle.readback.specs.Held.{held_count, held_form, held_pixels, is_held}
use Rattle.canonical.specs.declared.Place.{Place}

-- the form of an answer; one that is not listed stands for nothing
abbrev pub form_in : Option Form → Form
form_in (Some form) = form
form_in None = record { width = W.One; underflow = U.None }

abbrev pub tables_base : Tables → ℕ
tables_base (T.Format86 n) = 0
tables_base (T.Format100 t) = baseline_of t.underflows

-- the refusal of a pixel that has no place
abbrev pub unlocated : Unlocated → Refusal
unlocated NotCanonical = R.HeldNotCanonical
unlocated NoPixel = R.NoSuchPixel

-- the baseline of a held frame, 0 for kind none; and where its image starts
abbrev pub base_by : Result Header Refusal → ℕ
base_by (Ok h) = tables_base h.tables
base_by (Err r) = 0

abbrev pub start_by : Result Header Refusal → ℕ
start_by (Ok h) = h.image.start
start_by (Err r) = 0

-- the entries that the writer makes of pixels, in each table
abbrev pub entries_of : Form → ℕ → List ℕ → Counts
entries_of form base vs = stored_counts (stored_for form base vs)

-- a pixel's place
unfoldable pub place_in : List ℕ → ℕ → Place
unfolding held_count held_form held_pixels stored_for
place_in held pixel = record {
  start = start_by (header_of held);
  pixels = held_count held;
  form = form_in (held_form held);
  baseline = base_by (header_of held);
  entries = entries_of (form_in (held_form held)) (base_by (header_of held)) (held_pixels held);
  before = entries_of (form_in (held_form held)) (base_by (header_of held)) (take pixel (held_pixels held));
  old = get_or (held_pixels held) pixel 0;
}

-- 19, then 24
unfoldable pub located : List ℕ → ℕ → Result Place Unlocated
unfolding is_held place_in
located held pixel =
    if not (is_held held) then (Err NotCanonical) else
    if leb (held_count held) pixel then (Err NoPixel) else
    Ok (place_in held pixel)
