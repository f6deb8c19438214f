-- One pixel of a held frame replaced: what the edits of its bytes leave in the buffer. No public contract cites this file.
use Rattle.std.specs.Prelude.{ℕ, ◌+◌, ◌-◌, ◌*◌, ◌≤◌, ◌<◌, true, false, List, [], ◌∷◌, ltb, length, take, get_or, ◌≡◌, if◌then◌else◌}
use Rattle.lists.specs.Bytes.{little_bytes, padded_to, held_bytes, over}
use Rattle.layout.specs.declared.Form.{Form}
use Rattle.layout.specs.Form.{width_bytes, underflow_bytes}
use Rattle.layout.specs.Layout.{table_bytes}
use Rattle.splice.specs.Moves.{table_edited, edit_fits}
use Rattle.expand.specs.Steps.{Stored}
use Rattle.header_text.specs.declared.Counts.{Counts}
use Rattle.writer.specs.Storing.{lowered, at_most65535, stored_value, stored_for}
use Rattle.writer.specs.Writer.{underflow_too_large}
use Rattle.header_text.specs.Text.{relined}
use Rattle.writer.specs.Frame.{stored_counts, frame_bytes}
use Rattle.canonical.specs.declared.Place.{Place}
use Rattle.replacement.specs.declared.Cut.{Cut}

-- the table's bytes afterwards
unfoldable pub cut_len : Cut → ℕ
cut_len k = k.n - k.old + k.width

-- the table with its padding, before and after
abbrev pub len_then : Cut → ℕ
len_then k = padded_to 16 k.n

abbrev pub len_now : Cut → ℕ
len_now k = padded_to 16 (cut_len k)

-- the entry replaced in a table that starts at s and is followed by `post` bytes of the frame
abbrev pub cut_in : Cut → ℕ → ℕ → List ℕ → List ℕ
cut_in k s post b = table_edited b s k.n k.before k.old post (little_bytes k.width k.value)

-- the last table first: no table but the underflow table grows
unfoldable pub last_first : ℕ → Cut → Cut → Cut → List ℕ → List ℕ
last_first s u t f b =
    cut_in u s (len_now t + len_now f)
    (cut_in t (s + len_then u) (len_now f)
    (cut_in f (s + len_then u + len_then t) 0 b))

-- the first table first: the underflow table does not grow
unfoldable pub first_first : ℕ → Cut → Cut → Cut → List ℕ → List ℕ
first_first s u t f b =
    cut_in f (s + len_now u + len_now t) 0
    (cut_in t (s + len_now u) (len_then f)
    (cut_in u s (len_then t + len_then f) b))

-- what shrinks is edited before what grows, so that a buffer that holds the frame before and after is never overrun
unfoldable pub cut_all : ℕ → Cut → Cut → Cut → List ℕ → List ℕ
cut_all s u t f b = if ltb 0 u.width then last_first s u t f b else first_first s u t f b

-- an edit fits a buffer of N bytes
abbrev pub CutFits : ℕ → Cut → ℕ → ℕ → Type 0
CutFits N k s post = edit_fits N s k.n k.before k.old post k.width ≡ true

abbrev pub LastFits : ℕ → ℕ → Cut → Cut → Cut → Type 0
LastFits N s u t f = CutFits N f (s + len_then u + len_then t) 0 × CutFits N t (s + len_then u) (len_now f) × CutFits N u s (len_now t + len_now f)

abbrev pub FirstFits : ℕ → ℕ → Cut → Cut → Cut → Type 0
FirstFits N s u t f = CutFits N u s (len_then t + len_then f) × CutFits N t (s + len_now u) (len_then f) × CutFits N f (s + len_now u + len_now t) 0

-- every edit of the order that is taken fits
pub record AllFit (N s : ℕ) (u t f : Cut) : Type 0 where
  pub last : ltb 0 u.width ≡ true → LastFits N s u t f
  pub first : ltb 0 u.width ≡ false → FirstFits N s u t f

-- a table of n entries of w bytes, `before` of them before the pixel's, of which it had `old` and has `new`
unfoldable pub cut_of : (w n before old new value : ℕ) → Cut
cut_of w n before old new value = record { n = n * w; before = before * w; old = old * w; value = value; width = new * w }

-- what is stored of one pixel, and its entries
abbrev pub stored_one : Form → ℕ → ℕ → Stored
stored_one form base v = stored_for form base (v ∷ [])

abbrev pub entries_one : Form → ℕ → ℕ → Counts
entries_one form base v = stored_counts (stored_one form base v)

-- the entries of the tables afterwards
unfoldable pub counts_after : Counts → Counts → Counts → Counts
counts_after all old new = record {
  under = all.under - old.under + new.under;
  two = all.two - old.two + new.two;
  four = all.four - old.four + new.four;
}

-- the pixel's entry in each table: of a place, when its count becomes v
abbrev pub under_cut : Place → ℕ → Cut
under_cut p v =
    cut_of (underflow_bytes p.form.underflow) p.entries.under p.before.under (entries_one p.form p.baseline p.old).under (entries_one p.form p.baseline v).under v

abbrev pub two_cut : Place → ℕ → Cut
two_cut p v =
    cut_of 2 p.entries.two p.before.two (entries_one p.form p.baseline p.old).two (entries_one p.form p.baseline v).two (at_most65535 (lowered p.form.underflow p.baseline v))

abbrev pub four_cut : Place → ℕ → Cut
four_cut p v =
    cut_of 4 p.entries.four p.before.four (entries_one p.form p.baseline p.old).four (entries_one p.form p.baseline v).four (lowered p.form.underflow p.baseline v)

-- where the image of a place ends
abbrev pub image_stop : Place → ℕ
image_stop p = p.start + p.pixels * width_bytes p.form.width

abbrev pub entries_after : Place → ℕ → Counts
entries_after p v = counts_after p.entries (entries_one p.form p.baseline p.old) (entries_one p.form p.baseline v)

-- the image's number, put over the old one
abbrev pub image_replaced : Place → (pixel v : ℕ) → List ℕ → List ℕ
image_replaced p pixel v b =
    over (p.start + pixel * width_bytes p.form.width) (little_bytes (width_bytes p.form.width) (stored_value p.form.width (lowered p.form.underflow p.baseline v))) b

-- the count becomes v: the image, the tables, and then the header's two lines
unfoldable pub replaced_bytes : Place → (pixel v : ℕ) → List ℕ → List ℕ
replaced_bytes p pixel v b =
    relined p.form (entries_after p v)
    (cut_all (image_stop p) (under_cut p v) (two_cut p v) (four_cut p v)
    (image_replaced p pixel v b))

-- the frame's length with so many entries, and with the count v
unfoldable pub length_with : Place → Counts → ℕ
length_with p c = image_stop p + table_bytes (underflow_bytes p.form.underflow) c.under + table_bytes 2 c.two + table_bytes 4 c.four

-- what the functions on a place may rely on: the buffer holds the writer's frame, and the place is its pixel's
pub record Placed (held : List ℕ) (p : Place) (pixel : ℕ) : Type 0 where
  pub header : List ℕ
  pub counts : List ℕ
  pub starts : p.start ≡ length header
  pub long : 3200 ≤ length header
  pub short : length header ≤ 32768
  pub all : p.pixels ≡ length counts
  pub few : length counts ≤ 16777216
  pub inside : pixel < length counts
  pub low : p.baseline ≤ 65535
  pub entries : p.entries ≡ stored_counts (stored_for p.form p.baseline counts)
  pub before : p.before ≡ stored_counts (stored_for p.form p.baseline (take pixel counts))
  pub old : p.old ≡ get_or counts pixel 0
  pub fits : underflow_too_large p.form.underflow (stored_for p.form p.baseline counts).under ≡ false
  pub frame : held ≡ held_bytes (length held) (frame_bytes header p.form (stored_for p.form p.baseline counts))
