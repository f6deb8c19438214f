-- What the private functions say of themselves: pixels lowered and capped, and bytes put over a buffer. No public contract cites this file.
use Rattle.std.specs.Prelude.{◌≡◌, ℕ, ◌+◌, ◌-◌, ◌*◌, ◌≤◌, Bool, true, false, ◌||◌, List, [], ◌++◌, map, length, take, drop, nat_le, nat_lt, if◌then◌else◌}
use Rattle.lists.specs.Bytes.{zeros, over}
use Rattle.layout.specs.declared.Width.{Width}
use Rattle.layout.specs.declared.Width.TheVariants as W
use Rattle.layout.specs.declared.Underflow.{Underflow}
use Rattle.layout.specs.declared.Underflow.TheVariants as U
use Rattle.layout.specs.declared.Underflows.{Underflows}
use Rattle.layout.specs.declared.Underflows.TheVariants as H
use Rattle.layout.specs.declared.Tables.{Tables}
use Rattle.layout.specs.declared.Tables.TheVariants as T
use Rattle.layout.specs.declared.Form.{Form}
use Rattle.layout.specs.Form.{width_bytes, underflow_bytes}
use Rattle.layout.specs.Layout.{table_bytes}
use Rattle.table.specs.Writing.{table_of}
use Rattle.expand.specs.Steps.{Stored}
use Rattle.writer.specs.Storing.{stored_value, two_entries, four_entries, stored_for}
use Rattle.lists.specs.Only.{only}
use Rattle.writer.specs.Frame.{stored_counts, body_bytes, frame_length}
use Rattle.header_text.specs.declared.Counts.{Counts}
use Rattle.writer.specs.declared.Places.{Places}
use Rattle.writer.specs.declared.Range.{Range}
use Rattle.writer.specs.declared.Storage.{Storage}

-- a pixel less the baseline, 0 where it underflows
abbrev pub less : ℕ → ℕ → ℕ
less base v = if nat_le v base then 0 else v - base

-- at most limit
abbrev pub capped : ℕ → ℕ → ℕ
capped limit x = if nat_le limit x then limit else x

-- kind none has the baseline 0
abbrev pub used_base : Underflow → ℕ → ℕ
used_base U.None base = 0
used_base (U.Subtracted e) base = base

-- width 4 with kind none, which stores the pixels as they are
abbrev pub is_plain : Width → Underflow → Bool
is_plain W.One u = false
is_plain W.Two u = false
is_plain W.Four U.None = true
is_plain W.Four (U.Subtracted e) = false

-- the least pixel that a kind stores with no entry
abbrev pub lowest_plain : Underflow → ℕ → ℕ
lowest_plain U.None base = 0
lowest_plain (U.Subtracted e) base = base + 1

-- the largest pixel that a width stores with no entry
abbrev pub highest_plain : Width → ℕ → ℕ
highest_plain W.One base = base + 254
highest_plain W.Two base = base + 65534
highest_plain W.Four base = 4294967295

-- the pixels that a form stores with no entry
abbrev pub plain_range : Form → ℕ → Range
plain_range form base = record { low = lowest_plain form.underflow base; span = highest_plain form.width base - lowest_plain form.underflow base }

-- v is outside a range
abbrev pub is_outside : Range → ℕ → Bool
is_outside k v = nat_lt v k.low || nat_lt (k.low + k.span) v

-- no element from p to q passes the test
pub record Without (f : ℕ → Bool) (s : List ℕ) (p q : ℕ) : Type 0 where
  pub from : p ≤ q
  pub upto : q ≤ length s
  pub none : only f (take (q - p) (drop p s)) ≡ []

-- the values of a block in a width, and their entries, fit from the places on in a buffer of n bytes
pub record ValuesRoom (w : Width) (low : List ℕ) (at : Places) (n : ℕ) : Type 0 where
  pub image : at.image + length low * width_bytes w ≤ n
  pub two : at.two + length (two_entries w low) * 2 ≤ n
  pub four : at.four + length (four_entries w low) * 4 ≤ n

-- they are put, each at its place
unfoldable pub put_values : Width → List ℕ → Places → List ℕ → List ℕ
unfolding over table_of only
put_values w low at d =
    over at.image (table_of (width_bytes w) (map (stored_value w) low)) (over at.four (table_of 4 (four_entries w low)) (over at.two (table_of 2 (two_entries w low)) d))

-- the places behind them
unfoldable pub places_past : Width → List ℕ → Places → Places
unfolding only
places_past w low at = record {
  image = at.image + length low * width_bytes w;
  under = at.under;
  two = at.two + length (two_entries w low) * 2;
  four = at.four + length (four_entries w low) * 4;
}

-- the parts of a block, or of all pixels, fit from the places on in a buffer of n bytes
pub record Room (form : Form) (s : Stored) (at : Places) (n : ℕ) : Type 0 where
  pub image : at.image + length s.image * width_bytes form.width ≤ n
  pub under : at.under + length s.under * underflow_bytes form.underflow ≤ n
  pub two : at.two + length s.two * 2 ≤ n
  pub four : at.four + length s.four * 4 ≤ n

-- a block's parts, each put at its place
unfoldable pub put_block : Form → Stored → Places → List ℕ → List ℕ
unfolding over table_of
put_block form s at d =
    over at.image (table_of (width_bytes form.width) s.image)
    (over at.four (table_of 4 s.four)
    (over at.two (table_of 2 s.two)
    (over at.under (table_of (underflow_bytes form.underflow) s.under) d)))

-- the places behind a block's parts
unfoldable pub places_after : Form → Stored → Places → Places
places_after form s at = record {
  image = at.image + length s.image * width_bytes form.width;
  under = at.under + length s.under * underflow_bytes form.underflow;
  two = at.two + length s.two * 2;
  four = at.four + length s.four * 4;
}

-- where the parts of a frame of n pixels start, behind a header of so many bytes
unfoldable pub places_by : ℕ → ℕ → Form → Counts → Places
unfolding table_bytes
places_by start n form c = record {
  image = start;
  under = start + n * width_bytes form.width;
  two = start + n * width_bytes form.width + table_bytes (underflow_bytes form.underflow) c.under;
  four = start + n * width_bytes form.width + table_bytes (underflow_bytes form.underflow) c.under + table_bytes 2 c.two;
}

abbrev pub places_for : ℕ → Form → Stored → Places
places_for start form s = places_by start (length s.image) form (stored_counts s)

-- all pixels can be stored: the places are those of the parts, and the buffer holds the frame and is zero behind the image
pub record Ready (k : Storage) (pixels out : List ℕ) (at : Places) : Type 0 where
  pub used : k.base ≡ used_base k.form.underflow k.base
  pub places : at ≡ places_for at.image k.form (stored_for k.form k.base pixels)
  pub whole : frame_length at.image k.form (stored_for k.form k.base pixels) ≤ length out
  pub clear : drop (at.image + length (stored_for k.form k.base pixels).image * width_bytes k.form.width) out ≡ zeros (length out - (at.image + length (stored_for k.form k.base pixels).image * width_bytes k.form.width))
  pub low : k.base ≤ 65535

-- the frame's body from the image's place on, and zeros behind it
abbrev pub with_body : Storage → List ℕ → List ℕ → Places → List ℕ
with_body k pixels out at =
    take at.image out ++ (body_bytes k.form (stored_for k.form k.base pixels) ++ zeros (length out - frame_length at.image k.form (stored_for k.form k.base pixels)))

-- the baseline that a header states, 0 where it states none
abbrev pub given_baseline : Underflows → ℕ
given_baseline H.Unused = 0
given_baseline (H.NoWidth b) = b
given_baseline (H.Counted e n b) = b

abbrev pub tables_baseline : Tables → ℕ
tables_baseline (T.Format86 n) = 0
tables_baseline (T.Format100 t) = given_baseline t.underflows

-- what the functions on an accepted header may rely on: its length, the number of pixels and the baseline
pub record Sized (header pixels : List ℕ) (baseline : ℕ) : Type 0 where
  pub long : 3200 ≤ length header
  pub short : length header ≤ 32768
  pub few : length pixels ≤ 16777216
  pub low : baseline ≤ 65535
