-- What the code looks at, part by part: header lines, paddings, and the numbers of the image and of each table. No public contract
-- cites this file; proofs/Decides.antt has that it comes to the same as refusal 19.
use Rattle.canonical.specs.declared.Unlocated.TheVariants.{NoPixel}
use Rattle.canonical.specs.declared.Unlocated.TheVariants.{NotCanonical}
use Rattle.canonical.specs.declared.Unlocated.{Unlocated}
use Rattle.layout.specs.declared.Header.{Header}
use Rattle.refusal.specs.declared.Refusal.{Refusal}
use Rattle.std.specs.Prelude.{ℕ, ◌+◌, ◌-◌, Bool, true, not, ◌&&◌, List, [], ◌∷◌, length, get_or, take, drop, eqb, leb, if◌then◌else◌, Err, Ok, Result}
use Rattle.layout.specs.declared.Width.{Width}
use Rattle.layout.specs.declared.Width.TheVariants as W
use Rattle.layout.specs.declared.Underflow.{Underflow}
use Rattle.layout.specs.declared.Underflow.TheVariants as U
use Rattle.layout.specs.declared.Underflows.{Underflows}
use Rattle.layout.specs.declared.Underflows.TheVariants as H
use Rattle.layout.specs.declared.Image.{Image}
use Rattle.layout.specs.declared.BinaryTables.{BinaryTables}
use Rattle.layout.specs.declared.Tables.{Tables}
use Rattle.layout.specs.declared.Tables.TheVariants as T
use Rattle.layout.specs.declared.Form.{Form}
use Rattle.layout.specs.Layout.{pixel_count, underflow_count, binary_end}
use Rattle.header.specs.Header.{header_of}
use Rattle.table.specs.Table.{all_zero}
use Rattle.expand.specs.Steps.{Stored, count}
use Rattle.expand.specs.Expand.{stored_of, parts_whole}
use Rattle.header_text.specs.declared.Counts.{Counts}
use Rattle.header_text.specs.Text.{lines_written}
use Rattle.writer.specs.Frame.{stored_counts}
use Rattle.pixel_counts.specs.Counts.{under_count, two_count}
use Rattle.canonical.specs.declared.Place.{Place}

-- every number lies between low and high
unfoldable pub all_within : ℕ → ℕ → List ℕ → Bool
all_within low high [] = true
all_within low high (x ∷ xs) = leb low x && leb x high && all_within low high xs

-- the largest number to which a baseline is added
abbrev pub highest : ℕ → ℕ
highest base = 4294967295 - base

-- the stored number that stands for an entry; width 4 has none, and 0 is as good as any
abbrev pub mark_of : Width → ℕ
mark_of W.One = 255
mark_of W.Two = 65535
mark_of W.Four = 0

-- four-byte entries go with the marks of the two-byte table in width 1, with those of the image in width 2
abbrev pub four_marks : Width → ℕ → ℕ → ℕ
four_marks W.One marks twoMarks = twoMarks
four_marks W.Two marks twoMarks = marks
four_marks W.Four marks twoMarks = 0

-- the entries that go with so many zeros and marks of an image and so many marks of a two-byte table
abbrev pub entries_for : Form → ℕ → ℕ → ℕ → Counts
entries_for form zeros marks twoMarks = record {
  under = under_count form.underflow zeros;
  two = two_count form.width marks;
  four = four_marks form.width marks twoMarks;
}

abbrev pub same_counts : Counts → Counts → Bool
same_counts c d = eqb c.under d.under && eqb c.two d.two && eqb c.four d.four

-- the entries that an image and a two-byte table ask for
abbrev pub entries_asked : Form → List ℕ → List ℕ → Counts
entries_asked form image two = entries_for form (count 0 image) (count (mark_of form.width) image) (count 65535 two)

-- the numbers of each part lie where the writer's do
unfoldable pub numbers_within : ℕ → Stored → Bool
unfolding all_within
numbers_within base s =
    all_within 0 (highest base) s.image && all_within 0 base s.under && all_within 255 65535 s.two && all_within 65535 (highest base) s.four

unfoldable pub values_canonical : Form → ℕ → Stored → Bool
unfolding numbers_within count
values_canonical form base s = numbers_within base s && same_counts (entries_asked form s.image s.two) (stored_counts s)

-- the entries of the pixels before pixel j
abbrev pub marks_before : Form → Stored → ℕ → ℕ
marks_before form s j = two_count form.width (count (mark_of form.width) (take j s.image))

unfoldable pub entries_before : Form → Stored → ℕ → Counts
unfolding count
entries_before form s j = entries_asked form (take j s.image) (take (marks_before form s j) s.two)

-- pixel j, with those entries before it: steps a, b and c
abbrev pub after_two : Width → ℕ → ℕ → ℕ
after_two W.One x entry = if eqb x 255 then entry else x
after_two W.Two x entry = x
after_two W.Four x entry = x

abbrev pub after_four : Width → ℕ → ℕ → ℕ
after_four W.One x entry = if eqb x 65535 then entry else x
after_four W.Two x entry = if eqb x 65535 then entry else x
after_four W.Four x entry = x

abbrev pub after_under : Underflow → ℕ → ℕ → ℕ → ℕ
after_under U.None base x entry = x
after_under (U.Subtracted e) base x entry = if eqb x 0 then entry else x + base

unfoldable pub pixel_at : Form → ℕ → Stored → Counts → ℕ → ℕ
pixel_at form base s before j =
    after_under form.underflow base
    (after_four form.width (after_two form.width (get_or s.image j 0) (get_or s.two before.two 0)) (get_or s.four before.four 0))
    (get_or s.under before.under 0)

unfoldable pub place_by : ℕ → Form → ℕ → Stored → ℕ → Place
unfolding entries_before pixel_at
place_by start form base s j = record {
  start = start;
  pixels = length s.image;
  form = form;
  baseline = base;
  entries = stored_counts s;
  before = entries_before form s j;
  old = pixel_at form base s (entries_before form s j) j;
}

-- the entries that a header states
abbrev pub stated_counts : BinaryTables → Counts
stated_counts t = record { under = underflow_count t.underflows; two = t.two; four = t.four }

-- the bytes that are no entries: the two header lines, and what follows the frame
unfoldable pub rest_canonical : List ℕ → Image → BinaryTables → Form → Bool
unfolding lines_written all_zero
rest_canonical held i t form = lines_written form (stated_counts t) (take i.start held) && all_zero (drop (binary_end i t) held)

unfoldable pub check_form : List ℕ → Image → BinaryTables → Form → ℕ → ℕ → Result Place Unlocated
unfolding parts_whole rest_canonical values_canonical place_by stored_of
check_form held i t form base pixel =
    if not (parts_whole held i t) then (Err NotCanonical) else
    if not (rest_canonical held i t form) then (Err NotCanonical) else
    if not (values_canonical form base (stored_of held i t)) then (Err NotCanonical) else
    if leb (pixel_count i) pixel then (Err NoPixel) else
    Ok (place_by i.start form base (stored_of held i t) pixel)

abbrev pub kind_form : Width → Underflow → Form
kind_form w u = record { width = w; underflow = u }

-- by the underflows that the header states
abbrev pub check_tables : List ℕ → Image → BinaryTables → Underflows → ℕ → Result Place Unlocated
check_tables held i t H.Unused pixel = check_form held i t (kind_form i.width U.None) 0 pixel
check_tables held i t (H.NoWidth b) pixel = (Err NotCanonical)
check_tables held i t (H.Counted e n b) pixel = check_form held i t (kind_form i.width (U.Subtracted e)) b pixel

abbrev pub check_header : List ℕ → Image → Tables → ℕ → Result Place Unlocated
check_header held i (T.Format86 n) pixel = (Err NotCanonical)
check_header held i (T.Format100 t) pixel = check_tables held i t t.underflows pixel

abbrev pub check_by : List ℕ → Result Header Refusal → ℕ → Result Place Unlocated
check_by held (Ok h) pixel = check_header held h.image h.tables pixel
check_by held (Err r) pixel = (Err NotCanonical)

unfoldable pub checked : List ℕ → ℕ → Result Place Unlocated
unfolding check_form
checked held pixel = check_by held (header_of held) pixel
