-- What the private functions say of themselves: the check over the parts of a frame. No public contract cites this file.
use Rattle.canonical.specs.declared.Place.{Place}
use Rattle.canonical.specs.declared.Unlocated.TheVariants.{NoPixel}
use Rattle.canonical.specs.declared.Unlocated.TheVariants.{NotCanonical}
use Rattle.canonical.specs.declared.Unlocated.{Unlocated}
use Rattle.std.specs.Prelude.{ℕ, ◌≡◌, not, List, length, take, leb, if◌then◌else◌, Err, Ok, Result}
use Rattle.layout.specs.declared.Width.{Width}
use Rattle.layout.specs.declared.Underflow.{Underflow}
use Rattle.layout.specs.declared.Underflow.TheVariants as U
use Rattle.layout.specs.declared.Image.{Image}
use Rattle.layout.specs.declared.BinaryTables.{BinaryTables}
use Rattle.layout.specs.declared.Form.{Form}
use Rattle.layout.specs.Form.{width_bytes, entry_bytes}
use Rattle.table.specs.Table.{whole_entries}
use Rattle.expand.specs.Steps.{Stored, count}
use Rattle.expand.specs.Blocks.{step_of}
use Rattle.canonical.specs.Check.{mark_of, numbers_within, values_canonical, marks_before, place_by}
use Rattle.canonical.specs.declared.Marks.{Marks}
use Rattle.canonical.specs.declared.Seen.{Seen}

-- the bytes of an underflow entry; kind none has no entries, of any width
abbrev pub under_bytes : Underflow → ℕ
under_bytes U.None = 1
under_bytes (U.Subtracted e) = entry_bytes e

-- parts that hold only entries, in values
abbrev pub parts_stored : Form → List ℕ → List ℕ → List ℕ → List ℕ → Stored
parts_stored form image under two four = record {
  image = whole_entries (width_bytes form.width) image;
  under = whole_entries (under_bytes form.underflow) under;
  two = whole_entries 2 two;
  four = whole_entries 4 four;
}

-- the zeros and marks of an image, and the marks of a two-byte table
abbrev pub marks_of : Width → List ℕ → List ℕ → Marks
marks_of w image two = record { zeros = count 0 image; marks = count (mark_of w) image; two_marks = count 65535 two }

-- what one pass finds: the marks before pixel j and of the whole, and whether the numbers lie where the writer's do
unfoldable pub seen_of : Form → ℕ → Stored → ℕ → Seen
unfolding numbers_within count
seen_of form base s j = record {
  before = marks_of form.width (take j s.image) (take (marks_before form s j) s.two);
  all = marks_of form.width s.image s.two;
  within = numbers_within base s;
}

-- the form has the widths that a header states
pub record FormOf (form : Form) (i : Image) (t : BinaryTables) : Type 0 where
  pub width : form.width ≡ i.width
  pub under : under_bytes form.underflow ≡ entry_bytes (step_of t.underflows).width

-- the check from the values on
unfoldable pub check_stored : ℕ → Form → ℕ → Stored → ℕ → Result Place Unlocated
unfolding values_canonical place_by
check_stored start form base s pixel =
    if not (values_canonical form base s) then (Err NotCanonical) else
    if leb (length s.image) pixel then (Err NoPixel) else
    Ok (place_by start form base s pixel)
