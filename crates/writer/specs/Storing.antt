-- Document 01, "Writing and holding": pixels to stored values and table entries.
use Rattle.std.specs.Prelude.{ℕ, ◌-◌, leb, List, [], map, nat_le, if◌then◌else◌}
use Rattle.lists.specs.Only.{only}
use Rattle.layout.specs.declared.Width.{Width}
use Rattle.layout.specs.declared.Width.TheVariants as W
use Rattle.layout.specs.declared.Underflow.{Underflow}
use Rattle.layout.specs.declared.Underflow.TheVariants as U
use Rattle.layout.specs.declared.Form.{Form}
use Rattle.expand.specs.Steps.{Stored}
use Rattle.pixel_counts.specs.Counts.{is_underflow}

-- kind none keeps the pixel; otherwise an underflow becomes 0, and each other pixel loses the baseline
abbrev pub lowered : Underflow → ℕ → ℕ → ℕ
lowered U.None base v = v
lowered (U.Subtracted e) base v = if is_underflow base v then 0 else v - base

-- an underflow is its own entry
abbrev pub under_entries : Underflow → ℕ → List ℕ → List ℕ
under_entries U.None base vs = []
under_entries (U.Subtracted e) base vs = only (is_underflow base) vs

-- values from 65535 are stored as 65535 where two bytes hold them
abbrev pub at_most65535 : ℕ → ℕ
at_most65535 x = if nat_le 65535 x then 65535 else x

-- a stored value: width 1 stores values from 255 as 255, width 2 those from 65535 as 65535
abbrev pub stored_value : Width → ℕ → ℕ
stored_value W.One x = if nat_le 255 x then 255 else x
stored_value W.Two x = at_most65535 x
stored_value W.Four x = x

-- width 1 gives values from 255 a two-byte entry, which is 65535 for values from 65535
abbrev pub two_entries : Width → List ℕ → List ℕ
two_entries W.One xs = map at_most65535 (only (leb 255) xs)
two_entries W.Two xs = []
two_entries W.Four xs = []

-- widths 1 and 2 give values from 65535 a four-byte entry
abbrev pub four_entries : Width → List ℕ → List ℕ
four_entries W.One xs = only (leb 65535) xs
four_entries W.Two xs = only (leb 65535) xs
four_entries W.Four xs = []

abbrev pub lowered_all : Form → ℕ → List ℕ → List ℕ
lowered_all form base vs = map (lowered form.underflow base) vs

-- the frame in values, for pixels vs and a baseline
unfoldable pub stored_for : Form → ℕ → List ℕ → Stored
unfolding only
stored_for form base vs = record {
  image = map (stored_value form.width) (lowered_all form base vs);
  under = under_entries form.underflow base vs;
  two = two_entries form.width (lowered_all form base vs);
  four = four_entries form.width (lowered_all form base vs);
}
