-- Request A9: a header's items in one pass. Where the values that are read stand is for the code to choose; what is said of the
-- places is that they give each keyword's value.
use Rattle.std.specs.Prelude.{ℕ, ◌<◌, ◌≡◌, List, [], Bool, true, false, not, ◌||◌, length, if◌then◌else◌, Option, Some, None, Result, Ok, Err}
use Rattle.std.specs.Option.{is_some}
use Rattle.lists.specs.Text.{codes}
use Rattle.lists.specs.Bytes.{same_bytes}
use Rattle.dtrek_text.specs.Bytes.{between, trimmed}
use Rattle.dtrek_text.specs.Items.{items, well_written}
use Rattle.dtrek_items.specs.Lookup.{has, value_of, repeated}
use Rattle.dtrek_items.specs.declared.Content.{Content}
use Rattle.dtrek_items.specs.declared.Contents.{Contents}
use Rattle.dtrek_items.specs.declared.ItemsError.{ItemsError}
use Rattle.dtrek_items.specs.declared.ItemsError.TheVariants as S

-- refusal 33: not items and then the end, or a keyword twice
abbrev pub is_malformed : List ℕ → Bool
is_malformed text = not (well_written text) || repeated (items text)

-- an item has the keyword of this content
abbrev pub is_there : Option Content → Bool
is_there c = is_some c

-- empty where there is none
abbrev pub value_at : List ℕ → Option Content → List ℕ
value_at text None = []
value_at text (Some c) = trimmed (between c.from c.stop text)

-- the content under a keyword: its value, and whether an item has it
pub record Under (text key : List ℕ) (c : Option Content) : Type 0 where
  pub value : value_at text c ≡ value_of key (items text)
  pub there : is_there c ≡ has key (items text)

pub record Found (text : List ℕ) (f : Contents) : Type 0 where
  pub dim : Under text (codes "DIM") f.dim
  pub size1 : Under text (codes "SIZE1") f.size1
  pub size2 : Under text (codes "SIZE2") f.size2
  pub order : Under text (codes "BYTE_ORDER") f.order
  pub kind : Under text (codes "Data_type") f.kind
  pub compression : Under text (codes "COMPRESSION") f.compression

pub record Sound (text : List ℕ) (f : Contents) : Type 0 where
  pub formed : is_malformed text ≡ false
  pub found : Found text f

-- a text of up to 99,840 bytes is malformed, or its values are found
abbrev pub Surveyed : List ℕ → Result Contents ItemsError → Type 0
Surveyed text (Ok f) = Sound text f
Surveyed text (Err S.Malformed) = is_malformed text ≡ true
Surveyed text (Err S.TooLong) = 99840 < length text

-- for the contracts of private functions: the first content under a keyword stays
abbrev pub no_contents : Contents
no_contents = record {
  dim = None;
  size1 = None;
  size2 = None;
  order = None;
  kind = None;
  compression = None;
}

unfoldable pub noted : List ℕ → List ℕ → Content → Option Content → Option Content
noted key word here c = if is_there c then c else if same_bytes word key then Some here else c

abbrev pub noted_all : List ℕ → Content → Contents → Contents
noted_all word here f = record {
  dim = noted (codes "DIM") word here f.dim;
  size1 = noted (codes "SIZE1") word here f.size1;
  size2 = noted (codes "SIZE2") word here f.size2;
  order = noted (codes "BYTE_ORDER") word here f.order;
  kind = noted (codes "Data_type") word here f.kind;
  compression = noted (codes "COMPRESSION") word here f.compression;
}
