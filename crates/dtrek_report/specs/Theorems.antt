-- Request A9: asking on from `next` gives every item of a header. proofs/Facts.antt proves this for every header and place.
use Rattle.std.specs.Prelude.{ℕ, ◌≡◌, List, ◌∷◌, drop}
use Rattle.dtrek_text.specs.declared.Cursor.{Cursor}
use Rattle.dtrek_text.specs.declared.Scanned.TheVariants as I
use Rattle.dtrek_text.specs.Bytes.{between}
use Rattle.dtrek_text.specs.Items.{Item, items}
use Rattle.dtrek_text.specs.Scan.{item_from}
use Rattle.dtrek_report.specs.Item.{value_start, value_end}

-- the bytes of an item that is found: its keyword, and its value without white space around it
abbrev pub item_here : List ℕ → ℕ → ℕ → ℕ → Item
item_here header start end stop = record {
  key = between start end header;
  value = between (value_start header end stop) (value_end header end stop) header;
}

-- it is the first of the items from its place on, and the others are those from `next` on
abbrev pub ItemFirst : List ℕ → ℕ → Type 0
ItemFirst header at =
    (start end stop : ℕ) (next : Cursor) → I.Found start end stop next ≡ item_from header at
    → items (drop at header) ≡ item_here header start end stop ∷ items (drop next.at header)
