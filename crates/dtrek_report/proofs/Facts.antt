-- An item that is found: its bytes in the file are its keyword and its value, and asking on from `next` lists them all.
-- Assumes nothing.
use mathlib.Core.Path.{◌≡◌, refl, sym, ap, ◌∙◌}
use mathlib.Core.List.{List, ◌∷◌}
use Prim.Native.Nat.{ℕ, suc, ◌+◌, ◌-◌, ◌≤◌, ◌<◌}
use native.Mathlib.Omega.{arith}
use lib.ListN.{length, take, drop}
use lib.Seq.{drop-drop, take-take}
use Rattle.lists.proofs.Parts.{drop-take}
use Rattle.numeral.specs.Runs.{leading}
use Rattle.dtrek_text.specs.declared.Cursor.{Cursor}
use Rattle.dtrek_text.specs.declared.Scanned.TheVariants as I
use Rattle.dtrek_text.specs.Bytes.{is_white, between, trimmed}
use Rattle.dtrek_text.specs.Items.{Item, items}
use Rattle.dtrek_text.specs.Scan.{item_from}
use Rattle.dtrek_text.proofs.Trims.{trimmed-take, trimmed-fits}
use Rattle.dtrek_text.proofs.Scans.{Stands, found-stands}
use Rattle.dtrek_report.specs.Item.{value_start, value_end}
use Rattle.dtrek_report.specs.Theorems.{ItemFirst}
use Rattle.dtrek_report.proofs.Laws.{value-fits}

-- the bytes from value_start to value_end are the value
part-value : (t : List ℕ) (a s k m : ℕ) → k + m ≤ s - a → between (a + k) (a + k + m) t ≡ take m (drop k (between a s t))
part-value t a s k m h =
    let n : a + k + m - (a + k) ≡ m = omega arith in
    let l : m ≤ s - a - k = omega arith in
    rw (n, drop-take k (s - a) (drop a t), take-take m (s - a - k) (drop k (drop a t)) l, drop-drop k a t)

module _ {header : List ℕ} {at start end stop : ℕ} {next : Cursor} (s : Stands header at start end stop next) where
  pub value-at : between (value_start header end stop) (value_end header end stop) header ≡ trimmed (between (suc end) stop header)
  value-at =
      let v = between (suc end) stop header in
      let f : leading is_white v + length (trimmed v) ≤ stop - suc end = omega (arith, value-fits s) in
      part-value header (suc end) stop (leading is_white v) (length (trimmed v)) f ∙ trimmed-take v

pub item-first : (header : List ℕ) (at : ℕ) → ItemFirst header at
item-first header at start end stop next p =
    let s = found-stands p in
    s.first ∙ rw (value-at s)
