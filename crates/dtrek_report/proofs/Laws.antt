-- How large an accepted image is, and where an item's value stands.
-- Assumes nothing.
use mathlib.Core.Path.{◌≡◌, refl, sym, ap, ◌∙◌}
use mathlib.Core.List.{List}
use Prim.Native.Nat.{ℕ, suc, ◌+◌, ◌-◌, ◌*◌, ◌≤◌, ◌<◌}
use native.Mathlib.Nat.{mul-le-mul}
use native.Mathlib.Omega.{arith}
use lib.ListN.{length, take, drop, length-take, length-drop}
use Rattle.numeral.specs.Runs.{leading}
use Rattle.layout.specs.declared.Image.{Image}
use Rattle.layout.specs.Form.{width_bytes}
use Rattle.layout.specs.Layout.{pixel_count, image_bytes}
use Rattle.layout.proofs.Laws.{width-le}
use Rattle.dtrek_text.specs.declared.Cursor.{Cursor}
use Rattle.dtrek_text.specs.Bytes.{is_white, between, trimmed}
use Rattle.dtrek_text.proofs.Trims.{trimmed-fits}
use Rattle.dtrek_text.proofs.Scans.{Stands}
use Rattle.dtrek_header.specs.declared.DtrekHeader.{DtrekHeader}
use Rattle.dtrek_header.specs.DtrekHeader.{Bounded}

pub image-fits : (h : DtrekHeader) → Bounded h → image_bytes h.image ≤ 67108864
image-fits h b =
    let a : pixel_count h.image ≤ 16777216 = mul-le-mul b.rows b.columns in
    mul-le-mul a (width-le h.image.width)

-- the trimmed value ends before the semicolon
module _ {header : List ℕ} {at start end stop : ℕ} {next : Cursor} (s : Stands header at start end stop next) where
  content-length : length (between (suc end) stop header) ≡ stop - suc end
  content-length = omega (arith, s.inside, s.before, length-take (stop - suc end) (drop (suc end) header), length-drop (suc end) header)

  pub value-fits : suc end + leading is_white (between (suc end) stop header) + length (trimmed (between (suc end) stop header)) ≤ stop
  value-fits = omega (arith, content-length, trimmed-fits (between (suc end) stop header), s.before)
