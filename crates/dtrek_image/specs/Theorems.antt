-- Request A9: what follows of the pixel array. proofs/Facts.antt proves these for every file and array.
use Rattle.layout.specs.Layout.{frame_read}
use Rattle.std.specs.Prelude.{ℕ, ◌≡◌, List, length, take, drop, Ok, Err}
use Rattle.refusal.specs.declared.Refusal.{Refusal}
use Rattle.layout.specs.Layout.{pixel_count}
use Rattle.dtrek_header.specs.declared.DtrekHeader.{DtrekHeader}
use Rattle.dtrek_header.specs.DtrekHeader.{dtrek_header}
use Rattle.dtrek_image.specs.DtrekImage.{stored_pixels, dtrek_answer, dtrek_pixels}

-- every refusal leaves the array as it was
abbrev pub RefusedKept : List ℕ → List ℕ → Type 0
RefusedKept bytes px = (r : Refusal) → dtrek_answer bytes (length px) ≡ Err r → dtrek_pixels bytes px ≡ px

-- the stored pixels in the first places, and the others as they were
pub record Loaded (bytes px : List ℕ) (h : DtrekHeader) : Type 0 where
  pub front : take (pixel_count h.image) (dtrek_pixels bytes px) ≡ stored_pixels bytes h
  pub rest : drop (pixel_count h.image) (dtrek_pixels bytes px) ≡ drop (pixel_count h.image) px

-- an accepted image is loaded so
abbrev pub AcceptedLoaded : List ℕ → List ℕ → Type 0
AcceptedLoaded bytes px =
    (h : DtrekHeader) (rows columns end : ℕ)
    → dtrek_header bytes ≡ Ok h → dtrek_answer bytes (length px) ≡ Ok (frame_read rows columns end) → Loaded bytes px h
