-- What the private functions answer from a pixel's place. No public contract cites this file.
use Rattle.refusal.specs.declared.Refusal.{Refusal}
use Rattle.std.specs.Prelude.{ℕ, Bool, not, List, ltb, length, if◌then◌else◌, Err, Ok, Option, Result}
use Rattle.refusal.specs.declared.Refusal.TheVariants as R
use Rattle.writer.specs.Writer.{underflow_too_large}
use Rattle.canonical.specs.declared.Place.{Place}
use Rattle.replacement.specs.Replace.{meets}
use Rattle.replacement.specs.Replaced.{stored_one, entries_after, length_with, replaced_bytes}

-- 17, and the length of the frame with the new count
abbrev pub too_large : Place → ℕ → Bool
too_large p count = underflow_too_large p.form.underflow (stored_one p.form p.baseline count).under

abbrev pub length_after : Place → ℕ → ℕ
length_after p count = length_with p (entries_after p count)

-- 23, 17, 18
unfoldable pub placed_answer : List ℕ → Place → Option ℕ → ℕ → Result ℕ Refusal
placed_answer held p expected count =
    if not (meets expected p.old) then Err R.PixelDiffers else
    if too_large p count then Err R.UnderflowTooLarge else
    if ltb (length held) (length_after p count) then Err R.OutputShort else
    Ok p.old

unfoldable pub placed_bytes : List ℕ → Place → ℕ → Option ℕ → ℕ → List ℕ
placed_bytes held p pixel expected count =
    if not (meets expected p.old) then held else
    if too_large p count then held else
    if ltb (length held) (length_after p count) then held else
    replaced_bytes p pixel count held
