-- Document 01, "Expanding pixels", FORMAT 86: the answer and the pixels.
use Rattle.marks.specs.declared.Entry.{Entry}
use Rattle.refusal.specs.declared.Refusal.{Refusal}
use Rattle.std.specs.Prelude.{ℕ, suc, Bool, false, not, ◌&&◌, ◌||◌, List, [], ◌∷◌, ◌++◌, length, drop, ltb, if◌then◌else◌, Err, Ok, Result, Option}
use Rattle.lists.specs.Chain.{on_ok}
use Rattle.refusal.specs.declared.Refusal.TheVariants as R
use Rattle.layout.specs.declared.Width.{Width}
use Rattle.layout.specs.declared.Image.{Image}
use Rattle.layout.specs.Form.{width_bytes}
use Rattle.layout.specs.Layout.{pixel_count, image_end, text_end}
use Rattle.table.specs.Table.{entries}
use Rattle.marks.specs.Marks.{is_marked, has_entry, first_bad, with_entries, pixels_by}
use Rattle.overflow86.specs.Entries.{text_entries}

-- some marked pixel of vs, whose pixel numbers count from i, has no entry
unfoldable pub wanting : Width → List (Option Entry) → ℕ → List ℕ → Bool
unfolding has_entry
wanting w es i [] = false
wanting w es i (v ∷ vs) = (is_marked w v && not (has_entry i es)) || wanting w es (suc i) vs

-- 13, and then 14
abbrev pub then_wanting : Result (Unit {0}) Refusal → Bool → Result (Unit {0}) Refusal
then_wanting (Err r) t = Err r
then_wanting (Ok tt) t = if t then Err R.CountMismatch else (Ok tt)

unfoldable pub checked_of : Width → List ℕ → List (Option Entry) → Result (Unit {0}) Refusal
unfolding first_bad wanting
checked_of w vs es = then_wanting (first_bad w vs [] 0 es) (wanting w es 0 vs)

-- 13 and 14 set the pixels to 0
unfoldable pub frame_pixels : Width → List ℕ → List (Option Entry) → List ℕ
unfolding checked_of with_entries
frame_pixels w vs es = pixels_by (checked_of w vs es) (with_entries 0 w es 0 vs)

-- the stored image, and the entries of the table behind it
abbrev pub stored_image : List ℕ → Image → List ℕ
stored_image bytes i = entries (width_bytes i.width) (pixel_count i) (drop i.start bytes)

abbrev pub table_entries : List ℕ → Image → ℕ → List (Option Entry)
table_entries bytes i n = text_entries n (drop (image_end i) bytes)

-- the answer: 10, 11, 13, 14 in this order, for a table of n entries and an array of so many places
unfoldable pub text_answer : List ℕ → Image → ℕ → ℕ → Result ℕ Refusal
unfolding checked_of
text_answer bytes i n places =
    if ltb places (pixel_count i) then Err R.PixelArrayShort else
    if ltb (length bytes) (text_end i n) then Err R.DataTruncated else
    on_ok (checked_of i.width (stored_image bytes i) (table_entries bytes i n)) Err (λ _. Ok (text_end i n))

-- the array after it: 10 and 11 leave it as it was, and places past N are never written
unfoldable pub text_pixels : List ℕ → Image → ℕ → List ℕ → List ℕ
unfolding frame_pixels
text_pixels bytes i n px =
    if ltb (length px) (pixel_count i) then px else
    if ltb (length bytes) (text_end i n) then px else
    frame_pixels i.width (stored_image bytes i) (table_entries bytes i n) ++ drop (pixel_count i) px
