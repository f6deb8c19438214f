-- Document 01, "Expanding pixels" and "Numbers given back": what reading answers and leaves in the pixel array, for any bytes.
use Rattle.layout.specs.Layout.{frame_read}
use Rattle.layout.specs.declared.Frame.{Frame}
use Rattle.std.specs.Prelude.{ℕ, List, Err, Ok, Result}
use Rattle.refusal.specs.declared.Refusal.{Refusal}
use Rattle.layout.specs.declared.Image.{Image}
use Rattle.layout.specs.declared.Tables.{Tables}
use Rattle.layout.specs.declared.Tables.TheVariants as T
use Rattle.layout.specs.declared.Header.{Header}
use Rattle.header.specs.Header.{header_of}
use Rattle.expand.specs.Expand.{binary_answer, binary_pixels}
use Rattle.overflow86.specs.Expand86.{text_answer, text_pixels}

-- the header's rows and columns with the place where the frame ends
abbrev pub framed : Image → Result ℕ Refusal → Result Frame Refusal
framed i (Ok end) = Ok (frame_read i.rows i.columns end)
framed i (Err r) = Err r

-- 10 to 15, by the header's format
abbrev pub tables_answer : List ℕ → Image → ℕ → Tables → Result Frame Refusal
tables_answer bytes i places (T.Format86 n) = framed i (text_answer bytes i n places)
tables_answer bytes i places (T.Format100 t) = framed i (binary_answer bytes i t places)

abbrev pub tables_pixels : List ℕ → Image → List ℕ → Tables → List ℕ
tables_pixels bytes i pixels (T.Format86 n) = text_pixels bytes i n pixels
tables_pixels bytes i pixels (T.Format100 t) = binary_pixels bytes i t pixels

abbrev pub frame_answer : List ℕ → Header → ℕ → Result Frame Refusal
frame_answer bytes h places = tables_answer bytes h.image places h.tables

abbrev pub frame_pixels : List ℕ → Header → List ℕ → List ℕ
frame_pixels bytes h pixels = tables_pixels bytes h.image pixels h.tables

abbrev pub answer_by : List ℕ → ℕ → Result Header Refusal → Result Frame Refusal
answer_by bytes places (Ok h) = frame_answer bytes h places
answer_by bytes places (Err r) = Err r

abbrev pub pixels_by : List ℕ → List ℕ → Result Header Refusal → List ℕ
pixels_by bytes pixels (Ok h) = frame_pixels bytes h pixels
pixels_by bytes pixels (Err r) = pixels

-- the answer: the header's refusals, then 10 to 15
unfoldable pub read_answer : List ℕ → ℕ → Result Frame Refusal
read_answer bytes places = answer_by bytes places (header_of bytes)

-- the array afterwards: the header's refusals leave it as it was
unfoldable pub read_pixels : List ℕ → List ℕ → List ℕ
read_pixels bytes pixels = pixels_by bytes pixels (header_of bytes)
