-- What an accepted opening gives: an accepted header of FORMAT 100, N pixels of 32 bits, and the writer's frame in the held buffer.
-- Assumes nothing.
use Rattle.layout.specs.Layout.{frame_read}
use Rattle.layout.specs.declared.Frame.{Frame}
use Rattle.refusal.specs.declared.Refusal.{Refusal}
use mathlib.Core.Path.{◌≡◌, refl, sym, ap, ◌∙◌}
use mathlib.Core.Bool.{Bool, true, false}
use mathlib.Core.List.{List, [], ◌++◌}
use Prim.Native.Nat.{ℕ, ◌^◌, ◌≤◌, ◌<◌}
use native.Mathlib.Nat.{mul-le-mul}
use native.Mathlib.Omega.{arith}
use lib.ListN.{length, take, drop, get_or, length-append}
use lib.Seq.{take_at, take-take, length-take-le}
use lib.Dec.{leb, ltb}
use borrow.Author.Tests.{ltb-false, le-ltb, leb-true}
use Rattle.std.specs.Prelude.{if◌then◌else◌, Err, Ok, Option, Result, Some, ℕ}
use Rattle.lists.proofs.Tests.{and-true-right}
use Rattle.refusal.specs.declared.Refusal.TheVariants as R
use Rattle.layout.specs.declared.Form.{Form}
use Rattle.layout.specs.declared.Image.{Image}
use Rattle.layout.specs.declared.BinaryTables.{BinaryTables}
use Rattle.layout.specs.declared.Tables.{Tables}
use Rattle.layout.specs.declared.Tables.TheVariants as T
use Rattle.layout.specs.declared.Header.{Header}
use Rattle.layout.specs.Layout.{pixel_count, binary_end}
use Rattle.header.specs.Header.{header_of}
use Rattle.expand.specs.Expand.{frame_pixels, first_pixels, binary_pixels}
use Rattle.expand.proofs.Facts as binary
use Rattle.reader.specs.Reader.{pixels_by, read_answer, read_pixels}
use Rattle.lists.specs.Bytes.{held_bytes}
use Rattle.writer.specs.Writer.{Made, frame, refused, made_as, made_by, writer_frame, answer_of, output_of, write_answer, write_bytes}
use Rattle.readback.proofs.Sound.{opening}
use Rattle.readback.proofs.Reading as reading
use Rattle.opening.specs.declared.Opened.{Opened}
use Rattle.opening.specs.declared.FormOpened.{FormOpened}
use Rattle.opening.specs.Open.{opened, open_by, held_by, open_answer, open_held, chosen_form, smallest_opened}
use Rattle.model.specs.Model.{Opening}
use Rattle.model.specs.Run.{opening_of, OpenedIn, in-asked, in-smallest}
use Rattle.model.proofs.Held.{Pixels, Fits, Given}
use Rattle.model.proofs.Below.{frame_small}

-- both parts of an opening were accepted
open-parts : (rows columns end n : ℕ) (a : Result Frame Refusal) (w : Result ℕ Refusal) → open_by a w ≡ Ok (opened (frame_read rows columns end) (Ok n)) → (a ≡ Ok (frame_read rows columns end)) × (w ≡ Ok n)
open-parts rows columns end n (Ok f) w q =
    let o : opened f w ≡ opened (frame_read rows columns end) (Ok n) = cc in
    (ap Ok (ap (λ (x : Opened). x.frame) o), ap (λ (x : Opened). x.held) o)
open-parts rows columns end n (Err s) w q = let z : ◌≡◌ {A = ℕ} 0 1 = cc in absurd (omega arith)

record Room (room : ℕ) (made : Made) : Type 0 where
  bytes : List ℕ
  is : made ≡ frame bytes
  fits : length bytes ≤ room

written-room : (room n : ℕ) (made : Made) → answer_of room made ≡ Ok n → Room room made
written-room room n (refused r) q = let z : ◌≡◌ {A = ℕ} 0 1 = cc in absurd (omega arith)
written-room room n (frame f) q = go (ltb room (length f)) refl q
  where
    go : (b : Bool) → ltb room (length f) ≡ b → if◌then◌else◌ b (Err R.OutputShort) (Ok (length f)) ≡ Ok n → Room room (frame f)
    go true e p = let z : ◌≡◌ {A = ℕ} 0 1 = cc in absurd (omega arith)
    go false e p = record { bytes = f; is = refl; fits = ltb-false room (length f) e }

pub answer-is : (given : List ℕ) (asked : Option Form) (pixels : List ℕ) (room : ℕ) → write_answer given asked pixels room ≡ answer_of room (writer_frame given asked pixels)
unfolding write_answer
answer-is given asked pixels room = refl

bytes-are : (given : List ℕ) (asked : Option Form) (pixels out : List ℕ) → write_bytes given asked pixels out ≡ output_of out (writer_frame given asked pixels)
unfolding write_bytes
bytes-are given asked pixels out = refl

writer-is : (given : List ℕ) (asked : Option Form) (pixels : List ℕ) → writer_frame given asked pixels ≡ made_by given asked pixels (header_of given)
unfolding writer_frame
writer-is given asked pixels = refl

answer-parts : (bytes pixels : List ℕ) (asked : Option Form) (room : ℕ) → open_answer bytes pixels asked room ≡ open_by (read_answer bytes (length pixels)) (write_answer bytes asked (read_pixels bytes pixels) room)
unfolding open_answer
answer-parts bytes pixels asked room = refl

held-parts : (bytes pixels : List ℕ) (asked : Option Form) (held : List ℕ) → open_held bytes pixels asked held ≡ held_by (read_answer bytes (length pixels)) held (write_bytes bytes asked (read_pixels bytes pixels) held)
unfolding open_held
held-parts bytes pixels asked held = refl

held-now : (bytes pixels : List ℕ) (asked : Option Form) (held f : List ℕ) (rows columns end : ℕ) → read_answer bytes (length pixels) ≡ Ok (frame_read rows columns end)
    → writer_frame bytes asked (read_pixels bytes pixels) ≡ frame f → length f ≤ length held → open_held bytes pixels asked held ≡ held_bytes (length held) f
held-now bytes pixels asked held f rows columns end r w k =
    held-parts bytes pixels asked held ∙ rw (r, bytes-are bytes asked (read_pixels bytes pixels) held, w, le-ltb (length held) (length f) k)

-- the writer takes no header of FORMAT 86
record Binary (t : Tables) : Type 0 where
  tables : BinaryTables
  is : t ≡ T.Format100 tables

made-binary : (header : List ℕ) (t : Tables) (asked : Option Form) (vs f : List ℕ) → made_as header t asked vs ≡ frame f → Binary t
made-binary header (T.Format86 n) asked vs f e = let z : ◌≡◌ {A = ℕ} 0 1 = cc in absurd (omega arith)
made-binary header (T.Format100 t) asked vs f e = record { tables = t; is = refl }

module _ (given other : List ℕ) (h : Header) (asked : Option Form) (pixels : List ℕ) (enough : pixel_count h.image ≤ length pixels) where
  writer-from : header_of given ≡ Ok h → writer_frame given asked pixels ≡ made_as (take h.image.start given) h.tables asked (take (pixel_count h.image) pixels)
  writer-from e = writer-is given asked pixels ∙ rw (e, le-ltb (length pixels) (pixel_count h.image) enough)

from-binary : (given : List ℕ) (h : Header) (asked : Option Form) (pixels f : List ℕ) → header_of given ≡ Ok h → writer_frame given asked pixels ≡ frame f → Binary h.tables
from-binary given h asked pixels f e w =
    go (ltb (length pixels) (pixel_count h.image)) (sym (ap (made_by given asked pixels) e) ∙ sym (writer-is given asked pixels) ∙ w)
  where
    go : (b : Bool) → if◌then◌else◌ b (refused R.PixelArrayShort) (made_as (take h.image.start given) h.tables asked (take (pixel_count h.image) pixels)) ≡ frame f → Binary h.tables
    go true q = let z : ◌≡◌ {A = ℕ} 0 1 = cc in absurd (omega arith)
    go false q = made-binary (take h.image.start given) h.tables asked (take (pixel_count h.image) pixels) f q

free-binary : (bytes : List ℕ) (i : Image) (places end : ℕ) (t : Tables) (b : BinaryTables) → t ≡ T.Format100 b → reading.Free bytes i places end t → binary.Accepted bytes i b places end
free-binary bytes i places end t b e f = rw e at f

-- the writer uses the header's own bytes and N pixels
writer-own : (given : List ℕ) (h : Header) (asked : Option Form) (pixels : List ℕ) → pixel_count h.image ≤ length pixels
    → header_of given ≡ Ok h → header_of (take h.image.start given) ≡ Ok h
    → writer_frame (take h.image.start given) asked (take (pixel_count h.image) pixels) ≡ writer_frame given asked pixels
writer-own given h asked pixels enough e q =
    let n : ℕ = pixel_count h.image in
    let k : n ≤ length (take n pixels) = omega (arith, length-take-le n pixels enough) in
    writer-from (take h.image.start given) [] h asked (take n pixels) k q
    ∙ rw (take-take h.image.start h.image.start given (omega arith), take-take n n pixels (omega arith))
    (sym (writer-from given [] h asked pixels enough e))

-- the pixels of an accepted frame
first-is : (bytes : List ℕ) (i : Image) (t : BinaryTables) (places end : ℕ) → binary.Accepted bytes i t places end → first_pixels bytes i t ≡ frame_pixels bytes i t
first-is bytes i t places end a = rw (a.padding, a.used, a.fits)

binary-tests : (bytes : List ℕ) (i : Image) (t : BinaryTables) (pixels : List ℕ) → binary_pixels bytes i t pixels
    ≡ if◌then◌else◌ (ltb (length pixels) (pixel_count i)) pixels (if◌then◌else◌ (ltb (length bytes) (binary_end i t)) pixels (first_pixels bytes i t ++ drop (pixel_count i) pixels))
unfolding binary_pixels
binary-tests bytes i t pixels = refl

binary-read : (bytes : List ℕ) (i : Image) (t : BinaryTables) (pixels : List ℕ) (end : ℕ) → binary.Accepted bytes i t (length pixels) end
    → binary_pixels bytes i t pixels ≡ frame_pixels bytes i t ++ drop (pixel_count i) pixels
binary-read bytes i t pixels end a =
    binary-tests bytes i t pixels ∙ rw (le-ltb (length pixels) (pixel_count i) a.room, le-ltb (length bytes) (binary_end i t) a.whole, first-is bytes i t (length pixels) end a)

read_is : (bytes pixels : List ℕ) → read_pixels bytes pixels ≡ pixels_by bytes pixels (header_of bytes)
unfolding read_pixels
read_is bytes pixels = refl

-- what the theorem starts from
pub record Start (o : Opening) (held : List ℕ) : Type 0 where
  pub given : Given o
  pub few : length o.pixels ≤ 2 ^ 24
  pub pixels : Pixels (length o.pixels) o.pixels
  pub frame : List ℕ
  pub fits : Fits o o.pixels frame
  pub held-is : held ≡ held_bytes o.held_length frame

start-at : {o p : Opening} {x y : List ℕ} → o ≡ p → x ≡ y → Start p y → Start o x
start-at e q s = rw (e, q) s

module _ (bytes pixels held ledger : List ℕ) (form : Form) (rows columns end : ℕ) (byte : (i : ℕ) → get_or bytes i 0 < 256) where
  abbrev opening_by : Header → Opening
  opening_by h = record {
    header = take h.image.start bytes;
    pixels = take (pixel_count h.image) (read_pixels bytes pixels);
    form = form;
    held_length = length held;
    ledger_length = length ledger;
  }

  opening-is : (h : Header) → header_of bytes ≡ Ok h → opening_of bytes pixels form held ledger ≡ opening_by h
  unfolding opening_of
  opening-is h e = rw e

  module _ (h : Header) (t : BinaryTables) (accepted : header_of bytes ≡ Ok h) (is : h.tables ≡ T.Format100 t)
      (a : binary.Accepted bytes h.image t (length pixels) end) where
    abbrev count : ℕ
    count = pixel_count h.image

    read : read_pixels bytes pixels ≡ frame_pixels bytes h.image t ++ drop count pixels
    read = read_is bytes pixels ∙ rw (accepted, is) (binary-read bytes h.image t pixels end a)

    all : length (frame_pixels bytes h.image t) ≡ count
    all = rw (← first-is bytes h.image t (length pixels) end a) (binary.first-length bytes h.image t)

    first : take count (read_pixels bytes pixels) ≡ frame_pixels bytes h.image t
    first = rw read (take_at (frame_pixels bytes h.image t) (drop count pixels) count all)

    enough : count ≤ length (read_pixels bytes pixels)
    enough = omega (arith, ap length read, length-append (frame_pixels bytes h.image t) (drop count pixels), all)

    own : header_of (take h.image.start bytes) ≡ Ok h
    own =
        let s : ℕ = h.image.start in
        reading.header-same bytes (take s bytes) s (opening bytes h t accepted is).within (take-take s s bytes (omega arith)) h accepted (omega arith)

    size : length (opening_by h).pixels ≡ count
    size = ap length first ∙ all

    small_count : count ≤ 2 ^ 24
    small_count =
        let s = (opening bytes h t accepted is).lines in
        let r : h.image.rows ≤ 4096 = leb-true _ _ (and-true-right (leb 1 h.image.rows) (leb h.image.rows 4096) s.rows-size) in
        let c : h.image.columns ≤ 4096 = leb-true _ _ (and-true-right (leb 1 h.image.columns) (leb h.image.columns 4096) s.columns-size) in
        mul-le-mul r c

    start-by : (f : List ℕ) → writer_frame bytes (Some form) (read_pixels bytes pixels) ≡ frame f → length f ≤ length held → Start (opening_by h) (held_bytes (length held) f)
    start-by f made room = record {
      given = record { header = h; tables = t; accepted = own; binary = is; count = size };
      few = omega (arith, size, small_count);
      pixels = record { size = refl; small = rw first (frame_small bytes h.image t byte a.fits) };
      frame = f;
      fits = record { made = writer-own bytes h (Some form) (read_pixels bytes pixels) enough accepted own ∙ made; room = room };
      held-is = refl;
    }

  -- an accepted opening
  start-answered : (n : ℕ) → open_answer bytes pixels (Some form) (length held) ≡ Ok (opened (frame_read rows columns end) (Ok n))
      → Start (opening_of bytes pixels form held ledger) (open_held bytes pixels (Some form) held)
  start-answered n opened =
      let vs : List ℕ = read_pixels bytes pixels in
      let parts : (read_answer bytes (length pixels) ≡ Ok (frame_read rows columns end)) × (write_answer bytes (Some form) vs (length held) ≡ Ok n) =
      open-parts rows columns end n _ _ (sym (answer-parts bytes pixels (Some form) (length held)) ∙ opened) in
      let room : Room (length held) (writer_frame bytes (Some form) vs) =
      written-room (length held) n _ (sym (answer-is bytes (Some form) vs (length held)) ∙ parts.1) in
      let framed = (reading.accepted-iff bytes (length pixels) rows columns end).0 parts.0 in
      let h : Header = framed.header in
      let tables : Binary h.tables = from-binary bytes h (Some form) vs room.bytes framed.accepted room.is in
      let free : binary.Accepted bytes h.image tables.tables (length pixels) end = free-binary bytes h.image (length pixels) end h.tables tables.tables tables.is framed.free in
      let now : open_held bytes pixels (Some form) held ≡ held_bytes (length held) room.bytes =
      held-now bytes pixels (Some form) held room.bytes rows columns end parts.0 room.is room.fits in
      start-at (opening-is h framed.accepted) now (start-by h tables.tables framed.accepted tables.is free room.bytes room.is room.fits)

-- an accepted opening, in either way
pub start : (bytes pixels held ledger : List ℕ) (form : Form) → ((i : ℕ) → get_or bytes i 0 < 256) → OpenedIn bytes pixels held form
    → Start (opening_of bytes pixels form held ledger) (open_held bytes pixels (Some form) held)
unfolding smallest_opened
start bytes pixels held ledger form byte (in-asked rows columns end n e) = start-answered bytes pixels held ledger form rows columns end byte n e
start bytes pixels held ledger form byte (in-smallest rows columns end n e) =
    let f : chosen_form bytes pixels ≡ form = ap (λ (o : FormOpened). o.form) e in
    let a : open_answer bytes pixels (Some (chosen_form bytes pixels)) (length held) ≡ Ok (opened (frame_read rows columns end) (Ok n)) = ap (λ (o : FormOpened). o.answer) e in
    start-answered bytes pixels held ledger form rows columns end byte n (rw f at a)
