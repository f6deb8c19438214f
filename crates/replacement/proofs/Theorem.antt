-- One pixel replaced in the bytes of a held frame: what is left is the writer's frame for the pixels with that one set.
-- Assumes nothing.
use mathlib.Core.Path.{◌≡◌, refl, sym, ap, ◌∙◌}
use mathlib.Core.Bool.{true, false}
use mathlib.Core.List.{List, [], ◌++◌, append_assoc}
use mathlib.Core.Logic.{⊎_elim}
use Prim.Native.Nat.{ℕ, zero, suc, ◌+◌, ◌-◌, ◌*◌, ◌≤◌, ◌<◌}
use native.Mathlib.Nat.{zero-mul, one-mul}
use native.Mathlib.Omega.{arith}
use lib.ListN.{length, take, drop, set, get_or, length-append, length-take, length-drop, take-append-drop}
use lib.Seq.{length-take-le, take-append-le, drop-append-le}
use lib.Dec.{ltb, leb}
use borrow.Author.Tests.{ltb-true, ltb-false, le-leb}
use Rattle.std.specs.Prelude.{if◌then◌else◌}
use Rattle.lists.specs.Bytes.{little_bytes, zeros, held_bytes, over, padded_to}
use Rattle.layout.specs.declared.Form.{Form}
use Rattle.layout.specs.Form.{width_bytes, underflow_bytes}
use Rattle.layout.specs.Layout.{table_bytes}
use Rattle.table.specs.Writing.{table_of, padded_table}
use Rattle.table.proofs.Storing.{length-table, table-append}
use Rattle.header_lines.specs.declared.LineId.{LineId}
use Rattle.header_lines.specs.declared.LineId.TheVariants as I
use Rattle.header_lines.specs.Lines.{line_of, position_of}
use Rattle.expand.specs.Steps.{Stored}
use Rattle.splice.specs.Moves.{padded}
use Rattle.splice.proofs.Tables.{tested, held-over, padded-table}
use Rattle.header_text.specs.declared.Counts.{Counts}
use Rattle.writer.specs.Storing.{stored_for}
use Rattle.header_text.specs.Text.{counts_data, npixelb_data, with_data, relined}
use Rattle.writer.specs.Frame.{stored_counts, rewritten, body_bytes, frame_bytes}
use Rattle.header_text.proofs.Cells.{length-counts}
use Rattle.writer.proofs.Whole.{relined-stored}
use Rattle.readback.proofs.Storing.{image-count}
use Rattle.readback.proofs.Body.{length-body}
use Rattle.readback.proofs.Rewriting.{rewritten-agree, rewritten-twice}
use Rattle.canonical.specs.declared.Place.{Place}
use Rattle.replacement.specs.Replaced.{len_then, len_now, cut_of, cut_all, LastFits, FirstFits, AllFit, under_cut, two_cut, four_cut, image_stop, stored_one, entries_after, image_replaced, replaced_bytes}
use Rattle.layout.proofs.Laws.{underflow-le}
use Rattle.replacement.proofs.Cuts.{buffer, Parts, parts-entry, length-now, cut-less, cut-more, last-first-fits, first-first-fits, cut-all}
use Rattle.replacement.proofs.Values.{around, stored_at, stored-set, counts-set, One, one-stored, together, under-bytes, two_bytes, four_bytes, image-bytes}

-- a table in three parts
table-parts : (w : ℕ) (a o b : List ℕ) → table_of w (a ++ (o ++ b)) ≡ table_of w a ++ (table_of w o ++ table_of w b)
table-parts w a o b = table-append w a (o ++ b) ∙ ap (λ (l : List ℕ). table_of w a ++ l) (table-append w o b)

short : (n w : ℕ) → n ≤ 1 → w ≤ 4 → n * w ≤ 16
short zero w h k = omega (arith, zero-mul w)
short (suc zero) w h k = omega (arith, one-mul w)
short (suc (suc n)) w h k = absurd (omega arith)

some_of : (n w : ℕ) → 0 < n * w → 0 < n
some_of zero w h = absurd (omega (arith, zero-mul w))
some_of (suc n) w h = omega arith

-- a table of n entries, a before the pixel's o and b behind it
module _ (w n : ℕ) (a o b new : List ℕ) (value : ℕ) (all : n ≡ length (a ++ (o ++ b))) (k : w ≤ 4) (ho : length o ≤ 1) (hn : length new ≤ 1) (e : little_bytes (length new * w) value ≡ table_of w new) where
  parts-of : Parts (cut_of w n (length a) (length o) (length new) value) (table_of w a) (table_of w o) (table_of w b) (table_of w new)
  unfolding cut_of
  parts-of = record {
    front = length-table w a;
    own = length-table w o;
    whole = rw all (omega (arith, length-append (table_of w a) (table_of w o ++ table_of w b), length-append (table_of w o) (table_of w b), ap length (table-parts w a o b), length-table w (a ++ (o ++ b))));
    small = short (length o) w ho k;
    small' = short (length new) w hn k;
    new = e;
  }

  cut-then : len_then (cut_of w n (length a) (length o) (length new) value) ≡ padded_to 16 (n * w)
  unfolding cut_of
  cut-then = refl

  cut-now : len_now (cut_of w n (length a) (length o) (length new) value) ≡ padded_to 16 (length (a ++ (new ++ b)) * w)
  cut-now = ap (padded_to 16) (sym (length-now parts-of) ∙ sym (ap length (table-parts w a new b)) ∙ length-table w (a ++ (new ++ b)))

  cut-width : (cut_of w n (length a) (length o) (length new) value).width ≡ length new * w
  unfolding cut_of
  cut-width = refl

  cut-old : (cut_of w n (length a) (length o) (length new) value).old ≡ length o * w
  unfolding cut_of
  cut-old = refl

body-parts : (form : Form) (s : Stored) → body_bytes form s
    ≡ table_of (width_bytes form.width) s.image ++ (padded_table (underflow_bytes form.underflow) s.under ++ (padded_table 2 s.two ++ padded_table 4 s.four))
unfolding body_bytes
body-parts form s = refl

-- a frame as a buffer with the image and the three tables
frame-buffer : (N : ℕ) (H : List ℕ) (form : Form) (s : Stored) → held_bytes N (H ++ body_bytes form s)
    ≡ buffer N (H ++ table_of (width_bytes form.width) s.image) (table_of (underflow_bytes form.underflow) s.under) (table_of 2 s.two) (table_of 4 s.four)
unfolding buffer
frame-buffer N H form s = rw (body-parts, padded-table, padded-table, padded-table, append_assoc)

-- the room that a frame takes
frame-room : (N : ℕ) (H : List ℕ) (form : Form) (s : Stored) → length (H ++ body_bytes form s) ≤ N
    → length H + length s.image * width_bytes form.width + padded_to 16 (length s.under * underflow_bytes form.underflow) + padded_to 16 (length s.two * 2) + padded_to 16 (length s.four * 4) ≤ N
unfolding table_bytes
frame-room N H form s r = omega (arith, length-append H (body_bytes form s), length-body form s [] [])

-- the place of pixel j
abbrev pub place_of : (header : List ℕ) (form : Form) (base : ℕ) (vs : List ℕ) (j : ℕ) → Place
place_of header form base vs j = record {
  start = length header;
  pixels = length vs;
  form = form;
  baseline = base;
  entries = stored_counts (stored_for form base vs);
  before = stored_counts (stored_for form base (take j vs));
  old = get_or vs j 0;
}

-- The pixel, in a frame behind a header of any bytes.
module _ (N : ℕ) (header H : List ℕ) (form : Form) (base : ℕ) (vs : List ℕ) (j x : ℕ) (h : j < length vs) (same : length H ≡ length header) where
  abbrev p : Place
  p = place_of header form base vs j

  abbrev w : ℕ
  w = width_bytes form.width

  abbrev uw : ℕ
  uw = underflow_bytes form.underflow

  abbrev front : Stored
  front = stored_for form base (take j vs)

  abbrev back : Stored
  back = stored_for form base (drop (suc j) vs)

  abbrev was : Stored
  was = stored_one form base (get_or vs j 0)

  abbrev is : Stored
  is = stored_one form base x

  one-was : One was
  one-was = one-stored form base (get_or vs j 0)

  one-is : One is
  one-is = one-stored form base x

  -- the frame with s in the pixel's place
  abbrev held : Stored → List ℕ
  held s = held_bytes N (H ++ body_bytes form (around form base vs j h s))

  abbrev tables : List ℕ → Stored → List ℕ
  tables A s = buffer N A (table_of uw (front.under ++ (s.under ++ back.under))) (table_of 2 (front.two ++ (s.two ++ back.two))) (table_of 4 (front.four ++ (s.four ++ back.four)))

  -- the image with s in the pixel's place
  abbrev image : Stored → List ℕ
  image s = table_of w (front.image ++ (s.image ++ back.image))

  -- its bytes are put over the image
  image-put : image_replaced p j x (held was) ≡ tables (H ++ image is) was
  unfolding buffer
  image-put =
      let at : ℕ = length header + j * w in
      let X : List ℕ = table_of w is.image in
      let P : List ℕ = table_of w front.image in
      let Q : List ℕ = padded (table_of uw (front.under ++ (was.under ++ back.under))) ++ (padded (table_of 2 (front.two ++ (was.two ++ back.two))) ++ padded (table_of 4 (front.four ++ (was.four ++ back.four)))) in
      let n : length front.image ≡ j = image-count form base (take j vs) ∙ length-take-le j vs (omega arith) in
      let b : length (H ++ P) ≡ at = length-append H P ∙ (λ i. same i + (length-table w front.image ∙ ap (λ (k : ℕ). k * w) n) i) in
      let e : length (table_of w was.image) ≡ length X =
      length-table w was.image ∙ ap (λ (k : ℕ). k * w) (one-was.image ∙ sym one-is.image) ∙ sym (length-table w is.image) in
      ap (λ (l : List ℕ). over at l (held was)) (image-bytes form base x w)
      ∙ ap (over at X) (frame-buffer N H form (around form base vs j h was) ∙ ap (λ (l : List ℕ). held_bytes N ((H ++ l) ++ Q)) (table-parts w front.image was.image back.image))
      ∙ ap (λ (l : List ℕ). over at X (held_bytes N l)) (simp append_assoc)
      ∙ held-over N (H ++ P) (table_of w was.image) (table_of w back.image ++ Q) X at b e
      ∙ ap (held_bytes N) (simp append_assoc)
      ∙ ap (λ (l : List ℕ). held_bytes N ((H ++ l) ++ Q)) (sym (table-parts w front.image is.image back.image))

  -- the image's end
  images : (s : Stored) → length s.image ≡ 1 → length (front.image ++ (s.image ++ back.image)) ≡ length vs
  images s e =
      let a : length front.image ≡ j = image-count form base (take j vs) ∙ length-take-le j vs (omega arith) in
      let b : length back.image ≡ length vs - suc j = image-count form base (drop (suc j) vs) ∙ length-drop (suc j) vs in
      simp length-append (omega arith)

  image-end : length (H ++ image is) ≡ image_stop p
  image-end = length-append H (image is) ∙ (λ i. same i + (length-table w (front.image ++ (is.image ++ back.image)) ∙ ap (λ (k : ℕ). k * w) (images is one-is.image)) i)

  at : stored_for form base vs ≡ around form base vs j h was
  at = stored_at form base vs j h

  under_all : length (stored_for form base vs).under ≡ length (front.under ++ (was.under ++ back.under))
  under_all = ap (λ (s : Stored). length s.under) at

  two-all : length (stored_for form base vs).two ≡ length (front.two ++ (was.two ++ back.two))
  two-all = ap (λ (s : Stored). length s.two) at

  four-all : length (stored_for form base vs).four ≡ length (front.four ++ (was.four ++ back.four))
  four-all = ap (λ (s : Stored). length s.four) at

  -- the entries of the three tables
  under-parts : Parts (under_cut p x) (table_of uw front.under) (table_of uw was.under) (table_of uw back.under) (table_of uw is.under)
  under-parts = parts-of uw _ front.under was.under back.under is.under x under_all (underflow-le form.underflow) one-was.under one-is.under (under-bytes form base x uw)

  two-parts : Parts (two_cut p x) (table_of 2 front.two) (table_of 2 was.two) (table_of 2 back.two) (table_of 2 is.two)
  two-parts = parts-of 2 _ front.two was.two back.two is.two _ two-all (omega arith) one-was.two one-is.two (two_bytes form base x)

  four-parts : Parts (four_cut p x) (table_of 4 front.four) (table_of 4 was.four) (table_of 4 back.four) (table_of 4 is.four)
  four-parts = parts-of 4 _ front.four was.four back.four is.four _ four-all (omega arith) one-was.four one-is.four (four_bytes form base x)

  -- where the frame fits before and after, every edit between fits too
  module _ (room : length (H ++ body_bytes form (around form base vs j h was)) ≤ N) (room' : length (H ++ body_bytes form (around form base vs j h is)) ≤ N) where
    room-then : image_stop p + len_then (under_cut p x) + len_then (two_cut p x) + len_then (four_cut p x) ≤ N
    unfolding cut_of
    room-then =
        rw (under_all, two-all, four-all, ← same, ← images was one-was.image) (frame-room N H form (around form base vs j h was) room)

    room-now : image_stop p + len_now (under_cut p x) + len_now (two_cut p x) + len_now (four_cut p x) ≤ N
    room-now =
        rw (
          cut-now uw _ front.under was.under back.under is.under x under_all (underflow-le form.underflow) one-was.under one-is.under (under-bytes form base x uw),
          cut-now 2 _ front.two was.two back.two is.two _ two-all (omega arith) one-was.two one-is.two (two_bytes form base x),
          cut-now 4 _ front.four was.four back.four is.four _ four-all (omega arith) one-was.four one-is.four (four_bytes form base x),
          ← same,
          ← images is one-is.image,
        )
        (frame-room N H form (around form base vs j h is) room')

    last_fits : ltb 0 (under_cut p x).width ≡ true → LastFits N (image_stop p) (under_cut p x) (two_cut p x) (four_cut p x)
    unfolding cut_of
    last_fits e =
        let some : 0 < length is.under = some_of (length is.under) uw (ltb-true 0 (length is.under * uw) e) in
        let z = one-is.alone some in
        last-first-fits N (image_stop p) (under_cut p x) (two_cut p x) (four_cut p x) (parts-entry under-parts) (parts-entry two-parts) (parts-entry four-parts) room-then room-now
        (omega arith) (omega arith)

    -- room in the middle of the other order
    mid-room : ltb 0 (under_cut p x).width ≡ false → image_stop p + len_now (under_cut p x) + len_now (two_cut p x) + len_then (four_cut p x) ≤ N
    unfolding cut_of
    mid-room e =
        let none : length is.under * uw ≤ 0 = ltb-false 0 (length is.under * uw) e in
        let mu : len_now (under_cut p x) ≤ len_then (under_cut p x) = cut-less (under_cut p x) (parts-entry under-parts) (omega arith) in
        let r = room-then in
        let r' = room-now in
        ⊎_elim
        (λ (d : ltb (length is.four) (length was.four) ≡ true).
        let less = together form base x (get_or vs j 0) (ltb-true (length is.four) (length was.four) d) in
        let mt : len_now (two_cut p x) ≤ len_then (two_cut p x) = cut-less (two_cut p x) (parts-entry two-parts) (omega arith) in
        omega arith)
        (λ (d : ltb (length is.four) (length was.four) ≡ false).
        let more = ltb-false (length is.four) (length was.four) d in
        let mf : len_then (four_cut p x) ≤ len_now (four_cut p x) = cut-more (four_cut p x) (parts-entry four-parts) (omega arith) in
        omega arith)
        (tested (ltb (length is.four) (length was.four)))

    first_fits : ltb 0 (under_cut p x).width ≡ false → FirstFits N (image_stop p) (under_cut p x) (two_cut p x) (four_cut p x)
    unfolding cut_of
    first_fits e =
        let none : length is.under * uw ≤ 0 = ltb-false 0 (length is.under * uw) e in
        first-first-fits N (image_stop p) (under_cut p x) (two_cut p x) (four_cut p x) (parts-entry under-parts) (parts-entry two-parts) (parts-entry four-parts) room-then room-now (omega arith) (mid-room e)

    all_fit : AllFit N (image_stop p) (under_cut p x) (two_cut p x) (four_cut p x)
    all_fit = record { last = last_fits; first = first_fits }

    tables-cut : cut_all (image_stop p) (under_cut p x) (two_cut p x) (four_cut p x) (tables (H ++ image is) was) ≡ tables (H ++ image is) is
    tables-cut =
        let A : List ℕ = H ++ image is in
        let parts : (s : Stored) → tables A s ≡ buffer N A (table_of uw front.under ++ (table_of uw s.under ++ table_of uw back.under)) (table_of 2 front.two ++ (table_of 2 s.two ++ table_of 2 back.two)) (table_of 4 front.four ++ (table_of 4 s.four ++ table_of 4 back.four)) =
        λ s. (λ i. buffer N A (table-parts uw front.under s.under back.under i) (table-parts 2 front.two s.two back.two i) (table-parts 4 front.four s.four back.four i)) in
        ap (cut_all (image_stop p) (under_cut p x) (two_cut p x) (four_cut p x)) (parts was)
        ∙ cut-all N A (image_stop p) image-end under-parts two-parts four-parts all_fit
        ∙ sym (parts is)

    -- the image and the tables
    body-replaced : cut_all (image_stop p) (under_cut p x) (two_cut p x) (four_cut p x) (image_replaced p j x (held was)) ≡ held is
    body-replaced = ap (cut_all (image_stop p) (under_cut p x) (two_cut p x) (four_cut p x)) image-put ∙ tables-cut ∙ sym (frame-buffer N H form (around form base vs j h is))

-- The header's two lines, in a buffer.
front-line : (id : LineId) (text h r : List ℕ) → position_of id * 80 + 80 ≤ length h → with_data id text (h ++ r) ≡ with_data id text h ++ r
unfolding with_data
front-line id text h r k = rw (take-append-le (position_of id * 80 + 8) h r (omega arith), drop-append-le (position_of id * 80 + 80) h r k, append_assoc, append_assoc)

length-noverfl-line : (form : Form) (c : Counts) (h : List ℕ) → 3200 ≤ length h → length (with_data I.Noverfl (counts_data form.underflow c) h) ≡ length h
unfolding with_data line_of
length-noverfl-line form c h k = simp (length-append, length-take, length-drop, length-counts) (omega arith)

relined-lines : (form : Form) (c : Counts) (h : List ℕ) → relined form c h ≡ with_data I.Npixelb (npixelb_data form) (with_data I.Noverfl (counts_data form.underflow c) h)
unfolding relined
relined-lines form c h = refl

front-relined : (form : Form) (c : Counts) (h r : List ℕ) → 3200 ≤ length h → relined form c (h ++ r) ≡ relined form c h ++ r
unfolding line_of
front-relined form c h r k =
    relined-lines form c (h ++ r)
    ∙ ap (with_data I.Npixelb (npixelb_data form)) (front-line I.Noverfl (counts_data form.underflow c) h r (omega arith))
    ∙ front-line I.Npixelb (npixelb_data form) (with_data I.Noverfl (counts_data form.underflow c) h) r (let n = length-noverfl-line form c h k in omega arith)
    ∙ ap (λ (l : List ℕ). l ++ r) (sym (relined-lines form c h))

-- a buffer whose first part is rewritten
pub part-relined : (form : Form) (c : Counts) (b x : List ℕ) (start : ℕ) → 3200 ≤ start → start ≤ length b
    → x ≡ if◌then◌else◌ (leb 3200 (length (take start b))) (relined form c (take start b)) (take start b) → x ++ drop start b ≡ relined form c b
part-relined form c b x start k l e =
    let n : length (take start b) ≡ start = length-take-le start b l in
    let y : x ≡ relined form c (take start b) = e ∙ rw (n, le-leb 3200 start k) in
    ap (λ (a : List ℕ). a ++ drop start b) y ∙ sym (front-relined form c (take start b) (drop start b) (rw n k)) ∙ ap (relined form c) (take-append-drop start b)

front-rewritten : (form : Form) (s : Stored) (h r : List ℕ) → 3200 ≤ length h → rewritten form s (h ++ r) ≡ rewritten form s h ++ r
front-rewritten form s h r k =
    sym (relined-stored form s (h ++ r)) ∙ front-relined form (stored_counts s) h r k ∙ ap (λ (l : List ℕ). l ++ r) (relined-stored form s h)

held-rewritten : (N : ℕ) (form : Form) (s : Stored) (h b : List ℕ) → 3200 ≤ length h → rewritten form s (held_bytes N (h ++ b)) ≡ held_bytes N (rewritten form s h ++ b)
unfolding held_bytes
held-rewritten N form s h b k =
    let Z : List ℕ = zeros (N - length (h ++ b)) in
    let n : length (h ++ b) ≡ length (rewritten form s h ++ b) = simp length-append (omega (arith, (rewritten-agree form s h k).size)) in
    ap (rewritten form s) (append_assoc h b Z)
    ∙ front-rewritten form s h (b ++ Z) k
    ∙ sym (append_assoc (rewritten form s h) b Z)
    ∙ ap (λ (m : ℕ). (rewritten form s h ++ b) ++ zeros (N - m)) n

pub frame-parts : (header : List ℕ) (form : Form) (s : Stored) → frame_bytes header form s ≡ rewritten form s header ++ body_bytes form s
unfolding frame_bytes
frame-parts header form s = refl

-- The theorem, for the place of a pixel.
module _ (N : ℕ) (header : List ℕ) (form : Form) (base : ℕ) (vs : List ℕ) (j x : ℕ) (h : j < length vs) (long : 3200 ≤ length header)
    (room : length (frame_bytes header form (stored_for form base vs)) ≤ N) (room' : length (frame_bytes header form (stored_for form base (set vs j x))) ≤ N) where
  abbrev lines : List ℕ
  lines = rewritten form (stored_for form base vs) header

  lines_long : length lines ≡ length header
  lines_long = (rewritten-agree form (stored_for form base vs) header long).size

  room-old : length (lines ++ body_bytes form (around form base vs j h (stored_one form base (get_or vs j 0)))) ≤ N
  room-old = rw (← stored_at form base vs j h, ← frame-parts) room

  room-new : length (lines ++ body_bytes form (around form base vs j h (stored_one form base x))) ≤ N
  room-new =
      let s = stored_for form base (set vs j x) in
      let e = ap length (frame-parts header form s) ∙ length-append (rewritten form s header) (body_bytes form s) in
      rw (← stored-set form base vs j h x, length-append) (omega (arith, e, lines_long, (rewritten-agree form s header long).size))

  -- every edit fits
  pub edits-fit : AllFit N (image_stop (place_of header form base vs j)) (under_cut (place_of header form base vs j) x) (two_cut (place_of header form base vs j) x) (four_cut (place_of header form base vs j) x)
  edits-fit = all_fit N header lines form base vs j x h lines_long room-old room-new

  pub replaced-law : replaced_bytes (place_of header form base vs j) j x (held_bytes N (frame_bytes header form (stored_for form base vs))) ≡ held_bytes N (frame_bytes header form (stored_for form base (set vs j x)))
  unfolding replaced_bytes
  replaced-law =
      let s : Stored = stored_for form base vs in
      let s' : Stored = stored_for form base (set vs j x) in
      let p : Place = place_of header form base vs j in
      let edits : List ℕ → List ℕ = λ b. cut_all (image_stop p) (under_cut p x) (two_cut p x) (four_cut p x) (image_replaced p j x b) in
      let was : frame_bytes header form s ≡ lines ++ body_bytes form (around form base vs j h (stored_one form base (get_or vs j 0))) =
      frame-parts header form s ∙ ap (λ (q : Stored). lines ++ body_bytes form q) (stored_at form base vs j h) in
      ap (λ (b : List ℕ). relined form (entries_after p x) (edits (held_bytes N b))) was
      ∙ ap (relined form (entries_after p x)) (body-replaced N header lines form base vs j x h lines_long room-old room-new ∙ ap (λ (q : Stored). held_bytes N (lines ++ body_bytes form q)) (sym (stored-set form base vs j h x)))
      ∙ ap (λ (c : Counts). relined form c (held_bytes N (lines ++ body_bytes form s'))) (counts-set form base vs j h x)
      ∙ relined-stored form s' (held_bytes N (lines ++ body_bytes form s'))
      ∙ held-rewritten N form s' lines (body_bytes form s') (omega (arith, lines_long))
      ∙ ap (λ (l : List ℕ). held_bytes N (l ++ body_bytes form s')) (rewritten-twice form s s' header long)
      ∙ ap (held_bytes N) (sym (frame-parts header form s'))
