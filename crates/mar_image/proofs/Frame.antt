-- The ways through a plate: refusals 10 and 11, and the parts that the filling is lent.
-- Assumes nothing.
use Rattle.layout.specs.declared.Frame.{Frame}
use Rattle.std.specs.Prelude.{Result, Err}
use Rattle.refusal.specs.declared.Refusal.{Refusal}
use mathlib.Core.Path.{◌≡◌, refl, ◌∙◌}
use mathlib.Core.List.{List, ◌++◌}
use Prim.Native.Nat.{ℕ, zero, suc, ◌+◌, ◌-◌, ◌*◌, ◌≤◌, ◌<◌}
use native.Mathlib.Omega.{arith}
use lib.ListN.{length, take, drop, length-drop}
use lib.Seq.{length-take-le}
use borrow.Author.Tests.{lt-ltb, le-ltb}
use Rattle.lists.proofs.Parts.{drop-take}
use Rattle.refusal.specs.declared.Refusal.TheVariants as R
use Rattle.byte_order.specs.declared.ByteOrder.{ByteOrder}
use Rattle.byte_order.specs.Numbers.{numbers}
use Rattle.byte_order.proofs.Laws.{numbers-take, number-at-take}
use Rattle.mar_header.specs.declared.Side.{Side}
use Rattle.mar_header.specs.declared.Side.TheVariants as S
use Rattle.mar_header.specs.declared.MarHeader.{MarHeader}
use Rattle.mar_header.specs.Plate.{side_pixels, plate_pixel_count, record_bytes, records_for}
use Rattle.mar_image.specs.Pairs.{pair_at, pair_entries}
use Rattle.mar_image.specs.MarImage.{image_start, image_end, plate_end, stored_image, stored_pairs, checked_pairs, plate_pixels, answer_by, image_answer, image_pixels}

pub pairs-take : (o : ByteOrder) (n m : ℕ) (t : List ℕ) → n * 8 ≤ m → pair_entries o n (take m t) ≡ pair_entries o n t
unfolding pair_entries pair_at
pairs-take o zero m t h = refl
pairs-take o (suc n) m t h =
    rw (number-at-take o 4 0 m t (omega arith), number-at-take o 4 1 m t (omega arith), drop-take 8 m t, pairs-take o n (m - 8) (drop 8 t) (omega arith))

-- the records have room for their pairs
pub records-room : (s : Side) (n : ℕ) → n * 8 ≤ records_for s n * record_bytes s
unfolding records_for
records-room S.Small n = omega arith
records-room S.Large n = omega arith

pub count-le : (s : Side) → plate_pixel_count s ≤ 4000000
count-le S.Small = omega arith
count-le S.Large = omega arith

pub records-le : (s : Side) (r : ℕ) → r * record_bytes s ≤ r * 4000
records-le S.Small r = omega arith
records-le S.Large r = omega arith

module _ (bytes px : List ℕ) (h : MarHeader) where
  pub short : length px < plate_pixel_count h.side → (Err R.PixelArrayShort ≡ image_answer bytes h (length px)) × (px ≡ image_pixels bytes h px)
  unfolding image_answer image_pixels
  short l = (rw (lt-ltb _ _ l), rw (lt-ltb _ _ l))

  pub truncated : plate_pixel_count h.side ≤ length px → length bytes < plate_end h → (Err R.DataTruncated ≡ image_answer bytes h (length px)) × (px ≡ image_pixels bytes h px)
  unfolding image_answer image_pixels
  truncated l k = (rw (le-ltb _ _ l, lt-ltb _ _ k), rw (le-ltb _ _ l, lt-ltb _ _ k))

  -- the stored pixels and the pairs of the parts from a to t and from t to e
  module _ (m a t e : ℕ) (pm : m ≡ plate_pixel_count h.side) (room : m ≤ length px) (pa : a ≡ image_start h.side) (pt : t ≡ image_end h.side) (pe : e ≡ plate_end h) (k : e ≤ length bytes) where
    part-stored : numbers h.order 2 (length (take m px)) (take (t - a) (drop a bytes)) ≡ stored_image bytes h
    part-stored =
        let s : t - a ≡ plate_pixel_count h.side * 2 = omega arith in
        rw (length-take-le m px room, pm, s, pa, numbers-take h.order 2 (plate_pixel_count h.side) (plate_pixel_count h.side * 2) (drop (image_start h.side) bytes) (omega arith))

    part-pairs : pair_entries h.order h.pairs (take (e - t) (drop t bytes)) ≡ stored_pairs bytes h
    part-pairs =
        let s : e - t ≡ records_for h.side h.pairs * record_bytes h.side = omega arith in
        rw (s, pt, pairs-take h.order h.pairs (records_for h.side h.pairs * record_bytes h.side) (drop (image_end h.side) bytes) (records-room h.side h.pairs))

    -- what the filling asks of the two parts
    pub parts-room : (length (take m px) * 2 ≤ length (take (t - a) (drop a bytes))) × (h.pairs * 8 ≤ length (take (e - t) (drop t bytes)))
    parts-room =
        let l : length (take (t - a) (drop a bytes)) ≡ t - a = length-take-le _ _ (simp length-drop (omega arith)) in
        let o : length (take (e - t) (drop t bytes)) ≡ e - t = length-take-le _ _ (simp length-drop (omega arith)) in
        (rw (length-take-le m px room, l) (omega arith), rw o (omega (arith, records-room h.side h.pairs)))

    pub framed : (checked : Result (Unit {0}) Refusal) (out : List ℕ) (r : Result Frame Refusal)
        → (checked ≡ checked_pairs (numbers h.order 2 (length (take m px)) (take (t - a) (drop a bytes))) (pair_entries h.order h.pairs (take (e - t) (drop t bytes))))
        × (out ≡ plate_pixels (numbers h.order 2 (length (take m px)) (take (t - a) (drop a bytes))) (pair_entries h.order h.pairs (take (e - t) (drop t bytes))))
        → r ≡ answer_by h.side e checked
        → (r ≡ image_answer bytes h (length px)) × (out ++ drop m px ≡ image_pixels bytes h px)
    unfolding image_answer image_pixels
    framed checked out r f s =
        let l : plate_pixel_count h.side ≤ length px = rw pm at room in
        let n : plate_end h ≤ length bytes = rw pe at k in
        (s ∙ rw (f.0, part-stored, part-pairs, le-ltb _ _ l, le-ltb _ _ n, pe), rw (f.1, part-stored, part-pairs, pm, le-ltb _ _ l, le-ltb _ _ n))

  -- the same of the width of a row and the number of records
  module _ (w r : ℕ) (pw : w ≡ side_pixels h.side) (pr : r ≡ records_for h.side h.pairs) (room : (w * w) ≤ length px) (k : (w * 2 + w * w * 2 + r * (w * 2)) ≤ length bytes) where
    abbrev table_start : ℕ
    table_start = w * 2 + w * w * 2

    abbrev table_end : ℕ
    table_end = table_start + r * (w * 2)

    pub lent-room : (length (take (w * w) px) * 2 ≤ length (take (table_start - w * 2) (drop (w * 2) bytes))) × (h.pairs * 8 ≤ length (take (table_end - table_start) (drop table_start bytes)))
    lent-room = parts-room (w * w) (w * 2) table_start table_end (rw pw) room (rw pw) (rw pw) (rw (pw, pr)) k

    pub lent-framed : (checked : Result (Unit {0}) Refusal) (out : List ℕ) (a : Result Frame Refusal)
        → (checked ≡ checked_pairs (numbers h.order 2 (length (take (w * w) px)) (take (table_start - w * 2) (drop (w * 2) bytes))) (pair_entries h.order h.pairs (take (table_end - table_start) (drop table_start bytes))))
        × (out ≡ plate_pixels (numbers h.order 2 (length (take (w * w) px)) (take (table_start - w * 2) (drop (w * 2) bytes))) (pair_entries h.order h.pairs (take (table_end - table_start) (drop table_start bytes))))
        → a ≡ answer_by h.side table_end checked
        → (a ≡ image_answer bytes h (length px)) × (out ++ drop (w * w) px ≡ image_pixels bytes h px)
    lent-framed = framed (w * w) (w * 2) table_start table_end (rw pw) room (rw pw) (rw pw) (rw (pw, pr)) k
