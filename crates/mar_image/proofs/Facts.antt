-- What request A2 says of reading as theorems on the definitions that `read` meets.
-- Assumes nothing.
use Rattle.layout.specs.Layout.{frame_read}
use Rattle.layout.specs.declared.Frame.{Frame}
use Rattle.marks.specs.declared.Entry.{Entry}
use Rattle.std.specs.Prelude.{Err, Ok, Result, Option}
use mathlib.Core.Path.{◌≡◌, refl, sym, ◌∙◌}
use mathlib.Core.Bool.{Bool, true, false}
use mathlib.Core.List.{List, [], ◌++◌}
use Prim.Native.Nat.{ℕ, ◌+◌, ◌-◌, ◌*◌, ◌≤◌}
use native.Mathlib.Omega.{arith}
use lib.ListN.{length, take, drop, length-replicate}
use lib.Seq.{drop_at}
use lib.Dec.{ltb}
use borrow.Author.Tests.{le-ltb, ltb-false}
use Rattle.lists.proofs.Parts.{drop-take}
use Rattle.refusal.specs.declared.Refusal.{Refusal}
use Rattle.refusal.specs.declared.Refusal.TheVariants as R
use Rattle.layout.specs.declared.Width.TheVariants as W
use Rattle.marks.specs.Marks.{with_entries, pixels_by}
use Rattle.marks.proofs.Laws.{with-length}
use Rattle.marks.proofs.Facts.{Standing, good-stands, stands_good, bad-is-entry}
use Rattle.byte_order.specs.Numbers.{numbers}
use Rattle.byte_order.proofs.Laws.{length-numbers, numbers-take}
use Rattle.mar_header.specs.declared.Side.{Side}
use Rattle.mar_header.specs.declared.MarHeader.{MarHeader}
use Rattle.mar_header.specs.Plate.{side_pixels, plate_pixel_count}
use Rattle.mar_header.specs.MarHeader.{mar_header}
use Rattle.mar_image.specs.Pairs.{pair_entries}
use Rattle.mar_image.proofs.Frame.{pairs-take}
use Rattle.mar_image.specs.MarImage.{image_start, image_end, plate_end, stored_image, stored_pairs, checked_pairs, plate_pixels, answer_by, image_answer, image_pixels, mar_answer, mar_pixels}

answer-refused : (s : Side) (end : ℕ) {r : Refusal} (c : Result (Unit {0}) Refusal) → answer_by s end c ≡ Err r → c ≡ Err r
answer-refused s end (Ok tt) q = absurd (let y : ◌≡◌ {A = ℕ} 0 1 = cc in omega arith)
answer-refused s end (Err x) q = cc

answer-plate : (s : Side) (end : ℕ) {f : Frame} (c : Result (Unit {0}) Refusal) → answer_by s end c ≡ Ok f → c ≡ (Ok tt)
answer-plate s end (Ok tt) q = refl
answer-plate s end (Err x) q = absurd (let y : ◌≡◌ {A = ℕ} 0 1 = cc in omega arith)

plate-length : (vs : List ℕ) (es : List (Option Entry)) → length (plate_pixels vs es) ≡ length vs
unfolding plate_pixels
plate-length vs es = go (checked_pairs vs es)
  where
    go : (c : Result (Unit {0}) Refusal) → length (pixels_by c (with_entries 65535 W.Two es 0 vs)) ≡ length vs
    go (Ok tt) = with-length 65535 W.Two es 0 vs
    go (Err r) = rw (length-replicate, with-length)

module _ (bytes px : List ℕ) (h : MarHeader) (header : mar_header bytes ≡ Ok h) where
  image-kept : {r : Refusal} → image_answer bytes h (length px) ≡ Err r → ((j : ℕ) → r ≡ R.BadEntry j → ⊥) → image_pixels bytes h px ≡ px
  unfolding image_answer image_pixels
  image-kept {r} a n = go (ltb (length px) (plate_pixel_count h.side)) refl (ltb (length bytes) (plate_end h)) refl
    where
      go : (b : Bool) → ltb (length px) (plate_pixel_count h.side) ≡ b → (d : Bool) → ltb (length bytes) (plate_end h) ≡ d → image_pixels bytes h px ≡ px
      go true p d q = rw p
      go false p true q = rw (p, q)
      go false p false q = absurd (bad-is-entry W.Two (stored_image bytes h) [] 0 (stored_pairs bytes h) (answer-refused h.side (plate_end h) (checked_pairs (stored_image bytes h) (stored_pairs bytes h)) (rw (p, q) at a)) n)

  -- places past N are never written
  pub past-kept : drop (plate_pixel_count h.side) (mar_pixels bytes px) ≡ drop (plate_pixel_count h.side) px
  unfolding mar_pixels image_pixels
  past-kept = rw header (go (ltb (length px) (plate_pixel_count h.side)) refl (ltb (length bytes) (plate_end h)) refl)
    where
      go : (b : Bool) → ltb (length px) (plate_pixel_count h.side) ≡ b → (d : Bool) → ltb (length bytes) (plate_end h) ≡ d
          → drop (plate_pixel_count h.side) (image_pixels bytes h px) ≡ drop (plate_pixel_count h.side) px
      go true p d q = rw p
      go false p true q = rw (p, q)
      go false p false q = rw (p, q) (drop_at (plate_pixels (stored_image bytes h) (stored_pairs bytes h)) (drop (plate_pixel_count h.side) px) (plate_pixel_count h.side) (rw (plate-length, length-numbers)))

  -- an accepted plate: the array and the file are long enough, every pair is well formed and at a pixel of 65535, no pixel has two, and the
  -- array has the stored image with their counts; a 65535 without a pair stays
  pub record Accepted : Type 0 where
    pub room : plate_pixel_count h.side ≤ length px
    pub whole : plate_end h ≤ length bytes
    pub stand : Standing W.Two (stored_image bytes h) (stored_pairs bytes h)
    pub pixels : mar_pixels bytes px ≡ with_entries 65535 W.Two (stored_pairs bytes h) 0 (stored_image bytes h) ++ drop (plate_pixel_count h.side) px

  pub accepted : {f : Frame} → mar_answer bytes (length px) ≡ Ok f → Accepted
  unfolding mar_answer mar_pixels image_answer image_pixels plate_pixels
  accepted {f} a = go (ltb (length px) (plate_pixel_count h.side)) refl (ltb (length bytes) (plate_end h)) refl
    where
      go : (b : Bool) → ltb (length px) (plate_pixel_count h.side) ≡ b → (d : Bool) → ltb (length bytes) (plate_end h) ≡ d → Accepted
      go true p d q = absurd (let z : Err R.PixelArrayShort ≡ Ok f = rw (header, p) at a in let y : ◌≡◌ {A = ℕ} 0 1 = cc in omega arith)
      go false p true q = absurd (let z : Err R.DataTruncated ≡ Ok f = rw (header, p, q) at a in let y : ◌≡◌ {A = ℕ} 0 1 = cc in omega arith)
      go false p false q =
          let g : checked_pairs (stored_image bytes h) (stored_pairs bytes h) ≡ (Ok tt) = answer-plate h.side (plate_end h) (checked_pairs (stored_image bytes h) (stored_pairs bytes h)) (rw (header, p, q) at a) in
          record {
            room = ltb-false _ _ p;
            whole = ltb-false _ _ q;
            stand = good-stands W.Two (stored_image bytes h) (stored_pairs bytes h) g;
            pixels = rw (header, p, q, g);
          }

  -- and where room, file and pairs are so, the plate is accepted
  pub accepted-if : plate_pixel_count h.side ≤ length px → plate_end h ≤ length bytes → Standing W.Two (stored_image bytes h) (stored_pairs bytes h)
      → mar_answer bytes (length px) ≡ Ok (frame_read (side_pixels h.side) (side_pixels h.side) (plate_end h))
  unfolding mar_answer image_answer
  accepted-if r k s = rw (header, le-ltb _ _ r, le-ltb _ _ k, stands_good W.Two (stored_image bytes h) (stored_pairs bytes h) s)

-- only refusal 13 touches the array
pub only-13-touches : (bytes px : List ℕ) {r : Refusal} → mar_answer bytes (length px) ≡ Err r → ((j : ℕ) → r ≡ R.BadEntry j → ⊥) → mar_pixels bytes px ≡ px
unfolding mar_answer mar_pixels
only-13-touches bytes px {r} a n = go (mar_header bytes) refl
  where
    go : (m : Result MarHeader Refusal) → mar_header bytes ≡ m → mar_pixels bytes px ≡ px
    go (Err x) q = rw q
    go (Ok h) q = rw q (image-kept bytes px h q (rw q at a) n)

-- neither the rest of the last record nor what follows it is examined: only the first bytes count, up to the end of the last pair
module _ (a b : List ℕ) (h : MarHeader) (m : ℕ) (seen : image_end h.side + h.pairs * 8 ≤ m) (same : take m a ≡ take m b) where
  image-front : (t : List ℕ) → numbers h.order 2 (plate_pixel_count h.side) (drop (image_start h.side) (take m t)) ≡ stored_image t h
  image-front t = rw drop-take (numbers-take h.order 2 (plate_pixel_count h.side) (m - image_start h.side) (drop (image_start h.side) t) (omega arith))

  pairs-front : (t : List ℕ) → pair_entries h.order h.pairs (drop (image_end h.side) (take m t)) ≡ stored_pairs t h
  pairs-front t = rw drop-take (pairs-take h.order h.pairs (m - image_end h.side) (drop (image_end h.side) t) (omega arith))

  pub rest-unexamined : mar_header a ≡ Ok h → mar_header b ≡ Ok h → plate_end h ≤ length a → plate_end h ≤ length b → (px : List ℕ)
      → (mar_answer a (length px) ≡ mar_answer b (length px)) × (mar_pixels a px ≡ mar_pixels b px)
  unfolding mar_answer mar_pixels image_answer image_pixels
  rest-unexamined p q k l px =
      let i : stored_image a h ≡ stored_image b h = sym (image-front a) ∙ rw same (image-front b) in
      let j : stored_pairs a h ≡ stored_pairs b h = sym (pairs-front a) ∙ rw same (pairs-front b) in
      (rw (p, q, le-ltb _ _ k, le-ltb _ _ l, i, j), rw (p, q, le-ltb _ _ k, le-ltb _ _ l, i, j))
