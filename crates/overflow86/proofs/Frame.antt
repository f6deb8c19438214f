-- The ways through a frame: refusals 10 and 11, and the parts that the filling is lent.
-- Assumes nothing.
use Rattle.std.specs.Prelude.{Err, Ok, Result}
use Rattle.refusal.specs.declared.Refusal.{Refusal}
use mathlib.Core.Path.{◌≡◌, ◌∙◌}
use mathlib.Core.List.{List, ◌++◌}
use Prim.Native.Nat.{ℕ, ◌+◌, ◌-◌, ◌*◌, ◌≤◌, ◌<◌}
use native.Mathlib.Omega.{arith}
use lib.ListN.{length, take, drop, length-drop}
use lib.Seq.{length-take-le}
use borrow.Author.Tests.{lt-ltb, le-ltb}
use Rattle.lists.specs.Chain.{on_ok}
use Rattle.refusal.specs.declared.Refusal.TheVariants as R
use Rattle.layout.specs.declared.Image.{Image}
use Rattle.layout.specs.Form.{width_bytes}
use Rattle.layout.specs.Layout.{pixel_count, image_end, text_table_bytes, text_end}
use Rattle.table.specs.Table.{entries}
use Rattle.table.proofs.Laws.{entries-take as stored-take}
use Rattle.overflow86.specs.Entries.{text_entries}
use Rattle.overflow86.specs.Expand86.{checked_of, frame_pixels, stored_image, table_entries, text_answer, text_pixels}
use Rattle.overflow86.proofs.Texts.{entries-take}

-- the table has room for its entries
pub table-room : (n : ℕ) → n * 16 ≤ text_table_bytes n
unfolding text_table_bytes
table-room n = omega arith

pub table-small : (n : ℕ) → text_table_bytes n ≤ n * 16 + 511
unfolding text_table_bytes
table-small n = omega arith

module _ (bytes px : List ℕ) (i : Image) (n : ℕ) where
  pub short : length px < pixel_count i → (Err R.PixelArrayShort ≡ text_answer bytes i n (length px)) × (px ≡ text_pixels bytes i n px)
  unfolding text_answer text_pixels
  short h = (rw (lt-ltb _ _ h), rw (lt-ltb _ _ h))

  pub truncated : pixel_count i ≤ length px → length bytes < text_end i n → (Err R.DataTruncated ≡ text_answer bytes i n (length px)) × (px ≡ text_pixels bytes i n px)
  unfolding text_answer text_pixels
  truncated h k = (rw (le-ltb _ _ h, lt-ltb _ _ k), rw (le-ltb _ _ h, lt-ltb _ _ k))

  -- the stored pixels and the entries of the parts from a to t and from t to e
  part-stored : (a t : ℕ) → pixel_count i ≤ length px → a ≡ i.start → t ≡ image_end i
      → entries (width_bytes i.width) (length (take (pixel_count i) px)) (take (t - a) (drop a bytes)) ≡ stored_image bytes i
  part-stored a t h p q =
      let k : t - a ≡ pixel_count i * width_bytes i.width = omega arith in
      rw (length-take-le _ px h, k, p, stored-take (width_bytes i.width) (pixel_count i) (pixel_count i * width_bytes i.width) (drop i.start bytes) (omega arith))

  part-entries : (t e : ℕ) → t ≡ image_end i → e ≡ text_end i n → text_entries n (take (e - t) (drop t bytes)) ≡ table_entries bytes i n
  part-entries t e p q =
      let k : e - t ≡ text_table_bytes n = omega arith in
      rw (k, p, entries-take n (text_table_bytes n) (drop (image_end i) bytes) (table-room n))

  pub framed : (m a t e : ℕ) (checked : Result (Unit {0}) Refusal) (out : List ℕ) (r : Result ℕ Refusal) → m ≡ pixel_count i → m ≤ length px → a ≡ i.start → t ≡ image_end i → e ≡ text_end i n → e ≤ length bytes
      → (checked ≡ checked_of i.width (entries (width_bytes i.width) (length (take m px)) (take (t - a) (drop a bytes))) (text_entries n (take (e - t) (drop t bytes))))
      × (out ≡ frame_pixels i.width (entries (width_bytes i.width) (length (take m px)) (take (t - a) (drop a bytes))) (text_entries n (take (e - t) (drop t bytes))))
      → r ≡ on_ok checked Err (λ _. Ok e)
      → (r ≡ text_answer bytes i n (length px)) × (out ++ drop m px ≡ text_pixels bytes i n px)
  unfolding text_answer text_pixels
  framed m a t e checked out r pm h pa pt pe k f s =
      let h' : pixel_count i ≤ length px = rw pm at h in
      let v = part-stored a t h' pa pt in
      let w = part-entries t e pt pe in
      let l : text_end i n ≤ length bytes = rw pe at k in
      (s ∙ rw (f.0, pm, v, w, le-ltb _ _ h', le-ltb _ _ l, pe), rw (f.1, pm, v, w, le-ltb _ _ h', le-ltb _ _ l))

  -- what the filling asks of the two parts
  pub parts-room : (m a t e : ℕ) → m ≡ pixel_count i → m ≤ length px → a ≡ i.start → t ≡ image_end i → e ≡ text_end i n → e ≤ length bytes
      → (length (take m px) * width_bytes i.width ≤ length (take (t - a) (drop a bytes))) × (n * 16 ≤ length (take (e - t) (drop t bytes)))
  parts-room m a t e pm h pa pt pe k =
      let l : length (take (t - a) (drop a bytes)) ≡ t - a = length-take-le _ _ (simp length-drop (omega arith)) in
      let o : length (take (e - t) (drop t bytes)) ≡ e - t = length-take-le _ _ (simp length-drop (omega arith)) in
      (rw (length-take-le _ px h, l, pm) (omega arith), rw o (omega (arith, table-room n)))
