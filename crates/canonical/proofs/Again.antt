-- A buffer whose parts pass the check is the writer's frame for the numbers read from it, and zeros.
-- Assumes nothing.
use mathlib.Core.Path.{◌≡◌, sym, ap, ◌∙◌}
use mathlib.Core.Bool.{true, ◌&&◌}
use mathlib.Core.List.{List, ◌++◌, append_assoc}
use Prim.Native.Nat.{ℕ, ◌-◌, ◌≤◌}
use native.Mathlib.Omega.{arith}
use lib.ListN.{length, take, drop, length-drop, take-append-drop}
use lib.Seq.{take-add, length-take-le}
use Rattle.lists.specs.Bytes.{zeros, held_bytes}
use Rattle.lists.proofs.Tests.{and-true-left, and-true-right}
use Rattle.layout.specs.declared.Image.{Image}
use Rattle.layout.specs.declared.BinaryTables.{BinaryTables}
use Rattle.layout.specs.declared.Form.{Form}
use Rattle.layout.specs.Form.{width_bytes, underflow_bytes}
use Rattle.layout.specs.Layout.{pixel_count, image_bytes, image_end, table_bytes, underflow_count, underflow_width, two_start, four_start, binary_end}
use Rattle.table.specs.Table.{all_zero}
use Rattle.table.specs.Writing.{table_of, padded_table}
use Rattle.expand.specs.Steps.{Stored}
use Rattle.expand.specs.Expand.{stored_of, table_padding_zero, padding_zero}
use Rattle.writer.specs.Frame.{rewritten, body_bytes, frame_bytes}
use Rattle.canonical.proofs.Bytes.{Bytes, bytes_drop, table-again, zeros-are, padded-again}

module _ (held : List ℕ) (i : Image) (t : BinaryTables) (form : Form) (bytes : Bytes held) (width : form.width ≡ i.width)
    (entry : underflow_bytes form.underflow ≡ underflow_width t.underflows) (whole : binary_end i t ≤ length held) (padded : padding_zero held i t ≡ true) where
  abbrev u : ℕ
  u = table_bytes (underflow_width t.underflows) (underflow_count t.underflows)

  abbrev s : Stored
  s = stored_of held i t

  image-again : table_of (width_bytes form.width) s.image ≡ take (image_bytes i) (drop i.start held)
  unfolding stored_of
  image-again = rw width (table-again (width_bytes i.width) (pixel_count i) (drop i.start held) (bytes_drop i.start held bytes) (rw length-drop (omega arith)))

  three-true : (table_padding_zero (underflow_width t.underflows) (underflow_count t.underflows) (image_end i) held ≡ true)
      × (table_padding_zero 2 t.two (two_start i t) held ≡ true) × (table_padding_zero 4 t.four (four_start i t) held ≡ true)
  unfolding padding_zero
  three-true =
      let l = and-true-left (table_padding_zero (underflow_width t.underflows) (underflow_count t.underflows) (image_end i) held && table_padding_zero 2 t.two (two_start i t) held) _ padded in (
        and-true-left _ (table_padding_zero 2 t.two (two_start i t) held) l,
        and-true-right (table_padding_zero (underflow_width t.underflows) (underflow_count t.underflows) (image_end i) held) _ l,
        and-true-right (table_padding_zero (underflow_width t.underflows) (underflow_count t.underflows) (image_end i) held && table_padding_zero 2 t.two (two_start i t) held) _ padded,
      )

  under-again : padded_table (underflow_bytes form.underflow) s.under ≡ take u (drop (image_end i) held)
  unfolding stored_of
  under-again = rw entry (padded-again (underflow_width t.underflows) (underflow_count t.underflows) (image_end i) held bytes (omega arith) three-true.0)

  two-again : padded_table 2 s.two ≡ take (table_bytes 2 t.two) (drop (two_start i t) held)
  unfolding stored_of
  two-again = padded-again 2 t.two (two_start i t) held bytes (omega arith) three-true.1

  four-again : padded_table 4 s.four ≡ take (table_bytes 4 t.four) (drop (four_start i t) held)
  unfolding stored_of
  four-again = padded-again 4 t.four (four_start i t) held bytes whole three-true.2

  parts_again : take (binary_end i t) held
      ≡ take i.start held ++ (take (image_bytes i) (drop i.start held) ++ (take u (drop (image_end i) held) ++ (take (table_bytes 2 t.two) (drop (two_start i t) held) ++ take (table_bytes 4 t.four) (drop (four_start i t) held))))
  parts_again =
      take-add (four_start i t) (table_bytes 4 t.four) held
      ∙ ap (λ (l : List ℕ). l ++ take (table_bytes 4 t.four) (drop (four_start i t) held))
      (take-add (two_start i t) (table_bytes 2 t.two) held
      ∙ ap (λ (l : List ℕ). l ++ take (table_bytes 2 t.two) (drop (two_start i t) held))
      (take-add (image_end i) u held
      ∙ ap (λ (l : List ℕ). l ++ take u (drop (image_end i) held)) (take-add i.start (image_bytes i) held)))
      ∙ simp append_assoc

  body-again : body_bytes form s
      ≡ take (image_bytes i) (drop i.start held) ++ (take u (drop (image_end i) held) ++ (take (table_bytes 2 t.two) (drop (two_start i t) held) ++ take (table_bytes 4 t.four) (drop (four_start i t) held)))
  unfolding body_bytes
  body-again = rw (image-again, under-again, two-again, four-again)

  pub frame-again : rewritten form s (take i.start held) ≡ take i.start held → frame_bytes (take i.start held) form s ≡ take (binary_end i t) held
  unfolding frame_bytes
  frame-again same = rw (same, body-again) (sym parts_again)

  pub held-again : rewritten form s (take i.start held) ≡ take i.start held → all_zero (drop (binary_end i t) held) ≡ true
      → held_bytes (length held) (frame_bytes (take i.start held) form s) ≡ held
  unfolding held_bytes
  held-again same zero =
      let l : length (take (binary_end i t) held) ≡ binary_end i t = length-take-le (binary_end i t) held whole in
      let z : drop (binary_end i t) held ≡ zeros (length held - binary_end i t) = zeros-are (drop (binary_end i t) held) zero ∙ ap zeros (length-drop (binary_end i t) held) in
      rw (frame-again same, l, ← z) (take-append-drop (binary_end i t) held)
