-- What the functions on a place rely on: the edits fit, and leave the writer's frame.
-- Assumes nothing.
use mathlib.Core.Path.{◌≡◌, refl, sym, ap, ◌∙◌, subst}
use mathlib.Core.List.{List, [], ◌++◌}
use Prim.Native.Nat.{ℕ, suc, ◌+◌, ◌-◌, ◌*◌, ◌≤◌}
use native.Mathlib.Omega.{arith}
use lib.ListN.{length, take, drop, set, get_or, length-append, length-set, length-replicate}
use Rattle.lists.specs.Bytes.{zeros, held_bytes}
use Rattle.layout.specs.declared.Form.{Form}
use Rattle.layout.specs.Form.{width_bytes}
use Rattle.expand.specs.Steps.{Stored}
use Rattle.writer.specs.Storing.{stored_for}
use Rattle.writer.specs.Frame.{stored_counts, rewritten, body_bytes, frame_bytes}
use Rattle.table.proofs.Laws.{within}
use Rattle.readback.proofs.Storing.{image-count, under-count, two-count, four-count}
use Rattle.readback.proofs.Body.{length-body}
use Rattle.readback.proofs.Rewriting.{rewritten-agree}
use Rattle.canonical.specs.declared.Place.{Place}
use Rattle.replacement.specs.Replaced.{AllFit, under_cut, two_cut, four_cut, image_stop, stored_one, entries_one, entries_after, replaced_bytes, length_with, Placed}
use Rattle.replacement.specs.Answered.{length_after}
use Rattle.replacement.proofs.Theorem.{place_of, frame-parts, edits-fit, replaced-law}
use Rattle.replacement.proofs.Values.{stored_at, counts-set}

module _ (held : List ℕ) (p : Place) (pixel : ℕ) (f : Placed held p pixel) where
  abbrev form : Form
  form = p.form

  abbrev base : ℕ
  base = p.baseline

  place_is : p ≡ place_of f.header p.form p.baseline f.counts pixel
  place_is = λ i. record {
    start = f.starts i;
    pixels = f.all i;
    form = p.form;
    baseline = p.baseline;
    entries = f.entries i;
    before = f.before i;
    old = f.old i;
  }

  -- the length of the frame with other counts
  frame-length : (vs : List ℕ) → length vs ≡ length f.counts → length_with p (stored_counts (stored_for form base vs)) ≡ length (frame_bytes f.header form (stored_for form base vs))
  unfolding length_with
  frame-length vs e =
      let s : Stored = stored_for form base vs in
      sym
      (ap length (frame-parts f.header form s)
      ∙ length-append (rewritten form s f.header) (body_bytes form s)
      ∙ rw ((rewritten-agree form s f.header f.long).size, length-body form s [] [], image-count form base vs, e, f.starts, f.all) (omega arith))

  held-length : length (frame_bytes f.header form (stored_for form base f.counts)) ≤ length held
  unfolding held_bytes
  held-length =
      let b : List ℕ = frame_bytes f.header form (stored_for form base f.counts) in
      omega (arith, ap length f.frame, length-append b (zeros (length held - length b)), length-replicate {A = ℕ} (length held - length b) 0)

  few-entries : (form : Form) (base : ℕ) (vs : List ℕ) → length vs ≤ 16777216
      → (length (stored_for form base vs).under ≤ 16777216) × (length (stored_for form base vs).two ≤ 16777216) × (length (stored_for form base vs).four ≤ 16777216)
  few-entries form base vs h = (omega (arith, under-count form base vs), omega (arith, two-count form base vs), omega (arith, four-count form base vs))

  pub placed-few : (p.entries.under ≤ 16777216) × (p.entries.two ≤ 16777216) × (p.entries.four ≤ 16777216)
  placed-few = rw f.entries (few-entries form base f.counts f.few)

  own-entries : (a o b : List ℕ) (n : ℕ) → n ≡ length (a ++ (o ++ b)) → length o ≤ n
  own-entries a o b n e = omega (arith, e, length-append a (o ++ b), length-append o b)

  pub placed-own : ((entries_one form base p.old).under ≤ p.entries.under) × ((entries_one form base p.old).two ≤ p.entries.two) × ((entries_one form base p.old).four ≤ p.entries.four)
  placed-own =
      let e = stored_at form base f.counts pixel f.inside in
      rw (f.entries, f.old) (
        own-entries (stored_for form base (take pixel f.counts)).under (stored_one form base (get_or f.counts pixel 0)).under (stored_for form base (drop (suc pixel) f.counts)).under _ (ap (λ (s : Stored). length s.under) e),
        own-entries (stored_for form base (take pixel f.counts)).two (stored_one form base (get_or f.counts pixel 0)).two (stored_for form base (drop (suc pixel) f.counts)).two _ (ap (λ (s : Stored). length s.two) e),
        own-entries (stored_for form base (take pixel f.counts)).four (stored_one form base (get_or f.counts pixel 0)).four (stored_for form base (drop (suc pixel) f.counts)).four _ (ap (λ (s : Stored). length s.four) e),
      )

  -- the image lies in the buffer
  image-room : image_stop p ≤ length held
  unfolding length_with
  image-room = let l = frame-length f.counts refl in omega (arith, l, held-length)

  pub pixel-room : p.start + pixel * width_bytes form.width + width_bytes form.width ≤ length held
  pixel-room = let i = image-room in omega (arith, within pixel p.pixels (width_bytes form.width) (rw f.all f.inside))

  pub start-room : p.start ≤ length held
  start-room = let i = image-room in omega arith

  pub start-long : 3200 ≤ p.start
  start-long = rw f.starts f.long

  pub placed-pixels : p.pixels ≤ 16777216
  placed-pixels = rw f.all f.few

  module _ (v : ℕ) where
    after_is : entries_after p v ≡ stored_counts (stored_for form base (set f.counts pixel v))
    after_is = rw (f.entries, f.old) (counts-set form base f.counts pixel f.inside v)

    pub length-after : length_after p v ≡ length (frame_bytes f.header form (stored_for form base (set f.counts pixel v)))
    length-after = ap (length_with p) after_is ∙ frame-length (set f.counts pixel v) (length-set f.counts pixel v)

    module _ (room : length_after p v ≤ length held) where
      room' : length (frame_bytes f.header form (stored_for form base (set f.counts pixel v))) ≤ length held
      room' = omega (arith, length-after)

      pub placed-fits : AllFit (length held) (image_stop p) (under_cut p v) (two_cut p v) (four_cut p v)
      placed-fits =
          subst (λ (q : Place). AllFit (length held) (image_stop q) (under_cut q v) (two_cut q v) (four_cut q v)) (sym place_is)
          (edits-fit (length held) f.header form base f.counts pixel v f.inside f.long held-length room')

      pub placed-law : replaced_bytes p pixel v held ≡ held_bytes (length held) (frame_bytes f.header form (stored_for form base (set f.counts pixel v)))
      placed-law =
          ap (λ (q : Place). replaced_bytes q pixel v held) place_is
          ∙ ap (replaced_bytes (place_of f.header form base f.counts pixel) pixel v) f.frame
          ∙ replaced-law (length held) f.header form base f.counts pixel v f.inside f.long held-length room'
