-- Where tables lie.
-- Assumes nothing.
use Rattle.std.proofs.Common.{◌≡◌, ℕ, ◌+◌, ◌*◌, ◌≤◌, refl, ◌∙◌, arith}
use Rattle.layout.specs.declared.Width.{Width}
use Rattle.layout.specs.declared.EntryWidth.{EntryWidth}
use Rattle.layout.specs.declared.EntryWidth.TheVariants as E
use Rattle.layout.specs.declared.Image.{Image}
use Rattle.layout.specs.declared.Underflows.{Underflows}
use Rattle.layout.specs.declared.Underflows.TheVariants.{Unused, NoWidth, Counted}
use Rattle.layout.specs.declared.BinaryTables.{BinaryTables}
use Rattle.layout.specs.Form.{width_bytes, entry_bytes, entry_width}
use Rattle.layout.proofs.Laws.{same_width}
use Rattle.layout.specs.Layout.{pixel_count, table_bytes, underflow_count, underflow_width}
use Rattle.expand.specs.Blocks.{step_of}
use Rattle.expand.specs.Places.{extent_of, places_of}
use Rattle.expand.specs.declared.StepC.{StepC}
use Rattle.expand.specs.declared.Extent.{Extent}
use Rattle.expand.specs.declared.Places.{Places}

-- a padded table holds its entries and at most 15 bytes more
pub table-le : (w n : ℕ) → table_bytes w n ≤ n * w + 15
unfolding table_bytes
table-le w n = omega arith

pub table-ge : (w n : ℕ) → n * w ≤ table_bytes w n
unfolding table_bytes
table-ge w n = omega arith

pub entry-pos : (e : EntryWidth) → 1 ≤ entry_bytes e
entry-pos E.One = omega arith
entry-pos E.Two = omega arith

-- the underflow table as step c has it
pub under-extent : (u : Underflows) (start : ℕ) → extent_of start (entry_bytes (step_of u).width) (step_of u).count ≡ extent_of start (underflow_width u) (underflow_count u)
unfolding extent_of
under-extent Unused start = refl
under-extent (NoWidth b) start = refl
under-extent (Counted e n b) start = refl

pub placed : (i : Image) (t : BinaryTables) (n w : ℕ) (e : Width) (c : StepC) (x y z : Extent) → n ≡ pixel_count i → w ≡ width_bytes i.width → c ≡ step_of t.underflows
    → e ≡ entry_width c.width → x ≡ extent_of (i.start + n * w) (width_bytes e) c.count → y ≡ extent_of x.end 2 t.two → z ≡ extent_of y.end 4 t.four
    → ◌≡◌ {A = Places} (record { image = i.start; under = x; two = y; four = z }) (places_of i t)
unfolding places_of
placed i t n w e c x y z en ew ec ee ex ey ez = go x y z under ey ez
  where
    s : ℕ
    s = i.start + pixel_count i * width_bytes i.width

    under : x ≡ extent_of s (underflow_width t.underflows) (underflow_count t.underflows)
    under = ex ∙ rw (en, ew, ee, ec, same_width) (under-extent t.underflows s)

    go : (x y z : Extent) → x ≡ extent_of s (underflow_width t.underflows) (underflow_count t.underflows) → y ≡ extent_of x.end 2 t.two → z ≡ extent_of y.end 4 t.four
        → ◌≡◌ {A = Places} (record { image = i.start; under = x; two = y; four = z }) (places_of i t)
    go x y z ex ey ez = rw (ez, ey, ex)
