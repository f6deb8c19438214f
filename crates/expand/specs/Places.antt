-- Where the parts of a frame of FORMAT 100 lie.
use Rattle.std.specs.Prelude.{ℕ, ◌+◌, ◌*◌}
use Rattle.layout.specs.declared.Image.{Image}
use Rattle.layout.specs.declared.BinaryTables.{BinaryTables}
use Rattle.layout.specs.Layout.{image_end, table_bytes, underflow_count, underflow_width, two_start, four_start}
use Rattle.expand.specs.declared.Extent.{Extent}
use Rattle.expand.specs.declared.Places.{Places}

-- where a table of n entries of w bytes lies
unfoldable pub extent_of : ℕ → ℕ → ℕ → Extent
unfolding table_bytes
extent_of start w n = record { start = start; padding = start + n * w; end = start + table_bytes w n }

-- where the parts of a frame lie
unfoldable pub places_of : Image → BinaryTables → Places
unfolding extent_of
places_of i t = record {
  image = i.start;
  under = extent_of (image_end i) (underflow_width t.underflows) (underflow_count t.underflows);
  two = extent_of (two_start i t) 2 t.two;
  four = extent_of (four_start i t) 4 t.four;
}
