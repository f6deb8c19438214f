use Rattle.std.proofs.Common.{◌*◌, ◌≤◌, arith}
use Rattle.layout.proofs.Laws.{bytes_le}
use Rattle.expand.proofs.Extents.{placed}
use Rattle.expand.proofs.places_of.Goals as goal

pub overflow_mul-end : goal.overflow_mul-end
overflow_mul-end c = let bound : c.args.n * c.width_bytes.result ≤ c.args.n * 4 = rw c.width_bytes.ensures (bytes_le c.args.n c.args.image.width) in
    omega (arith, bound, c.requires.1)

pub overflow_add-end : goal.overflow_add-end
overflow_add-end c = let bound : c.args.n * c.width_bytes.result ≤ c.args.n * 4 = rw c.width_bytes.ensures (bytes_le c.args.n c.args.image.width) in
    omega (arith, bound, c.requires.1)

pub extent_of-under-requires : goal.extent_of-under-requires
extent_of-under-requires c = let bound : c.args.n * c.width_bytes.result ≤ c.args.n * 4 = rw c.width_bytes.ensures (bytes_le c.args.n c.args.image.width) in
    omega (arith, bound, c.requires.1)

pub extent_of-two-requires : goal.extent_of-two-requires
extent_of-two-requires c = let bound : c.args.n * c.width_bytes.result ≤ c.args.n * 4 = rw c.width_bytes.ensures (bytes_le c.args.n c.args.image.width) in
    omega (arith, c.extent_of-under.ensures.end_bound, bound, c.requires.1)

pub extent_of-four-requires : goal.extent_of-four-requires
extent_of-four-requires c = let bound : c.args.n * c.width_bytes.result ≤ c.args.n * 4 = rw c.width_bytes.ensures (bytes_le c.args.n c.args.image.width) in
    omega (arith, c.extent_of-two.ensures.end_bound, c.extent_of-under.ensures.end_bound, bound, c.requires.1)

pub returns : goal.returns
returns c = placed _ _ _ _ _ _ _ _ _ c.requires.0 c.width_bytes.ensures c.step_of-c.ensures c.entry_width.ensures c.extent_of-under.ensures.value
    c.extent_of-two.ensures.value c.extent_of-four.ensures.value
