use Rattle.header_lines.proofs.Lines.{index-small}
use Rattle.header_lines.specs.Lines.{line_of}
use native.Mathlib.Omega.{arith}
use Rattle.header_lines.proofs.line_of.Goals as goal

pub offset_bounds-k : goal.offset_bounds-k
offset_bounds-k c = omega (arith, c.index_of-k.ensures, index-small c.args.id)

pub bounds-k-k : goal.bounds-k-k
bounds-k-k c = omega (arith, c.index_of-k.ensures, index-small c.args.id)

pub returns : goal.returns
unfolding line_of
returns c = rw c.index_of-k.ensures
