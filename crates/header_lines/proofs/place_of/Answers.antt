use Rattle.std.specs.Prelude.{None, Some}
use Rattle.header_lines.proofs.Lines.{start-by}
use Rattle.header_lines.specs.Lines.{place_in}
use lib.ListN.{length, drop}
use Prim.Native.Nat.{◌+◌, ◌*◌}
use mathlib.Core.Path.{◌≡◌, ap, sym, ◌∙◌}
use native.Mathlib.Omega.{arith}
use borrow.Author.Tests.{le-leb, lt-leb}
use Rattle.header_lines.proofs.place_of.Goals as goal

pub returns-then-header-start : goal.returns-then-header-start
unfolding place_in
returns-then-header-start c = let l = c.line_of-l.result in let h = c.args.header.now in let p : None ≡ place_in h l = rw (lt-leb (l.position * 80 + 80) (length h) c.if-header-start.true) in p ∙ ap (place_in h) c.line_of-l.ensures

pub returns-then-starts_with : goal.returns-then-starts_with
unfolding place_in
returns-then-starts_with c = let l = c.line_of-l.result in let h = c.args.header.now in let e = start-by l.name h (l.position * 80) _ (omega arith) c.starts_with.ensures.value in let p : Some (l.position * 80 + 8) ≡ place_in h l = rw (le-leb (l.position * 80 + 80) (length h) c.if-header-start.false, ← e, c.if-starts_with.true) in p ∙ ap (place_in h) c.line_of-l.ensures

pub returns-else-starts_with : goal.returns-else-starts_with
unfolding place_in
returns-else-starts_with c = let l = c.line_of-l.result in let h = c.args.header.now in let e = start-by l.name h (l.position * 80) _ (omega arith) c.starts_with.ensures.value in let p : None ≡ place_in h l = rw (le-leb (l.position * 80 + 80) (length h) c.if-header-start.false, ← e, c.if-starts_with.false) in p ∙ ap (place_in h) c.line_of-l.ensures
