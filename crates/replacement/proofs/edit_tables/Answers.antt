use borrow.Author.Tests.{lt-ltb, le-ltb}
use Rattle.replacement.specs.Replaced.{cut_all}
use Rattle.replacement.proofs.edit_tables.Goals as goal

pub last_first-requires : goal.last_first-requires
last_first-requires c = c.requires.last (lt-ltb _ _ c.if-u-gt0.true)

pub returns-then-u-gt0 : goal.returns-then-u-gt0
unfolding cut_all
returns-then-u-gt0 c = rw (lt-ltb _ _ c.if-u-gt0.true) c.last_first.ensures

pub first_first-requires : goal.first_first-requires
first_first-requires c = c.requires.first (le-ltb _ _ c.if-u-gt0.false)

pub returns-else-u-gt0 : goal.returns-else-u-gt0
unfolding cut_all
returns-else-u-gt0 c = rw (le-ltb _ _ c.if-u-gt0.false) c.first_first.ensures
