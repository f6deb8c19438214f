use Rattle.layout.specs.Layout.{text_table_bytes}
use borrow.Author.Rules.{rules}
use Rattle.layout.proofs.text_table_bytes.Goals as goal

pub returns : goal.returns
unfolding text_table_bytes
returns c = search rules
