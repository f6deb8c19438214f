use Rattle.std.proofs.Common.{rules}
use Rattle.std.proofs.lemmas.Fn.{always_returns_same}
use Rattle.dtrek_text.specs.Bytes.{keyword_at}
use Rattle.dtrek_items.specs.Keys.{compared}
use Rattle.dtrek_items.proofs.Inserting.{searched}
use Rattle.dtrek_items.proofs.find.Goals as goal

pub returns : goal.returns
returns c =
    let a = c.args in
    rw c.err.ensures.value
    (searched a.text.now a.places.now a.key.now c.binary_search_by.result c.requires c.binary_search_by.ensures.bound (c.binary_search_by.ensures.position (λ p. compared (keyword_at a.text.now p) a.key.now) (always_returns_same _ _ _ (λ a r f' k. search rules))))
