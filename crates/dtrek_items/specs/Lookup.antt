-- Request A9: the value under a keyword, and a keyword that stands twice.
use Rattle.std.specs.Prelude.{ℕ, List, [], ◌∷◌, Bool, false, ◌||◌, if◌then◌else◌}
use Rattle.lists.specs.Bytes.{same_bytes}
use Rattle.dtrek_text.specs.Items.{Item}

-- an item has this keyword
unfoldable pub has : List ℕ → List Item → Bool
has k [] = false
has k (i ∷ is) = same_bytes i.key k || has k is

-- the value of the first item with this keyword; nothing where there is none
unfoldable pub value_of : List ℕ → List Item → List ℕ
value_of k [] = []
value_of k (i ∷ is) = if same_bytes i.key k then i.value else value_of k is

-- two items have the same keyword
unfoldable pub repeated : List Item → Bool
unfolding has
repeated [] = false
repeated (i ∷ is) = has i.key is || repeated is
