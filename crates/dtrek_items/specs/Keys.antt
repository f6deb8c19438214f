-- Keywords in order, by the places where they start. For the contracts of private functions.
use Rattle.std.specs.Prelude.{ℕ, ◌-◌, ◌≤◌, ◌<◌, ◌≡◌, List, [], ◌∷◌, map, Bool, true, false, ◌||◌, length, get_or, None, Option, Some}
use Rattle.std.specs.declared.cmp.Ordering.{Ordering}
use Rattle.std.specs.declared.cmp.Ordering.TheVariants.{Less, Greater}
use Rattle.std.specs.Ordering.{nat_cmp}
use Rattle.std.specs.Cmp.Lexicographic.{slice_cmp}
use Rattle.lists.specs.Bytes.{same_bytes}
use Rattle.dtrek_text.specs.Bytes.{keyword_at}

-- byte by byte; a string comes before those that go on behind it
abbrev pub compared : List ℕ → List ℕ → Ordering
compared xs ys = slice_cmp nat_cmp xs ys

abbrev pub keys_at : List ℕ → List ℕ → List (List ℕ)
keys_at text ps = map (keyword_at text) ps

unfoldable pub has_key : List ℕ → List (List ℕ) → Bool
has_key k [] = false
has_key k (x ∷ xs) = same_bytes x k || has_key k xs

abbrev pub key_at : List ℕ → List ℕ → ℕ → List ℕ
key_at text ps i = keyword_at text (get_or ps i 0)

-- each keyword comes before those at later places
abbrev pub Rising : List ℕ → List ℕ → Type 0
Rising text ps = (i j : ℕ) → i < j → j < length ps → compared (key_at text ps i) (key_at text ps j) ≡ Less

-- a free place: the keywords before it come before the key, the others after it
pub record Between (text ps key : List ℕ) (i : ℕ) : Type 0 where
  pub upto : i ≤ length ps
  pub low : (j : ℕ) → j < i → compared (key_at text ps j) key ≡ Less
  pub high : (j : ℕ) → i ≤ j → j < length ps → compared (key_at text ps j) key ≡ Greater

abbrev pub Sought : List ℕ → List ℕ → List ℕ → Option ℕ → Type 0
Sought text ps key None = has_key key (keys_at text ps) ≡ true
Sought text ps key (Some i) = Between text ps key i

-- the places from i to k stand one later, and the new one at i
pub record Inserted (ps : List ℕ) (k i start : ℕ) (qs : List ℕ) : Type 0 where
  pub same : length qs ≡ length ps
  pub low : (m : ℕ) → m < i → get_or qs m 0 ≡ get_or ps m 0
  pub here : get_or qs i 0 ≡ start
  pub high : (m : ℕ) → i < m → m ≤ k → get_or qs m 0 ≡ get_or ps (m - 1) 0
