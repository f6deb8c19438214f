-- What the pixel array holds while the entries are taken: a marked pixel waits by the number `hold` until its entry comes.
use Rattle.marks.specs.declared.Entry.{Entry}
use Rattle.refusal.specs.declared.Refusal.{Refusal}
use Rattle.std.specs.Prelude.{ℕ, suc, Bool, false, ◌&&◌, List, [], ◌∷◌, length, get_or, set, eqb, ltb, if◌then◌else◌, Err, Ok, Result, None, Option, Some}
use Rattle.refusal.specs.declared.Refusal.TheVariants as R

abbrev pub entry_read : ℕ → ℕ → Entry
entry_read intensity pixel = record { intensity = intensity; pixel = pixel }

-- the entry is at a pixel that waits
abbrev pub takes : ℕ → List ℕ → Option Entry → Bool
takes hold px None = false
takes hold px (Some en) = ltb en.pixel (length px) && eqb (get_or px en.pixel 0) hold

-- the pixels with the entry's intensity in its place
abbrev pub put : List ℕ → Option Entry → List ℕ
put px None = px
put px (Some en) = set px en.pixel en.intensity

-- the entries in file order, up to the first that is at no waiting pixel
unfoldable pub placing : ℕ → List ℕ → ℕ → List (Option Entry) → Result (Unit {0}) Refusal
placing hold px k [] = Ok tt
placing hold px k (e ∷ es) = if takes hold px e then placing hold (put px e) (suc k) es else Err (R.BadEntry k)

unfoldable pub placed : ℕ → List ℕ → List (Option Entry) → List ℕ
placed hold px [] = px
placed hold px (e ∷ es) = if takes hold px e then placed hold (put px e) es else px

-- how many of xs are m
unfoldable pub count_of : ℕ → List ℕ → ℕ
count_of m [] = 0
count_of m (x ∷ xs) = if eqb x m then suc (count_of m xs) else count_of m xs
