-- Document 01, "Expanding pixels", FORMAT 86, and request A2: entries for the marked pixels of an image.
use Rattle.marks.specs.declared.Entry.{Entry}
use Rattle.refusal.specs.declared.Refusal.{Refusal}
use Rattle.std.specs.Prelude.{ℕ, suc, Bool, false, not, ◌&&◌, ◌||◌, List, [], ◌∷◌, ◌++◌, length, get_or, eqb, ltb, if◌then◌else◌, Err, Ok, Result, None, Option, Some}
use Rattle.lists.specs.Bytes.{zeros}
use Rattle.refusal.specs.declared.Refusal.TheVariants as R
use Rattle.layout.specs.declared.Width.{Width}
use Rattle.layout.specs.declared.Width.TheVariants as W

-- marked pixels are 255 in width 1 and 65535 in width 2; width 4 has none
abbrev pub is_marked : Width → ℕ → Bool
is_marked W.One v = eqb v 255
is_marked W.Two v = eqb v 65535
is_marked W.Four v = false

-- pixel number p is that of a marked pixel of the stored image vs
abbrev pub marked_at : Width → List ℕ → ℕ → Bool
marked_at w vs p = ltb p (length vs) && is_marked w (get_or vs p 0)

-- the entry is for pixel number p
abbrev pub is_for : ℕ → Option Entry → Bool
is_for p None = false
is_for p (Some en) = eqb p en.pixel

abbrev pub intensity_of : Option Entry → ℕ
intensity_of None = 0
intensity_of (Some en) = en.intensity

-- some entry is for pixel number p
unfoldable pub has_entry : ℕ → List (Option Entry) → Bool
has_entry p [] = false
has_entry p (e ∷ es) = is_for p e || has_entry p es

-- well formed, at a marked pixel, and the first for it
unfoldable pub is_good : Width → List ℕ → List (Option Entry) → Option Entry → Bool
unfolding has_entry
is_good w vs earlier None = false
is_good w vs earlier (Some en) = marked_at w vs en.pixel && not (has_entry en.pixel earlier)

-- the first bad entry in file order decides; k is the place of the next entry
unfoldable pub first_bad : Width → List ℕ → List (Option Entry) → ℕ → List (Option Entry) → Result (Unit {0}) Refusal
unfolding is_good
first_bad w vs earlier k [] = Ok tt
first_bad w vs earlier k (e ∷ es) =
    if is_good w vs earlier e then first_bad w vs (earlier ++ (e ∷ [])) (suc k) es else
    Err (R.BadEntry k)

-- the intensity of the entry for pixel number p; `none` if it has no entry
unfoldable pub intensity_at : ℕ → ℕ → List (Option Entry) → ℕ
intensity_at none p [] = none
intensity_at none p (e ∷ es) = if is_for p e then intensity_of e else intensity_at none p es

-- each marked pixel of vs, whose pixel numbers count from i, becomes the intensity of its entry, or `none`
unfoldable pub with_entries : ℕ → Width → List (Option Entry) → ℕ → List ℕ → List ℕ
unfolding intensity_at
with_entries none w es i [] = []
with_entries none w es i (v ∷ vs) = (if is_marked w v then intensity_at none i es else v) ∷ with_entries none w es (suc i) vs

-- the pixels; a refusal sets them to 0
abbrev pub pixels_by : Result (Unit {0}) Refusal → List ℕ → List ℕ
pixels_by (Ok tt) px = px
pixels_by (Err r) px = zeros (length px)
