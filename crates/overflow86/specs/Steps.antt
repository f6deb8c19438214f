-- What the pixel array holds while the entries are taken. For the contracts of private functions.
use Rattle.marks.specs.declared.Entry.{Entry}
use Rattle.refusal.specs.declared.Refusal.{Refusal}
use Rattle.std.specs.Prelude.{ℕ, Bool, true, false, List, [], ◌∷◌, map, eqb, if◌then◌else◌, Err, Ok, Result, Option}
use Rattle.layout.specs.declared.Width.{Width}
use Rattle.layout.specs.declared.Width.TheVariants as W
use Rattle.refusal.specs.declared.Refusal.TheVariants as R
use Rattle.marks.specs.Steps.{placing, placed, count_of}

-- what a marked pixel holds until its entry comes: no nine digits give it
abbrev pub waiting : ℕ
waiting = 4294967295

-- in width 4 no pixel waits, whatever its value
abbrev pub has_marks : Width → Bool
has_marks W.One = true
has_marks W.Two = true
has_marks W.Four = false

abbrev pub no_entries : List (Option Entry) → Result (Unit {0}) Refusal
no_entries [] = (Ok tt)
no_entries (e ∷ es) = Err (R.BadEntry 0)

abbrev pub placing_in : Width → List ℕ → List (Option Entry) → Result (Unit {0}) Refusal
placing_in w px es = if has_marks w then placing waiting px 0 es else no_entries es

abbrev pub placed_in : Width → List ℕ → List (Option Entry) → List ℕ
placed_in w px es = if has_marks w then placed waiting px es else px

abbrev pub waiting_if : ℕ → ℕ → ℕ
waiting_if m x = if eqb x m then waiting else x

abbrev pub one_if : ℕ → ℕ → ℕ
one_if m x = if eqb x m then 1 else 0

-- how many pixels of the stored image vs are marked, and the image with these waiting
abbrev pub marks_in : Width → List ℕ → ℕ
marks_in W.One vs = count_of 255 vs
marks_in W.Two vs = count_of 65535 vs
marks_in W.Four vs = 0

abbrev pub awaiting : Width → List ℕ → List ℕ
awaiting W.One vs = map (waiting_if 255) vs
awaiting W.Two vs = map (waiting_if 65535) vs
awaiting W.Four vs = vs
