-- Document 01, "The header": lines of 80 characters, eight of name and 72 of data, found by position and guarded by name.
use Rattle.std.specs.Prelude.{ℕ, ◌+◌, ◌*◌, List, [], ◌∷◌, Bool, true, false, ◌&&◌, length, take, drop, get_or, eqb, leb, if◌then◌else◌, None, Option, Some}
use Rattle.lists.specs.Text.{codes}
use Rattle.header_lines.specs.declared.Line.{Line}
use Rattle.header_lines.specs.declared.LineId.{LineId}
use Rattle.header_lines.specs.declared.LineId.TheVariants as I

abbrev pub line : ℕ → List ℕ → Line
line p n = record { position = p; name = n }

abbrev pub no_line : Line
no_line = line 0 []

-- the table of lines: each one's position and name
abbrev pub lines : List Line
lines =
    line 0 (codes "FORMAT :")
    ∷ line 1 (codes "VERSION:")
    ∷ line 2 (codes "HDRBLKS:")
    ∷ line 20 (codes "NOVERFL:")
    ∷ line 39 (codes "NPIXELB:")
    ∷ line 40 (codes "NROWS  :")
    ∷ line 41 (codes "NCOLS  :")
    ∷ line 58 (codes "LINEAR :")
    ∷ line 79 (codes "NEXP   :")
    ∷ []

abbrev pub index_of : LineId → ℕ
index_of I.Format = 0
index_of I.Version = 1
index_of I.Hdrblks = 2
index_of I.Noverfl = 3
index_of I.Npixelb = 4
index_of I.Nrows = 5
index_of I.Ncols = 6
index_of I.Linear = 7
index_of I.Nexp = 8

unfoldable pub line_of : LineId → Line
line_of id = get_or lines (index_of id) no_line

abbrev pub position_of : LineId → ℕ
position_of id = (line_of id).position

-- the list begins with the name
unfoldable pub starts_with : List ℕ → List ℕ → Bool
starts_with [] s = true
starts_with (n ∷ ns) [] = false
starts_with (n ∷ ns) (b ∷ bs) = eqb n b && starts_with ns bs

-- where the data of a line starts: the line ends within the header and has its name
unfoldable pub place_in : List ℕ → Line → Option ℕ
unfolding starts_with
place_in header l =
    if leb (l.position * 80 + 80) (length header) && starts_with l.name (drop (l.position * 80) header)
    then Some (l.position * 80 + 8)
    else None

abbrev pub place_of : List ℕ → LineId → Option ℕ
place_of header id = place_in header (line_of id)

abbrev pub data_at : {A : Type 0} → List ℕ → Option ℕ → A → (List ℕ → A) → A
data_at header (Some start) wrong go = go (take 72 (drop start header))
data_at header None wrong go = wrong

-- go on with a line's 72 characters of data, or `wrong` where the line does not stand in the header
abbrev pub on_line : {A : Type 0} → List ℕ → LineId → A → (List ℕ → A) → A
on_line header id wrong go = data_at header (place_of header id) wrong go

-- those 72 characters, if the line stands
abbrev pub data_of : List ℕ → LineId → Option (List ℕ)
data_of header id = on_line header id None Some
