-- The header's two lines: written for given counts, and compared with them.
-- Assumes nothing.
use mathlib.Core.Path.{◌≡◌, refl, sym, ap, ◌∙◌}
use mathlib.Core.Bool.{Bool, true, false, ◌&&◌}
use mathlib.Core.List.{List, [], ◌∷◌, ◌++◌}
use Prim.Native.Nat.{ℕ, ◌+◌, ◌*◌, ◌-◌, ◌≤◌, ◌<◌}
use native.Mathlib.Omega.{arith}
use lib.ListN.{length, take, drop, length-append, length-take, length-drop, take-append-drop}
use lib.Seq.{drop-drop, take_at, drop_at, take-take, take-append-le, drop-append-le, length-take-le}
use lib.Dec.{leb, eqb}
use borrow.Author.Tests.{le-leb, lt-leb}
use Rattle.std.specs.Cmp.Lexicographic.{pointwise}
use Rattle.lists.specs.Bytes.{same_bytes}
use Rattle.lists.proofs.Same.{same_refl, same-eq}
use Rattle.lists.proofs.Parts.{drop-take}
use Rattle.lists.proofs.Tests.{and-true-left, and-true-right}
use Rattle.layout.specs.declared.Form.{Form}
use Rattle.header_lines.specs.declared.LineId.{LineId}
use Rattle.header_lines.specs.declared.LineId.TheVariants as I
use Rattle.header_lines.specs.Lines.{position_of}
use Rattle.header_text.specs.Text.{npixelb_data, with_data, relined, counts_data, data_of, lines_written}
use Rattle.header_text.specs.declared.Counts.{Counts}
use Rattle.header_text.proofs.Cells.{noverfl-is, npixelb-is, length-counts, length-npixelb}

length-with : (id : LineId) (text header : List ℕ) → length text ≡ 72 → position_of id * 80 + 80 ≤ length header → length (with_data id text header) ≡ length header
unfolding with_data
length-with id text header t h = simp (length-append, length-take, length-drop, t) (omega arith)

pub length-relined : (form : Form) (c : Counts) (header : List ℕ) → 3200 ≤ length header → length (relined form c header) ≡ length header
unfolding relined
length-relined form c header h =
    let one = length-with I.Noverfl (counts_data form.underflow c) header (length-counts form.underflow c) (rw noverfl-is (omega arith)) in
    length-with I.Npixelb (npixelb_data form) (with_data I.Noverfl (counts_data form.underflow c) header) (length-npixelb form) (rw (npixelb-is, one) (omega arith)) ∙ one

-- a line's own data put in changes nothing
with-same : (id : LineId) (text header : List ℕ) → data_of id header ≡ text → with_data id text header ≡ header
unfolding with_data
with-same id text header e =
    let m : position_of id * 80 + 8 + 72 ≡ position_of id * 80 + 80 = omega arith in
    let d : drop (position_of id * 80 + 80) header ≡ drop 72 (drop (position_of id * 80 + 8) header) = ap (λ (n : ℕ). drop n header) (sym m) ∙ sym (drop-drop 72 (position_of id * 80 + 8) header) in
    rw (← e, d, take-append-drop, take-append-drop)

-- the data put in is there
data-with : (id : LineId) (text header : List ℕ) → length text ≡ 72 → position_of id * 80 + 80 ≤ length header → data_of id (with_data id text header) ≡ text
unfolding with_data
data-with id text header t h =
    let l : length (take (position_of id * 80 + 8) header) ≡ position_of id * 80 + 8 = length-take-le (position_of id * 80 + 8) header (omega arith) in
    rw (drop_at (take (position_of id * 80 + 8) header) (text ++ drop (position_of id * 80 + 80) header) (position_of id * 80 + 8) l) (take_at text (drop (position_of id * 80 + 80) header) 72 t)

-- and an earlier line's data stays
data-before : (p id : LineId) (text header : List ℕ) → position_of p < position_of id → position_of id * 80 + 80 ≤ length header → data_of p (with_data id text header) ≡ data_of p header
unfolding with_data
data-before p id text header o h =
    let k = position_of p * 80 + 8 in
    let m = position_of id * 80 + 8 in
    let l : length (take m header) ≡ m = length-take-le m header (omega arith) in
    let n : 72 ≤ length (drop k (take m header)) = rw (length-drop, l) (omega arith) in
    let a : k ≤ length (take m header) = rw l (omega arith) in
    rw (drop-append-le k (take m header) (text ++ drop (position_of id * 80 + 80) header) a, take-append-le 72 (drop k (take m header)) (text ++ drop (position_of id * 80 + 80) header) n, drop-take k m header)
    (take-take 72 (m - k) (drop k header) (omega arith))

pub lines_same : (form : Form) (c : Counts) (header : List ℕ) → 3200 ≤ length header → lines_written form c header ≡ true → relined form c header ≡ header
unfolding lines_written relined
lines_same form c header h e =
    let p = same_bytes (data_of I.Noverfl header) (counts_data form.underflow c) in
    let q = same_bytes (data_of I.Npixelb header) (npixelb_data form) in
    let r = and-true-left (leb 3200 (length header) && p) q e in
    let one = same-eq (data_of I.Noverfl header) (counts_data form.underflow c) (and-true-right (leb 3200 (length header)) p r) in
    let two = same-eq (data_of I.Npixelb header) (npixelb_data form) (and-true-right (leb 3200 (length header) && p) q e) in
    ap (with_data I.Npixelb (npixelb_data form)) (with-same I.Noverfl (counts_data form.underflow c) header one) ∙ with-same I.Npixelb (npixelb_data form) header two

pub same_lines : (form : Form) (c : Counts) (header : List ℕ) → 3200 ≤ length header → relined form c header ≡ header → lines_written form c header ≡ true
unfolding lines_written relined
same_lines form c header h e =
    let x = with_data I.Noverfl (counts_data form.underflow c) header in
    let a : position_of I.Noverfl * 80 + 80 ≤ length header = rw noverfl-is (omega arith) in
    let l : length x ≡ length header = length-with I.Noverfl (counts_data form.underflow c) header (length-counts form.underflow c) a in
    let b : position_of I.Npixelb * 80 + 80 ≤ length x = rw (npixelb-is, l) (omega arith) in
    let o : position_of I.Noverfl < position_of I.Npixelb = rw (noverfl-is, npixelb-is) (omega arith) in
    let one : data_of I.Noverfl header ≡ counts_data form.underflow c
    = ap (data_of I.Noverfl) (sym e) ∙ data-before I.Noverfl I.Npixelb (npixelb_data form) x o b ∙ data-with I.Noverfl (counts_data form.underflow c) header (length-counts form.underflow c) a in
    let two : data_of I.Npixelb header ≡ npixelb_data form = ap (data_of I.Npixelb) (sym e) ∙ data-with I.Npixelb (npixelb_data form) x (length-npixelb form) b in
    rw (le-leb 3200 (length header) h, one, two, same_refl (counts_data form.underflow c), same_refl (npixelb_data form))

-- what `==` of two slices of bytes answers
pub pointwise_same : (a b : List ℕ) → pointwise eqb a b ≡ same_bytes a b
unfolding same_bytes
pointwise_same [] [] = refl
pointwise_same [] (y ∷ b) = refl
pointwise_same (x ∷ a) [] = refl
pointwise_same (x ∷ a) (y ∷ b) = rw (pointwise_same a b)

-- Whether the lines are written, from the parts of a header that are compared.
pub line-judged : (id : LineId) (at e : ℕ) (text header : List ℕ) (r : Bool) → at ≡ position_of id * 80 + 8 → e ≡ at + 72 → r ≡ same_bytes (take (e - at) (drop at header)) text → r ≡ same_bytes (data_of id header) text
line-judged id at e text header r ea ee q = let n : e - at ≡ 72 = omega arith in q ∙ rw (n, ea)

pub written-short : (form : Form) (c : Counts) (header : List ℕ) → length header < 3200 → false ≡ lines_written form c header
unfolding lines_written
written-short form c header h = rw (lt-leb 3200 (length header) h)

pub written-other : (form : Form) (c : Counts) (header : List ℕ) (r : Bool) → 3200 ≤ length header → r ≡ same_bytes (data_of I.Noverfl header) (counts_data form.underflow c) → r ≡ false → false ≡ lines_written form c header
unfolding lines_written
written-other form c header r h e q = rw (le-leb 3200 (length header) h, ← e, q)

pub written-first : (form : Form) (c : Counts) (header : List ℕ) (r t : Bool) → 3200 ≤ length header → r ≡ same_bytes (data_of I.Noverfl header) (counts_data form.underflow c) → r ≡ true → t ≡ same_bytes (data_of I.Npixelb header) (npixelb_data form)
    → t ≡ lines_written form c header
unfolding lines_written
written-first form c header r t h e q w = w ∙ rw (le-leb 3200 (length header) h, ← e, q)
