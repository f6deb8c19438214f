-- Tables as bytes: their lengths, and that their entries are read back with their padding zero.
-- Assumes nothing.
use mathlib.Core.Path.{◌≡◌, refl, sym, ap, ◌∙◌}
use mathlib.Core.Bool.{true}
use mathlib.Core.List.{List, [], ◌∷◌, ◌++◌, append_assoc}
use Prim.Native.Nat.{ℕ, zero, suc, ◌+◌, ◌-◌, ◌*◌, ◌/◌, ◌^◌, ◌≤◌, ◌<◌}
use native.Mathlib.Nat.{pow-suc, suc-mul, zero-mul}
use native.Mathlib.Omega.{arith}
use lib.ListN.{length, drop, length-append, length-replicate}
use lib.Seq.{take_at, drop_at}
use Rattle.lists.specs.Bytes.{little, little_bytes, zeros, padded_to}
use Rattle.layout.specs.Layout.{table_bytes}
use Rattle.table.specs.Table.{entries, all_zero}
use Rattle.table.specs.Writing.{table_of, padded_table}
use Rattle.expand.specs.Expand.{table_padding_zero}
use Rattle.readback.proofs.Storing.{Below}

little-bytes : (w v : ℕ) (r : List ℕ) → v < 256 ^ w → little w (little_bytes w v ++ r) ≡ v
unfolding little little_bytes
little-bytes zero v r h = omega arith
little-bytes (suc w) v r h =
    let ih : little w (little_bytes w (v / 256) ++ r) ≡ v / 256 = little-bytes w (v / 256) r (omega (arith, pow-suc 256 w)) in
    rw ih (omega arith)

drop-bytes : (w v : ℕ) (r : List ℕ) → drop w (little_bytes w v ++ r) ≡ r
unfolding little_bytes
drop-bytes zero v r = refl
drop-bytes (suc w) v r = drop-bytes w (v / 256) r

length-bytes : (w v : ℕ) → length (little_bytes w v) ≡ w
unfolding little_bytes
length-bytes zero v = refl
length-bytes (suc w) v = ap suc (length-bytes w (v / 256))

pub entries-table : (w : ℕ) (vs r : List ℕ) → Below (256 ^ w) vs → entries w (length vs) (table_of w vs ++ r) ≡ vs
unfolding entries table_of
entries-table w [] r h = refl
entries-table w (v ∷ vs) r h = rw (append_assoc, little-bytes w v _ h.0, drop-bytes, entries-table w vs r h.1)

pub length-table : (w : ℕ) (vs : List ℕ) → length (table_of w vs) ≡ length vs * w
unfolding table_of
length-table w [] = sym (zero-mul w)
length-table w (v ∷ vs) = rw (length-append, length-bytes, length-table w vs) (omega (arith, suc-mul (length vs) w))

-- the padding never falls short of the entries
room : (w n : ℕ) → n * w ≤ table_bytes w n
unfolding table_bytes padded_to
room w n = omega arith

pub length-padded : (w : ℕ) (vs : List ℕ) → length (padded_table w vs) ≡ table_bytes w (length vs)
unfolding padded_table
length-padded w vs = rw (length-append, length-table, length-replicate) (omega (arith, room w (length vs)))

pub zero-zeros : (n : ℕ) → all_zero (zeros n) ≡ true
unfolding all_zero
zero-zeros zero = refl
zero-zeros (suc n) = zero-zeros n

-- a table behind A in some bytes
module _ (w : ℕ) (A vs r : List ℕ) (start : ℕ) (at : length A ≡ start) where
  pub entries-padded : Below (256 ^ w) vs → entries w (length vs) (drop start (A ++ (padded_table w vs ++ r))) ≡ vs
  unfolding padded_table
  entries-padded h = rw (drop_at A _ start at, append_assoc, entries-table w vs _ h)

  pub padding-zero : table_padding_zero w (length vs) start (A ++ (padded_table w vs ++ r)) ≡ true
  unfolding table_padding_zero padded_table
  padding-zero =
      let n : ℕ = table_bytes w (length vs) - length vs * w in
      let l : length (A ++ table_of w vs) ≡ start + length vs * w = rw (length-append, length-table, at) in
      let e : A ++ (table_of w vs ++ zeros n ++ r) ≡ (A ++ table_of w vs) ++ (zeros n ++ r) = simp append_assoc in
      let d : drop (start + length vs * w) (A ++ (table_of w vs ++ zeros n ++ r)) ≡ zeros n ++ r =
      ap (drop (start + length vs * w)) e ∙ drop_at (A ++ table_of w vs) (zeros n ++ r) _ l in
      rw (d, take_at {A = ℕ} (zeros n) r n (length-replicate n 0)) (zero-zeros n)
