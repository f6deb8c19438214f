-- What is stored of one pixel among others.
-- Assumes nothing.
use mathlib.Core.Path.{◌≡◌, refl, ap, ◌∙◌}
use mathlib.Core.Bool.{Bool, true, false}
use mathlib.Core.List.{List, [], ◌∷◌, ◌++◌, map, append-nil}
use Prim.Native.Nat.{ℕ, suc, ◌+◌, ◌-◌, ◌*◌, ◌≤◌, ◌<◌}
use native.Mathlib.Nat.{zero-mul, one-mul}
use native.Mathlib.Omega.{arith}
use lib.ListN.{length, take, drop, set, get_or, length-append, length-map}
use lib.Seq.{split_at, set_split}
use lib.Dec.{leb}
use borrow.Author.Tests.{leb-true, le-leb}
use Rattle.std.specs.Prelude.{if◌then◌else◌}
use Rattle.lists.specs.Bytes.{little_bytes}
use Rattle.layout.specs.declared.Width.{Width}
use Rattle.layout.specs.declared.Width.TheVariants as W
use Rattle.layout.specs.declared.Underflow.{Underflow}
use Rattle.layout.specs.declared.Underflow.TheVariants as U
use Rattle.layout.specs.declared.Form.{Form}
use Rattle.table.specs.Writing.{table_of}
use Rattle.expand.specs.Steps.{Stored}
use Rattle.writer.specs.Storing.{lowered, under_entries, at_most65535, stored_value, two_entries, four_entries, stored_for}
use Rattle.pixel_counts.specs.Counts.{is_underflow}
use Rattle.lists.specs.Only.{only}
use Rattle.writer.specs.Frame.{stored_counts}
use Rattle.writer.proofs.Placing.{joined, stored-append}
use Rattle.replacement.specs.Replaced.{stored_one, entries_one, counts_after}

-- the length where x comes in the place of o
length-after : (a o b x : List ℕ) → length (a ++ (o ++ b)) - length o + length x ≡ length (a ++ (x ++ b))
length-after a o b x = simp length-append (omega arith)

-- pixel j between those before it and those behind it
module _ (form : Form) (base : ℕ) (vs : List ℕ) (j : ℕ) (h : j < length vs) where
  abbrev pub around : Stored → Stored
  around s = joined (stored_for form base (take j vs)) (joined s (stored_for form base (drop (suc j) vs)))

  pub stored_at : stored_for form base vs ≡ around (stored_one form base (get_or vs j 0))
  stored_at =
      ap (stored_for form base) (split_at vs j 0 h)
      ∙ stored-append form base (take j vs) (get_or vs j 0 ∷ drop (suc j) vs)
      ∙ ap (joined (stored_for form base (take j vs))) (stored-append form base (get_or vs j 0 ∷ []) (drop (suc j) vs))

  pub stored-set : (x : ℕ) → stored_for form base (set vs j x) ≡ around (stored_one form base x)
  stored-set x =
      ap (stored_for form base) (set_split vs j x h)
      ∙ stored-append form base (take j vs) (x ∷ drop (suc j) vs)
      ∙ ap (joined (stored_for form base (take j vs))) (stored-append form base (x ∷ []) (drop (suc j) vs))

  pub counts-set : (x : ℕ) → counts_after (stored_counts (stored_for form base vs)) (entries_one form base (get_or vs j 0)) (entries_one form base x) ≡ stored_counts (stored_for form base (set vs j x))
  unfolding counts_after
  counts-set x =
      let a = stored_for form base (take j vs) in
      let o = stored_one form base (get_or vs j 0) in
      let n = stored_one form base x in
      let b = stored_for form base (drop (suc j) vs) in
      rw (
        stored_at,
        stored-set x,
        length-after a.under o.under b.under n.under,
        length-after a.two o.two b.two n.two,
        length-after a.four o.four b.four n.four,
      )

-- at most one entry in each table, and an underflow has no other
pub record One (s : Stored) : Type 0 where
  pub image : length s.image ≡ 1
  pub under : length s.under ≤ 1
  pub two : length s.two ≤ 1
  pub four : length s.four ≤ 1
  pub alone : 0 < length s.under → (length s.two ≡ 0) × (length s.four ≡ 0)

chosen : (t : Bool) (v : ℕ) → length (if◌then◌else◌ t (v ∷ []) []) ≤ 1
chosen true v = omega arith
chosen false v = omega arith

one_of : (p : ℕ → Bool) (v : ℕ) → length (only p (v ∷ [])) ≤ 1
unfolding only
one_of p v = chosen (p v) v

one-under : (u : Underflow) (base v : ℕ) → length (under_entries u base (v ∷ [])) ≤ 1
one-under U.None base v = omega arith
one-under (U.Subtracted e) base v = one_of (is_underflow base) v

one-two : (w : Width) (x : ℕ) → length (two_entries w (x ∷ [])) ≤ 1
one-two W.One x = rw length-map (one_of (leb 255) x)
one-two W.Two x = omega arith
one-two W.Four x = omega arith

one-four : (w : Width) (x : ℕ) → length (four_entries w (x ∷ [])) ≤ 1
one-four W.One x = one_of (leb 65535) x
one-four W.Two x = one_of (leb 65535) x
one-four W.Four x = omega arith

zero-alone : (w : Width) → (length (two_entries w (0 ∷ [])) ≡ 0) × (length (four_entries w (0 ∷ [])) ≡ 0)
unfolding only
zero-alone W.One = (refl, refl)
zero-alone W.Two = (refl, refl)
zero-alone W.Four = (refl, refl)

under-alone : (w : Width) (u : Underflow) (base v : ℕ) → 0 < length (under_entries u base (v ∷ []))
    → (length (two_entries w (lowered u base v ∷ [])) ≡ 0) × (length (four_entries w (lowered u base v ∷ [])) ≡ 0)
unfolding only
under-alone w U.None base v h = absurd (omega arith)
under-alone w (U.Subtracted e) base v h = go (leb v base) h
  where
    go : (t : Bool) → 0 < length (if◌then◌else◌ t (v ∷ []) [])
        → (length (two_entries w (if◌then◌else◌ t 0 (v - base) ∷ [])) ≡ 0) × (length (four_entries w (if◌then◌else◌ t 0 (v - base) ∷ [])) ≡ 0)
    go true h = zero-alone w
    go false h = absurd (omega arith)

pub one-stored : (form : Form) (base v : ℕ) → One (stored_one form base v)
unfolding stored_for
one-stored form base v = record {
  image = refl;
  under = one-under form.underflow base v;
  two = one-two form.width (lowered form.underflow base v);
  four = one-four form.width (lowered form.underflow base v);
  alone = under-alone form.width form.underflow base v;
}

-- where a four-byte entry goes, no two-byte entry comes
four-large : (x : ℕ) → 0 < length (four_entries W.One (x ∷ [])) → 1 ≤ length (two_entries W.One (x ∷ []))
unfolding only
four-large x h = go (leb 65535 x) refl h
  where
    go : (t : Bool) → leb 65535 x ≡ t → 0 < length (if◌then◌else◌ t (x ∷ []) []) → 1 ≤ length (map at_most65535 (if◌then◌else◌ (leb 255 x) (x ∷ []) []))
    go true e h = let l = leb-true 65535 x e in rw (le-leb 255 x (omega arith)) (omega arith)
    go false e h = absurd (omega arith)

together-by : (w : Width) (x y : ℕ) → length (four_entries w (x ∷ [])) < length (four_entries w (y ∷ [])) → length (two_entries w (x ∷ [])) ≤ length (two_entries w (y ∷ []))
together-by W.One x y h = let a = one-two W.One x in let b = four-large y (omega arith) in omega arith
together-by W.Two x y h = omega arith
together-by W.Four x y h = omega arith

pub together : (form : Form) (base v o : ℕ) → length (stored_one form base v).four < length (stored_one form base o).four
    → length (stored_one form base v).two ≤ length (stored_one form base o).two
unfolding stored_for
together form base v o h = together-by form.width (lowered form.underflow base v) (lowered form.underflow base o) h

-- the bytes of a pixel's entry, or none
one_entry : (w v : ℕ) (t : Bool) → little_bytes (length (if◌then◌else◌ t (v ∷ []) []) * w) v ≡ table_of w (if◌then◌else◌ t (v ∷ []) [])
unfolding table_of little_bytes
one_entry w v true = rw (one-mul, append-nil)
one_entry w v false = rw zero-mul

capped-entry : (w v : ℕ) (f : ℕ → ℕ) (t : Bool) → little_bytes (length (map f (if◌then◌else◌ t (v ∷ []) [])) * w) (f v) ≡ table_of w (map f (if◌then◌else◌ t (v ∷ []) []))
unfolding table_of little_bytes
capped-entry w v f true = rw (one-mul, append-nil)
capped-entry w v f false = rw zero-mul

no-entry : (w v : ℕ) → little_bytes (0 * w) v ≡ table_of w []
unfolding table_of little_bytes
no-entry w v = rw zero-mul

under-entry : (u : Underflow) (w base v : ℕ) → little_bytes (length (under_entries u base (v ∷ [])) * w) v ≡ table_of w (under_entries u base (v ∷ []))
unfolding only
under-entry U.None w base v = no-entry w v
under-entry (U.Subtracted e) w base v = one_entry w v (is_underflow base v)

two-entry : (w : Width) (x : ℕ) → little_bytes (length (two_entries w (x ∷ [])) * 2) (at_most65535 x) ≡ table_of 2 (two_entries w (x ∷ []))
unfolding only
two-entry W.One x = capped-entry 2 x at_most65535 (leb 255 x)
two-entry W.Two x = no-entry 2 (at_most65535 x)
two-entry W.Four x = no-entry 2 (at_most65535 x)

four-entry : (w : Width) (x : ℕ) → little_bytes (length (four_entries w (x ∷ [])) * 4) x ≡ table_of 4 (four_entries w (x ∷ []))
unfolding only
four-entry W.One x = one_entry 4 x (leb 65535 x)
four-entry W.Two x = one_entry 4 x (leb 65535 x)
four-entry W.Four x = no-entry 4 x

module _ (form : Form) (base v : ℕ) where
  abbrev stored : Stored
  stored = stored_one form base v

  abbrev low : ℕ
  low = lowered form.underflow base v

  pub under-bytes : (w : ℕ) → little_bytes (length stored.under * w) v ≡ table_of w stored.under
  unfolding stored_for
  under-bytes w = under-entry form.underflow w base v

  pub two_bytes : little_bytes (length stored.two * 2) (at_most65535 low) ≡ table_of 2 stored.two
  unfolding stored_for
  two_bytes = two-entry form.width low

  pub four_bytes : little_bytes (length stored.four * 4) low ≡ table_of 4 stored.four
  unfolding stored_for
  four_bytes = four-entry form.width low

  pub image-bytes : (w : ℕ) → little_bytes w (stored_value form.width low) ≡ table_of w stored.image
  unfolding stored_for table_of
  image-bytes w = rw append-nil
