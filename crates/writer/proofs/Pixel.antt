-- One pixel: its stored value and its entries.
-- Assumes nothing.
use Rattle.std.proofs.Common.{◌≡◌, ℕ, ◌+◌, ◌-◌, ◌*◌, ◌<◌, ◌≤◌, leb, List, [], ◌∷◌, length, refl, ◌∙◌, arith, le-leb}
use borrow.Author.Tests.{lt-leb}
use Rattle.std.specs.Prelude.{if◌then◌else◌}
use Rattle.lists.specs.Bytes.{over}
use Rattle.layout.specs.declared.Width.{Width}
use Rattle.layout.specs.declared.Width.TheVariants as W
use Rattle.layout.specs.declared.Underflow.TheVariants as U
use Rattle.layout.specs.declared.EntryWidth.{EntryWidth}
use Rattle.layout.specs.declared.Form.{Form}
use Rattle.layout.specs.Form.{width_bytes, entry_bytes, underflow_bytes}
use Rattle.table.specs.Writing.{table_of}
use Rattle.writer.specs.Storing.{at_most65535, stored_value, two_entries, four_entries, under_entries, lowered_all, stored_for}
use Rattle.lists.specs.Only.{only}
use Rattle.writer.specs.Blocks.{Room, ValuesRoom, put_values, places_past}
use Rattle.writer.specs.declared.Places.{Places}
use Rattle.writer.proofs.Over.{none-put}
use Rattle.writer.proofs.Placing.{past_is, values-are, room-under}

-- an entry that has room
pub entry-put : (w at v : ℕ) (d d' : List ℕ) → at + w ≤ length d → d' ≡ if◌then◌else◌ (leb (at + w) (length d)) (over at (table_of w (v ∷ [])) d) d → d' ≡ over at (table_of w (v ∷ [])) d
entry-put w at v d d' h e = e ∙ rw (le-leb (at + w) (length d) h)

-- a value in a width: what the image stores of it, and its entries
pub record Value (w : Width) (x i : ℕ) (two four : List ℕ) : Type 0 where
  pub image-is : stored_value w x ≡ i
  pub two_is : two_entries w (x ∷ []) ≡ two
  pub four_is : four_entries w (x ∷ []) ≡ four

pub one-small : (x : ℕ) → x < 255 → Value W.One x x [] []
unfolding only
one-small x h = let a = lt-leb 255 x h in let b = lt-leb 65535 x (omega arith) in record { image-is = rw a; two_is = rw a; four_is = rw b }

pub one-middle : (x : ℕ) → 255 ≤ x → x < 65535 → Value W.One x 255 (at_most65535 x ∷ []) []
unfolding only
one-middle x h k = let a = le-leb 255 x h in let b = lt-leb 65535 x k in record { image-is = rw a; two_is = rw a; four_is = rw b }

pub one-large : (x : ℕ) → 65535 ≤ x → Value W.One x 255 (at_most65535 x ∷ []) (x ∷ [])
unfolding only
one-large x h = let a = le-leb 255 x (omega arith) in let b = le-leb 65535 x h in record { image-is = rw a; two_is = rw a; four_is = rw b }

pub two-small : (x : ℕ) → x < 65535 → Value W.Two x x [] []
unfolding only
two-small x h = let b = lt-leb 65535 x h in record { image-is = rw b; two_is = refl; four_is = rw b }

pub two-large : (x : ℕ) → 65535 ≤ x → Value W.Two x 65535 [] (x ∷ [])
unfolding only
two-large x h = let b = le-leb 65535 x h in record { image-is = rw b; two_is = refl; four_is = rw b }

pub four-any : (x : ℕ) → Value W.Four x x [] []
four-any x = record { image-is = refl; two_is = refl; four_is = refl }

module _ {w : Width} {x i : ℕ} {two four : List ℕ} (v : Value w x i two four) where
  pub value_room : (at : Places) (n : ℕ) → ValuesRoom w (x ∷ []) at n → (at.image + width_bytes w ≤ n) × (at.two + length two * 2 ≤ n) × (at.four + length four * 4 ≤ n)
  value_room at n r = (omega (arith, r.image), rw v.two_is at r.two, rw v.four_is at r.four)

  pub value-places : (at : Places) (a b c : ℕ) → a ≡ at.image + width_bytes w → b ≡ at.two + length two * 2 → c ≡ at.four + length four * 4
      → ◌≡◌ {A = Places} (record { image = a; under = at.under; two = b; four = c }) (places_past w (x ∷ []) at)
  value-places at a b c ea eb ec = past_is w (x ∷ []) at a b c (omega arith) (rw v.two_is eb) (rw v.four_is ec)

  pub value-put : (at : Places) (out out₁ out₂ out₃ : List ℕ) → out₁ ≡ over at.two (table_of 2 two) out → out₂ ≡ over at.four (table_of 4 four) out₁
      → out₃ ≡ over at.image (table_of (width_bytes w) (i ∷ [])) out₂ → out₃ ≡ put_values w (x ∷ []) at out
  value-put at out out₁ out₂ out₃ e₁ e₂ e₃ = values-are w (x ∷ []) at out out₁ out₂ out₃ (rw v.two_is e₁) (rw v.four_is e₂) (rw v.image-is e₃)

-- no entry
pub none-entered : (at w : ℕ) (d : List ℕ) → d ≡ over at (table_of w []) d
none-entered at w d = (none-put at w [] d refl).1

-- A pixel of a kind that subtracts.
module _ (form : Form) (base v : ℕ) (e : EntryWidth) (kind : form.underflow ≡ U.Subtracted e) where
  pub above_low : base < v → (v - base) ∷ [] ≡ lowered_all form base (v ∷ [])
  above_low h = rw (kind, lt-leb v base h)

  pub above-under : base < v → (at : ℕ) (out : List ℕ)
      → (at ≡ at + length (under_entries form.underflow base (v ∷ [])) * underflow_bytes form.underflow) × (out ≡ over at (table_of (underflow_bytes form.underflow) (under_entries form.underflow base (v ∷ []))) out)
  unfolding only
  above-under h at out = none-put at (underflow_bytes form.underflow) (under_entries form.underflow base (v ∷ [])) out (rw (kind, lt-leb v base h))

  pub below-low : v ≤ base → 0 ∷ [] ≡ lowered_all form base (v ∷ [])
  below-low h = rw (kind, le-leb v base h)

  below-entries : v ≤ base → under_entries form.underflow base (v ∷ []) ≡ v ∷ []
  unfolding only
  below-entries h = rw (kind, le-leb v base h)

  pub below-room : v ≤ base → (n : ℕ) (at : Places) → Room form (stored_for form base (v ∷ [])) at n → at.under + entry_bytes e ≤ n
  unfolding only
  below-room h n at r = omega (arith, rw (le-leb v base h) at (room-under form base n (v ∷ []) at e kind r))

  pub below-under : v ≤ base → (at r : ℕ) (out out' : List ℕ) → r ≡ at + entry_bytes e → out' ≡ over at (table_of (entry_bytes e) (v ∷ [])) out
      → (r ≡ at + length (under_entries form.underflow base (v ∷ [])) * underflow_bytes form.underflow) × (out' ≡ over at (table_of (underflow_bytes form.underflow) (under_entries form.underflow base (v ∷ []))) out)
  below-under h at r out out' p q = rw (below-entries h, kind) (omega arith, q)
