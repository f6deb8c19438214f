-- What holds on each way through the header's lines.
-- Assumes nothing.
use Rattle.lists.specs.Chain.{on_ok, on_some}
use mathlib.Core.Path.{◌≡◌, refl}
use mathlib.Core.Bool.{Bool, true, false}
use mathlib.Core.List.{List}
use Prim.Native.Nat.{ℕ}
use lib.ListN.{take, drop}
use Rattle.std.specs.Prelude.{if◌then◌else◌, Err, None, Ok, Option, Result, Some, ℕ}
use Rattle.refusal.specs.declared.Refusal.{Refusal}
use Rattle.layout.specs.declared.Width.{Width}
use Rattle.field.specs.declared.Cursor.{Cursor}
use Rattle.header_lines.specs.declared.LineId.{LineId}
use Rattle.header_lines.specs.Lines.{on_line, data_at, place_of}
use Rattle.header.specs.declared.Format.{Format}
use Rattle.header.specs.declared.Counts.{Counts}
use Rattle.header.specs.declared.Widths.{Widths}
use Rattle.header.specs.Steps.{on_number}

-- what holds on each way through a choice holds of it
module _ {X : Type 0} (G : X → Type 0) where
  pub if-good : (t : Bool) (a b : X) → (t ≡ true → G a) → (t ≡ false → G b) → G (if◌then◌else◌ t a b)
  if-good true a b p q = p refl
  if-good false a b p q = q refl

  pub number-good : (s : Result (ℕ × Cursor) Refusal) (up : Refusal → X) (go : ℕ → Cursor → X) → ((r : Refusal) → s ≡ Err r → G (up r)) → ((n : ℕ) (k : Cursor) → G (go n k)) → G (on_number s up go)
  number-good (Ok (n, k)) up go p q = q n k
  number-good (Err r) up go p q = p r refl

  pub ok-good : {A E : Type 0} (s : Result A E) (up : E → X) (go : A → X) → ((e : E) → s ≡ Err e → G (up e)) → ((a : A) → G (go a)) → G (on_ok s up go)
  ok-good (Ok a) up go p q = q a
  ok-good (Err e) up go p q = p e refl

  pub some-good : {A : Type 0} (s : Option A) (other : X) (go : A → X) → G other → ((a : A) → G (go a)) → G (on_some s other go)
  some-good (Some a) other go p q = q a
  some-good None other go p q = p

  pub data-good : (header : List ℕ) (s : Option ℕ) (wrong : X) (go : List ℕ → X) → G wrong → ((text : List ℕ) → G (go text)) → G (data_at header s wrong go)
  data-good header (Some start) wrong go p q = q (take 72 (drop start header))
  data-good header None wrong go p q = p

  pub line-good : (header : List ℕ) (id : LineId) (wrong : X) (go : List ℕ → X) → G wrong → ((text : List ℕ) → G (go text)) → G (on_line header id wrong go)
  line-good header id wrong go p q = data-good header (place_of header id) wrong go p q
