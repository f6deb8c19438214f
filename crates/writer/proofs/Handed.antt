-- What an Option says of the Result that `ok_or` makes of it.
-- Assumes nothing.
use Rattle.std.proofs.Common.{◌≡◌, refl}
use Rattle.std.specs.Prelude.{Option, Some, None, Ok, Err}
use Rattle.std.specs.Option.{ok_or}

pub ok_or-ok : {A E : Type 0} (o : Option A) (e : E) (a : A) → ok_or o e ≡ Ok a → o ≡ Some a
ok_or-ok None e a q = absurd cc
ok_or-ok (Some b) e a q = cc

pub ok_or-err : {A E : Type 0} (o : Option A) (e x : E) → ok_or o e ≡ Err x → (o ≡ None) × (x ≡ e)
ok_or-err None e x q = (refl, cc)
ok_or-err (Some b) e x q = absurd cc
