-- What the programs print of an answer.
use Rattle.std.specs.Prelude.{ℕ, Result, Ok, Err}
use Rattle.refusal.specs.declared.Refusal.{Refusal}
use Rattle.refusal.specs.Codes.{refusal_number}

-- 0, or the refusal's number
abbrev pub answered : {A : Type 0} → Result A Refusal → ℕ
answered (Ok a) = 0
answered (Err r) = refusal_number r
