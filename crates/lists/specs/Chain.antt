-- What is made of an answer: the value handed on, or what stands for a refusal or for nothing. Rust's `?` is `on_ok r Err`.
use Rattle.std.specs.Prelude.{Option, Some, None, Result, Ok, Err}

abbrev pub on_ok : {A E B : Type 0} → Result A E → (E → B) → (A → B) → B
on_ok (Ok a) up go = go a
on_ok (Err e) up go = up e

abbrev pub on_some : {A B : Type 0} → Option A → B → (A → B) → B
on_some (Some a) none go = go a
on_some None none go = none
