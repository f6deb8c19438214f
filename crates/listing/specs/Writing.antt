-- Text written into a buffer from its end to its start.
use Rattle.std.specs.Prelude.{ℕ, ◌+◌, ◌≤◌, ◌≡◌, List, ◌++◌, length, take, drop}

-- the text written so that it ends before place `at`; it starts at `start`
pub record Wrote (buffer : List ℕ) (at : ℕ) (after : List ℕ) (start : ℕ) (text : List ℕ) : Type 0 where
  pub room : at ≤ length buffer
  pub place : start + length text ≡ at
  pub bytes : after ≡ take start buffer ++ (text ++ drop at buffer)
