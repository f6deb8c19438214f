-- Standing lines gathered at the end of a ledger's lines. No public contract cites this file.
use Rattle.std.specs.Prelude.{◌≡◌, List, ◌++◌, ℕ, ◌+◌, ◌*◌, length, drop}
use Rattle.ledger.specs.Lines.{lines_of, lines_bytes}
use Rattle.ledger.specs.Standing.{standing}

-- t is the ledger t₀ of n lines with those that stand gathered from place `to` on
pub record Gathered (t₀ : List ℕ) (n : ℕ) (t : List ℕ) (to : ℕ) : Type 0 where
  pub count : to + length (standing (lines_of n t₀)) ≡ n
  pub size : length t ≡ length t₀
  pub lines : drop (to * 16) t ≡ lines_bytes (standing (lines_of n t₀)) ++ drop (n * 16) t₀
