-- How many pixels take an entry of each table.
use Rattle.std.specs.Prelude.{ℕ, ◌≡◌, ◌+◌, ◌%◌, Bool, false, ◌||◌, leb, List, [], ◌∷◌, length, ◌==◌, nat_le, nat_lt, if◌then◌else◌}
use Rattle.lists.specs.Only.{only}
use Rattle.layout.specs.declared.Width.{Width}
use Rattle.layout.specs.declared.Width.TheVariants as W
use Rattle.layout.specs.declared.Underflow.{Underflow}
use Rattle.layout.specs.declared.Underflow.TheVariants as U
use Rattle.layout.specs.declared.Form.{Form}
use Rattle.header_text.specs.declared.Counts.{Counts}

-- a pixel at or below the baseline underflows
abbrev pub is_underflow : ℕ → ℕ → Bool
is_underflow base v = nat_le v base

-- some underflow entry does not fit one byte
unfoldable pub any_above255 : List ℕ → Bool
any_above255 [] = false
any_above255 (v ∷ vs) = nat_lt 255 v || any_above255 vs

-- how many pixels underflow, and how many are 255 and 65535 above the baseline
unfoldable pub counts_of : ℕ → List ℕ → Counts
unfolding only
counts_of base vs = record {
  under = length (only (is_underflow base) vs);
  two = length (only (leb (base + 255)) vs);
  four = length (only (leb (base + 65535)) vs);
}

-- the counts that a form has entries for
abbrev pub under_count : Underflow → ℕ → ℕ
under_count U.None n = 0
under_count (U.Subtracted e) n = n

abbrev pub two_count : Width → ℕ → ℕ
two_count W.One n = n
two_count W.Two n = 0
two_count W.Four n = 0

abbrev pub four_count : Width → ℕ → ℕ
four_count W.One n = n
four_count W.Two n = n
four_count W.Four n = 0

unfoldable pub counts_for : Form → Counts → Counts
counts_for form c = record { under = under_count form.underflow c.under; two = two_count form.width c.two; four = four_count form.width c.four }

abbrev pub no_counts : Counts
no_counts = record { under = 0; two = 0; four = 0 }

-- no frame has more than 4096 by 4096 pixels: of more, nothing is counted
abbrev pub is_too_many : List ℕ → Bool
is_too_many vs = nat_lt 16777216 (length vs)

unfoldable pub counted : Form → ℕ → List ℕ → Counts
unfolding counts_of counts_for
counted form base vs = if is_too_many vs then no_counts else counts_for form (counts_of base vs)

-- numbers of 32 bits as they are added
abbrev pub wrapped : ℕ → ℕ
wrapped n = n % 4294967296

unfoldable pub counts_more : Counts → Counts → Counts
counts_more c d = record { under = wrapped (c.under + d.under); two = wrapped (c.two + d.two); four = wrapped (c.four + d.four) }

-- how many numbers pass, in 32 bits
abbrev pub passing : (ℕ → Bool) → List ℕ → ℕ
passing p vs = wrapped (length (only p vs))

-- the same for numbers from a limit on, where a lower limit passes k: none where that is 0
abbrev pub passing_from : ℕ → ℕ → List ℕ → ℕ
passing_from k limit vs = if k == 0 then 0 else passing (leb limit) vs

-- For the contract of a private function. What a closure may answer is the test's answer
abbrev pub Answers : (ℕ → Bool) → (ℕ → Bool → Type 0) → Type 0
Answers p post = (v : ℕ) (r : Bool) → post v r → r ≡ p v
