-- A header line is read the same from bytes that are the same there.
-- Assumes nothing.
use mathlib.Core.Path.{◌≡◌, refl, sym, ap, ◌∙◌}
use mathlib.Core.Bool.{Bool, true, false, ◌&&◌}
use mathlib.Core.List.{List, [], ◌∷◌}
use Prim.Native.Nat.{ℕ, zero, suc, ◌+◌, ◌*◌, ◌≤◌}
use native.Mathlib.Nat.{not-suc-le-zero}
use native.Mathlib.Omega.{arith}
use borrow.Author.Tests.{le-leb, le-ltb}
use lib.Dec.{leb}
use lib.ListN.{length, take, drop}
use Rattle.std.specs.Prelude.{if◌then◌else◌, Err, None, Option, Some, ℕ}
use Rattle.refusal.specs.declared.Refusal.TheVariants as R
use Rattle.field.specs.Fields.{number_field}
use Rattle.header_lines.specs.declared.LineId.{LineId}
use Rattle.header_lines.specs.declared.LineId.TheVariants as I
use Rattle.header_lines.specs.Lines.{line_of, position_of, starts_with, place_in, place_of, data_at, on_line}
use Rattle.header.specs.Steps.{line_number, value_of, number_in}
use Rattle.header.specs.Lead.{lead_of}
use Rattle.header.specs.Body.{baseline_text, baseline_of}
use Rattle.readback.proofs.Rewriting.{Agree}

starts-take : (n s : List ℕ) (k : ℕ) → length n ≤ k → starts_with n (take k s) ≡ starts_with n s
unfolding starts_with
starts-take [] s k h = refl
starts-take (n ∷ ns) [] zero h = refl
starts-take (n ∷ ns) [] (suc k) h = refl
starts-take (n ∷ ns) (b ∷ bs) zero h = absurd (not-suc-le-zero h)
starts-take (n ∷ ns) (b ∷ bs) (suc k) h = rw (starts-take ns bs k (omega arith))

name-length : (id : LineId) → length (line_of id).name ≡ 8
unfolding line_of
name-length I.Format = refl
name-length I.Version = refl
name-length I.Hdrblks = refl
name-length I.Noverfl = refl
name-length I.Npixelb = refl
name-length I.Nrows = refl
name-length I.Ncols = refl
name-length I.Linear = refl
name-length I.Nexp = refl

module _ (s t : List ℕ) (id : LineId) (ends : leb (position_of id * 80 + 80) (length s) ≡ leb (position_of id * 80 + 80) (length t))
    (named : take 8 (drop (position_of id * 80) s) ≡ take 8 (drop (position_of id * 80) t)) where
  pub same_place : place_of s id ≡ place_of t id
  unfolding place_in
  same_place =
      let n : starts_with (line_of id).name (drop (position_of id * 80) s) ≡ starts_with (line_of id).name (drop (position_of id * 80) t) =
      sym (starts-take (line_of id).name (drop (position_of id * 80) s) 8 (omega (arith, name-length id)))
      ∙ ap (starts_with (line_of id).name) named
      ∙ starts-take (line_of id).name (drop (position_of id * 80) t) 8 (omega (arith, name-length id)) in
      rw (ends, n)

  -- the line goes on in the same way
  module _ (texts : take 72 (drop (position_of id * 80 + 8) s) ≡ take 72 (drop (position_of id * 80 + 8) t)) where
    pub same_line : {A : Type 0} (wrong : A) (go on : List ℕ → A) → ((l : List ℕ) → go l ≡ on l) → on_line s id wrong go ≡ on_line t id wrong on
    unfolding place_in
    same_line wrong go on e =
        ap (λ (p : Option ℕ). data_at s p wrong go) same_place
        ∙ each (leb (position_of id * 80 + 80) (length t) && starts_with (line_of id).name (drop (position_of id * 80) t)) (position_of id * 80 + 8) texts
      where
        each : (b : Bool) (p : ℕ) → take 72 (drop p s) ≡ take 72 (drop p t) → data_at s (if◌then◌else◌ b (Some p) None) wrong go ≡ data_at t (if◌then◌else◌ b (Some p) None) wrong on
        each true p q = ap go q ∙ e (take 72 (drop p t))
        each false p q = refl

-- lines 0 to 2, of bytes that begin with the same 240
module _ (s t : List ℕ) (ls : 240 ≤ length s) (lt : 240 ≤ length t) (same : (k n : ℕ) → k + n ≤ 240 → take n (drop k s) ≡ take n (drop k t)) where
  ends : (n : ℕ) → n ≤ 240 → leb n (length s) ≡ leb n (length t)
  ends n h = le-leb n (length s) (omega arith) ∙ sym (le-leb n (length t) (omega arith))

  pub same-lead : lead_of s ≡ lead_of t
  unfolding lead_of line_of
  same-lead =
      rw (le-ltb (length s) 240 ls, le-ltb (length t) 240 lt)
      (same_line s t I.Format (ends 80 (omega arith)) (same 0 8 (omega arith)) (same 8 72 (omega arith)) (Err R.WrongName) _ _ (λ format.
      same_line s t I.Version (ends 160 (omega arith)) (same 80 8 (omega arith)) (same 88 72 (omega arith)) (Err R.WrongName) _ _ (λ version.
      same_line s t I.Hdrblks (ends 240 (omega arith)) (same 160 8 (omega arith)) (same 168 72 (omega arith)) (Err R.WrongName) _ _ (λ blocks. refl))))

-- the lines that the writer leaves as they are
module _ (s t : List ℕ) (g : Agree s t) where
  same_ends : (n : ℕ) → leb n (length s) ≡ leb n (length t)
  same_ends n = rw g.size

  pub place-noverfl : place_of s I.Noverfl ≡ place_of t I.Noverfl
  unfolding line_of
  place-noverfl = same_place s t I.Noverfl (same_ends 1680) (g.front 1600 8 (omega arith))

  pub place-npixelb : place_of s I.Npixelb ≡ place_of t I.Npixelb
  unfolding line_of
  place-npixelb = same_place s t I.Npixelb (same_ends 3200) (g.middle 3120 8 (omega arith) (omega arith))

  pub same_back : (id : LineId) → 3200 ≤ position_of id * 80 → {A : Type 0} (wrong : A) (go : List ℕ → A) → on_line s id wrong go ≡ on_line t id wrong go
  same_back id h wrong go =
      same_line s t id (same_ends (position_of id * 80 + 80)) (g.back (position_of id * 80) 8 h) (g.back (position_of id * 80 + 8) 72 (omega arith)) wrong go go (λ l. refl)

  pub same_number : (id : LineId) → 3200 ≤ position_of id * 80 → number_in id s ≡ number_in id t
  unfolding number_in
  same_number id h = same_back id h (Err R.BadLine) (λ text. value_of (line_number id (number_field text 0)))

  pub same-baseline : baseline_of s ≡ baseline_of t
  unfolding baseline_of line_of
  same-baseline = same_back I.Nexp (omega arith) (Err R.BadLine) (λ text. baseline_text text)
