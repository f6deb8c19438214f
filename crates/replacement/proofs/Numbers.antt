-- One pixel's entries counted.
-- Assumes nothing.
use Prim.Native.Nat.{ℕ, ◌+◌, ◌*◌, ◌≤◌}
use native.Mathlib.Omega.{arith}
use native.Mathlib.Nat.{mul-le-mul_left}
use Rattle.splice.proofs.Fits.{fits-then, pad-bounds}
use Rattle.replacement.specs.declared.Cut.{Cut}
use Rattle.replacement.specs.Replaced.{cut_len, len_then, len_now, CutFits, LastFits, FirstFits}

pub product : (n w : ℕ) → w ≤ 4 → n * w ≤ n * 4
product n w h = mul-le-mul_left n h

-- what an edit that fits says of its numbers
abbrev pub Said : ℕ → Cut → ℕ → ℕ → Type 0
Said N k s post = (k.n ≤ N) × (k.old ≤ k.n) × (k.width ≤ 16) × (s + len_then k + post ≤ N) × (s + len_now k + post ≤ N)

said : (N : ℕ) (k : Cut) (s post : ℕ) → CutFits N k s post → Said N k s post
unfolding cut_len
said N k s post c =
    let f = fits-then N s k.n k.before k.old post k.width c in
    let p = pad-bounds k.n in
    (omega arith, omega arith, f.2, f.3, f.4)

pub last_says : (N s : ℕ) (u t f : Cut) → LastFits N s u t f
    → Said N f (s + len_then u + len_then t) 0 × Said N t (s + len_then u) (len_now f) × Said N u s (len_now t + len_now f)
last_says N s u t f c = (said N f _ _ c.0, said N t _ _ c.1, said N u _ _ c.2)

pub first_says : (N s : ℕ) (u t f : Cut) → FirstFits N s u t f
    → Said N u s (len_then t + len_then f) × Said N t (s + len_now u) (len_then f) × Said N f (s + len_now u + len_now t) 0
first_says N s u t f c = (said N u _ _ c.0, said N t _ _ c.1, said N f _ _ c.2)
