-- Bounds of accepted numbers.
-- Assumes nothing.
use mathlib.Core.Path.{◌≡◌, refl}
use mathlib.Core.Bool.{Bool, true, false, ◌&&◌}
use Prim.Native.Nat.{ℕ, ◌≤◌}
use native.Mathlib.Omega.{arith}
use borrow.Author.Tests.{leb-true}
use lib.Dec.{leb}
use Rattle.lists.proofs.Tests.{and-true-left, and-true-right}
use Rattle.header.specs.declared.Format.{Format}
use Rattle.header.specs.Lead.{is_multiple, is_blocks}

pub blocks-small : (f : Format) (n : ℕ) → is_blocks f n ≡ true → n ≤ 64
blocks-small f n t =
    leb-true n 64 (and-true-left (leb n 64) (is_multiple f n) (and-true-right (leb 10 n) (leb n 64 && is_multiple f n) t))
