-- Request A2: numbers in the byte order of the machine that wrote the file.
use Rattle.std.specs.Prelude.{ℕ, suc, ◌*◌, List, length, take, drop, leb, if◌then◌else◌}
use Rattle.lists.specs.Bytes.{little, big, chunked}
use Rattle.byte_order.specs.declared.ByteOrder.{ByteOrder}
use Rattle.byte_order.specs.declared.ByteOrder.TheVariants as O

-- the number in the first w bytes of t
unfoldable pub number : ByteOrder → ℕ → List ℕ → ℕ
number O.Little w t = little w t
number O.Big w t = big (take w t)

-- the first n numbers of w bytes each at the front of t
unfoldable pub numbers : ByteOrder → ℕ → ℕ → List ℕ → List ℕ
numbers o w n t = chunked (number o w) w n t

-- number k of t, counted from 0; 0 where t ends before it does
unfoldable pub number_at : ByteOrder → ℕ → ℕ → List ℕ → ℕ
unfolding number
number_at o w k t = if leb (suc k * w) (length t) then number o w (drop (k * w) t) else 0
