-- Request A2: the high-intensity pairs of a mar image plate, as entries for marked pixels.
use Rattle.marks.specs.Steps.{entry_read}
use Rattle.marks.specs.declared.Entry.{Entry}
use Rattle.std.specs.Prelude.{ℕ, zero, suc, ◌-◌, ◌&&◌, List, [], ◌∷◌, drop, ltb, if◌then◌else◌, None, Option, Some}
use Rattle.byte_order.specs.declared.ByteOrder.{ByteOrder}
use Rattle.byte_order.specs.Numbers.{number_at}

-- an address counts from 1, and a count is above 65535
unfoldable pub pair_entry : ℕ → ℕ → Option Entry
pair_entry address count =
    if ltb 0 address && ltb 65535 count then Some (entry_read count (address - 1)) else None

-- a pair is an address and a count, 32 bits each
unfoldable pub pair_at : ByteOrder → List ℕ → Option Entry
unfolding pair_entry
pair_at o t = pair_entry (number_at o 4 0 t) (number_at o 4 1 t)

-- the first n pairs of t
unfoldable pub pair_entries : ByteOrder → ℕ → List ℕ → List (Option Entry)
unfolding pair_at
pair_entries o zero t = []
pair_entries o (suc n) t = pair_at o t ∷ pair_entries o n (drop 8 t)
