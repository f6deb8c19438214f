-- Request A2 and source document 003: one of the 25 entries of a mar header record.
use Rattle.lists.specs.Chain.{on_ok}
use Rattle.refusal.specs.declared.Refusal.{Refusal}
use Rattle.std.specs.Prelude.{ℕ, ◌&&◌, List, leb, ltb, if◌then◌else◌, Err, Ok, Result}
use Rattle.std.specs.Float.{binary32}
use Rattle.std.specs.Float.Ieee.{of_bits}
use Rattle.refusal.specs.declared.Refusal.TheVariants as R
use Rattle.byte_order.specs.declared.ByteOrder.{ByteOrder}
use Rattle.mar_header.specs.MarHeader.{header_number, mar_header}
use Rattle.mar_entry.specs.declared.EntryValue.{EntryValue}
use Rattle.mar_entry.specs.declared.EntryValue.TheVariants as EV

-- a float with its bits as stored; every NaN pattern has the one value `nan`
abbrev pub float_of : ℕ → EntryValue
float_of bits = EV.Float bits (of_bits binary32 bits)

-- entries 1 to 10 are unsigned numbers, 11 to 25 single-precision floats
unfoldable pub value_of : ℕ → ℕ → EntryValue
value_of entry bits = if leb entry 10 then EV.Whole bits else float_of bits

-- 37 for an entry outside 1 to 25
unfoldable pub entry_in : List ℕ → ByteOrder → ℕ → Result EntryValue Refusal
unfolding value_of
entry_in bytes o entry =
    if ltb 0 entry && leb entry 25 then Ok (value_of entry (header_number o entry bytes)) else
    Err R.NoSuchEntry

-- 28, 1, 29, then 37
unfoldable pub entry_of : List ℕ → ℕ → Result EntryValue Refusal
entry_of bytes entry = on_ok (mar_header bytes) Err (λ h. entry_in bytes h.order entry)
