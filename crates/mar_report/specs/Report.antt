-- The C interface: what a question for an entry of a mar header answers, as plain numbers.
use Rattle.std.specs.Prelude.{Err, Ok, Result}
use Rattle.refusal.specs.declared.Refusal.{Refusal}
use Rattle.refusal.specs.Codes.{refusal_number}
use Rattle.mar_entry.specs.declared.EntryValue.{EntryValue}
use Rattle.mar_entry.specs.declared.EntryValue.TheVariants as EV
use Rattle.mar_report.specs.declared.MarEntryResult.{MarEntryResult}

-- an entry's bits as stored, and whether they are a float's
abbrev pub value_result : EntryValue → MarEntryResult
value_result (EV.Whole bits) = record { refusal = 0; is_float = 0; bits = bits }
value_result (EV.Float bits value) = record { refusal = 0; is_float = 1; bits = bits }

abbrev pub mar_entry_result : Result EntryValue Refusal → MarEntryResult
mar_entry_result (Ok v) = value_result v
mar_entry_result (Err r) = record { refusal = refusal_number r; is_float = 0; bits = 0 }
