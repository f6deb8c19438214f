-- The C interface's answer to a reading: document 01's numbers and values.
use Rattle.std.specs.Prelude.{ℕ, Result, Ok, Err}
use Rattle.refusal.specs.declared.Refusal.{Refusal}
use Rattle.refusal.specs.Codes.{code_of}
use Rattle.layout.specs.declared.Frame.{Frame}
use Rattle.answers.specs.declared.ReadResult.{ReadResult}

-- rows, columns, and the place where the file's contents end
abbrev pub read_accepted : ℕ → ℕ → ℕ → ReadResult
read_accepted rows columns end =
    record { refusal = 0; place = 0; column = 0; rows = rows; columns = columns; end = end }

-- a refusal's number, and its header line or entry
abbrev pub read_refused : Refusal → ReadResult
read_refused r = record {
  refusal = (code_of r).number;
  place = (code_of r).place;
  column = 0;
  rows = 0;
  columns = 0;
  end = 0;
}

-- what reading a file answers, whatever its format
abbrev pub read_result : Result Frame Refusal → ReadResult
read_result (Ok f) = read_accepted f.rows f.columns f.end
read_result (Err r) = read_refused r
