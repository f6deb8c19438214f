-- Demand 3: after an opening that is accepted, with no line in the ledger, every list of the model's calls gives on real bytes what the
-- reference model gives (document 01's plain book, with A6's amending, A8's compaction and A14's opening), refused calls included.
use Rattle.std.specs.Prelude.{ℕ, ◌≤◌, ◌<◌, ◌≡◌, List, map, reverse, length, get_or, Some}
use Rattle.lists.specs.Bytes.{held_bytes}
use Rattle.layout.specs.declared.Form.{Form}
use Rattle.writer.specs.Writer as Writer
use Rattle.writer.specs.Writer.{writer_frame}
use Rattle.readback.specs.Held.{held_form}
use Rattle.ledger.specs.Lines.{lines_of}
use Rattle.ledger.specs.Standing.{standing}
use Rattle.model.specs.Model.{Call, Ran, run, Model, Opening, empty_model, model_pixels, model_step, seen_line, seen_entry}
use Rattle.model.specs.Ledger.{ledger_bytes, empty_ledger, ledger_run}
use Rattle.model.specs.Run.{State, step, opening_of, OpenedIn, opened_state, AllCounted}

-- What holds after the calls cs, of what they gave and left on real bytes and of what the model gave and is. The model was fed o;
-- the ledger's bytes at first were `before`.
pub record Agreement (o : Opening) (before : List ℕ) (cs : List Call) (real : Ran State) (model : Ran Model) : Type 0 where
  -- every answer, each refusal by its number, and every number of lines is the model's
  pub replies : real.replies ≡ model.replies
  pub lines : real.state.lines ≡ model.state.lines
  -- the held buffer is the writer's frame, from the opened header and in the form opened in, for the model's pixels, and then zeros
  pub frame : List ℕ
  pub frame_is : writer_frame o.header (Some o.form) (model_pixels o model.state) ≡ Writer.frame frame
  pub frame-fits : length frame ≤ o.held_length
  pub held : real.state.held ≡ held_bytes o.held_length frame
  -- and its header names that form
  pub form-named : held_form real.state.held ≡ Some o.form
  -- the ledger is the lines that the accepted calls appended and compaction left, in their order, and then the bytes behind them: those at first, and 0
  -- where compaction freed a line
  pub ledger : real.state.ledger ≡ ledger_bytes (ledger_run o cs empty_model (empty_ledger before))
  pub ledger-size : length real.state.ledger ≡ length before
  pub read : lines_of real.state.lines real.state.ledger ≡ (ledger_run o cs empty_model (empty_ledger before)).lines
  -- the lines that stand by the cancelling rule are the stack from below, in all but the old count
  pub stands : map seen_line (standing (lines_of real.state.lines real.state.ledger)) ≡ map seen_entry (reverse model.state.stack)

-- The theorem. Bytes are below 256 and counts have 32 bits, as the public functions take them.
abbrev pub Demand3 : Type 0
Demand3 =
    (bytes pixels held ledger : List ℕ) (form : Form)
    → ((i : ℕ) → get_or bytes i 0 < 256)
    → OpenedIn bytes pixels held form
    → (cs : List Call)
    → AllCounted cs
    → (let o = opening_of bytes pixels form held ledger in
    Agreement o ledger cs (run step cs (opened_state bytes pixels form held ledger)) (run (model_step o) cs empty_model))
